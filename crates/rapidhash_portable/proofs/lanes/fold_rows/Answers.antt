use Rattle.std.proofs.Common.{◌*◌, arith}
use Rattle.std.proofs.lemmas.List.{take_rest}
use Rattle.rapidhash_portable.proofs.FoldedLemmas.{PrefixIsFolded-more}
use Rattle.rapidhash_portable.proofs.lanes.fold_rows.Goals as goal

pub loop-rest-preserved : goal.loop-rest-preserved
loop-rest-preserved g c = record {
  on = λ x starts f.
      PrefixIsFolded-more (c.loop-rest.invariant.on x starts f) c.fold_two_rows.new.lanes _ 2 (32 * g.row.WIDTH) c.fold_two_rows.ensures
      (omega arith) (omega arith) (take_rest c.loop-rest.rest.now (32 * g.row.WIDTH));
}

pub loop-rest-2-preserved : goal.loop-rest-2-preserved
loop-rest-2-preserved g c = record {
  on = λ x starts f.
      PrefixIsFolded-more (c.loop-rest-2.invariant.on x starts f) c.fold_row.new.lanes _ 1 (16 * g.row.WIDTH) c.fold_row.ensures
      (omega arith) (omega arith) (take_rest c.loop-rest-2.rest.now (16 * g.row.WIDTH));
}
