use Rattle.std.proofs.Common.{◌*◌, arith}
use Rattle.std.proofs.lemmas.List.{take_rest}
use Rattle.rapidhash_portable.proofs.StreamLemmas.{Running-more}
use Rattle.rapidhash_portable.proofs.v3.stream.folded.Folded.fold_chunks.Goals as goal

pub loop-rest-preserved : goal.loop-rest-preserved
loop-rest-preserved g c = record {
  on = λ x seed earlier r.
      Running-more (c.loop-rest.invariant.on x seed earlier r) _ _ _ 2 (32 * g.row.LANES) c.step_twice.ensures.folded (omega (arith, c.step_twice.ensures.two))
      (omega arith) (omega arith) (take_rest c.loop-rest.rest.now (32 * g.row.LANES));
  fewer = omega arith;
}

pub returns-then-rest-clause-on : goal.returns-then-rest-clause-on
returns-then-rest-clause-on g c = λ x seed earlier r.
    Running-more (c.loop-rest.invariant.on x seed earlier r) _ _ _ 1 (16 * g.row.LANES) c.step.ensures.folded (omega (arith, c.step.ensures.one))
    (omega arith) (omega arith) (take_rest c.loop-rest.rest.now (16 * g.row.LANES))
