use Rattle.std.proofs.Common.{◌*◌, arith}
use Rattle.std.proofs.lemmas.List.{take_rest}
use Rattle.rapidhash_portable.proofs.FoldedLemmas.{HaveFolded-more}
use Rattle.rapidhash_portable.proofs.lanes.fold_two_rows.Goals as goal

pub returns-else-this-eq7 : goal.returns-else-this-eq7
returns-else-this-eq7 g c = HaveFolded-more c.fold_row.ensures (16 * g.row.WIDTH) (omega arith) (take_rest c.args.rows.now (16 * g.row.WIDTH)) c.fold_row-else-this-eq7.ensures
