use Rattle.std.proofs.Common.{le_refl}
use Rattle.rapidhash_portable.proofs.FoldedLemmas.{AfterRows-wide}
use Rattle.rapidhash_portable.proofs.lanes.join_wide.Goals as goal

pub returns : goal.returns
returns g c = λ x seed f.
    let rows = c.fold_rows-rest.ensures in
    AfterRows-wide g.row.LANES seed _ (rows.on x _ f) (le_refl g.row.LANES) rows.all c.join.ensures
