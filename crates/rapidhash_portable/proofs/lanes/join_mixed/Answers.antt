use Rattle.std.proofs.Common.{arith}
use Rattle.rapidhash_portable.proofs.FoldedLemmas.{AfterRows-mixed, PrefixIsFolded-none}
use Rattle.rapidhash_portable.proofs.lanes.join_mixed.Goals as goal

pub returns : goal.returns
returns g c = λ x seed f.
    let seven = c.fold_rows-wide.ensures in
    let three = c.fold_rows-rest.ensures in
    AfterRows-mixed seed _ (seven.on x _ f) (omega (arith, seven.all)) (three.on _ _ (PrefixIsFolded-none (omega arith))) (omega (arith, three.all)) c.join.ensures
