-- Properties of the verdicts of a list, as one more line is checked.
use Rattle.std.proofs.Common.{◌≡◌, ℕ, suc, ◌+◌, ◌<◌, ◌&&◌, Bool, true, false, List, get_or, take-suc, arith, [], ◌∷◌, ◌++◌, length, take, Option, refl, sym, ap, ◌∙◌}
use Rattle.std.proofs.lemmas.List.Folds.{list_all-append}
use Rattle.std.specs.List.{list_all}
use Rattle.rapidsum.specs.Check.{EachIsRight, IsRightOf, passes}
use Rattle.rapidsum.specs.declared.algorithm.Algorithm.{Algorithm}
use Rattle.rapidsum.specs.declared.entry.Entry.{Entry}
use Rattle.rapidsum.specs.declared.check.Verdict.{Verdict}

-- one more right verdict
pub right-more : {A : Type 0} (ignore : Bool) (given : Algorithm) (told : List ℕ → Option (List ℕ)) (entries : List (Entry A)) (verdicts : List Verdict) (entry : Entry A) (verdict : Verdict)
    → EachIsRight ignore given told entries verdicts → IsRightOf ignore given told entry verdict
    → EachIsRight ignore given told (entries ++ entry ∷ []) (verdicts ++ verdict ∷ [])
right-more ignore given told [] [] entry verdict each right = (right, each)
right-more ignore given told [] (v ∷ vs) entry verdict each right = absurd each
right-more ignore given told (e ∷ es) [] entry verdict each right = absurd each
right-more ignore given told (e ∷ es) (v ∷ vs) entry verdict each right = (each.0, right-more ignore given told es vs entry verdict each.1 right)

-- the same of the line at a place of a list
pub right-next : {A : Type 0} (ignore : Bool) (given : Algorithm) (told : List ℕ → Option (List ℕ)) (entries : List (Entry A)) (verdicts after : List Verdict) (entry : Entry A) (verdict : Verdict) (i : ℕ)
    → i < length entries → entry ≡ get_or entries i entry → after ≡ verdicts ++ verdict ∷ []
    → EachIsRight ignore given told (take i entries) verdicts → IsRightOf ignore given told entry verdict
    → EachIsRight ignore given told (take (i + 1) entries) after
right-next ignore given told entries verdicts after entry verdict i below is pushed each right =
    let more = right-more ignore given told (take i entries) verdicts entry verdict each right in
    let next : i + 1 ≡ suc i = omega arith in
    let taken : take (i + 1) entries ≡ take i entries ++ entry ∷ [] =
    ap (λ (k : ℕ). take k entries) next ∙ take-suc entries i entry below ∙ ap (λ e. take i entries ++ e ∷ []) (sym is) in
    rw (taken, pushed) more

-- a last test
last : (b c : Bool) → (b && c) ≡ (b && (c && true))
last true true = refl
last true false = refl
last false true = refl
last false false = refl

-- whether all pass, with one more verdict
pub passed-next : (passed one : Bool) (verdicts after : List Verdict) (verdict : Verdict)
    → passed ≡ list_all passes verdicts → one ≡ passes verdict → after ≡ verdicts ++ verdict ∷ []
    → (passed && one) ≡ list_all passes after
passed-next passed one verdicts after verdict was is pushed =
    rw (was, is, pushed, list_all-append passes verdicts (verdict ∷ [])) (last (list_all passes verdicts) (passes verdict))
