-- The names of a list, for the function that reads them.
use denote.Ref.{Bor}
use Rattle.std.proofs.Common.{◌≡◌, ℕ, ◌<◌, List, [], ◌∷◌, ◌++◌, length, map, refl, ap, ◌∙◌, arith}
use Rattle.std.proofs.lemmas.List.{append_assoc, length-append}
use Rattle.rapidsum.proofs.Lists.{IsLast, IsNext}
use Rattle.rapidsum.specs.Sources.{AreNames, IsName, ended, last_name}

-- the names so far are the first names of the list, and the rest of its text has the others
abbrev pub IsNamedTo : List ℕ → List (Bor (List ℕ)) → List ℕ → List (List ℕ) → Type 0
IsNamedTo last [] rest names = rest ≡ ended names ++ last
IsNamedTo last (name ∷ found) rest [] = (found ≡ []) × ((name.now ≡ last) × ((rest ≡ []) × (0 < length last)))
IsNamedTo last (name ∷ found) rest (one ∷ names) = (name.now ≡ one) × IsNamedTo last found rest names

-- one more name
pub name-next : (last : List ℕ) (found : List (Bor (List ℕ))) (first : Bor (List ℕ)) (text more : List ℕ) (names : List (List ℕ))
    → AreNames names → IsName last → IsNamedTo last found text names → 0 < length text
    → IsNext 0 text first.now more → IsLast 0 text first.now more
    → IsNamedTo last (found ++ first ∷ []) more names
name-next last [] first text more [] are plain named some next ending =
    let parts = ending (rw named plain) in
    (refl, (parts.0 ∙ named, (parts.1, omega (arith, some, ap length named))))
name-next last [] first text more (one ∷ names) are plain named some next ending =
    next one (ended names ++ last) are.0 (named ∙ append_assoc one (0 ∷ ended names) last)
name-next last (f ∷ fs) first text more [] are plain named some next ending = absurd (omega (arith, some, ap length named.1.1.0))
name-next last (f ∷ fs) first text more (one ∷ names) are plain named some next ending =
    (named.0, name-next last fs first text more names are.1 plain named.1 some next ending)

-- at the end of the text all names are found
pub all-named : (last : List ℕ) (found : List (Bor (List ℕ))) (text : List ℕ) (names : List (List ℕ))
    → IsNamedTo last found text names → length text ≡ 0 → map (λ name. name.now) found ≡ names ++ last_name last
all-named [] [] text [] named end = refl
all-named (b ∷ bs) [] text [] named end = absurd (omega (arith, end, ap length named))
all-named last [] text (one ∷ names) named end =
    absurd (omega (arith, end, ap length named, length-append (one ++ 0 ∷ ended names) last, length-append one (0 ∷ ended names)))
all-named [] (f ∷ fs) text [] named end = absurd (omega (arith, named.1.1.1))
all-named (b ∷ bs) (f ∷ fs) text [] named end = rw (named.0, named.1.0) refl
all-named last (f ∷ fs) text (one ∷ names) named end = rw (named.0, all-named last fs text names named.1 end) refl
