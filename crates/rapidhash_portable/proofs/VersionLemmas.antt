-- The version with a name.
use Rattle.std.proofs.Common.{◌≡◌, ◌↔◌, ℕ, Bool, true, List, [], ◌∷◌, Option, Some, refl, subst, bytes_eq, arith, tests}
use Rattle.std.specs.List.{find}
use Rattle.std.proofs.lemmas.Slice.Eq.{bytes_eq-Decides}
use Rattle.rapidhash_portable.specs.declared.form.Version.{Version}
use Rattle.rapidhash_portable.specs.declared.form.Version.TheVariants.{V1, V2Minor0, V2Minor1, V2Minor2, V3, V3Micro, V3Nano}
use Rattle.rapidhash_portable.specs.Version.{name_of, versions}

-- what is found passes
pub find-passes : {X : Type 0} (test : X → Bool) (xs : List X) (x : X) → find test xs ≡ Some x → test x ≡ true
find-passes test [] x e = search (tests)
find-passes test (y ∷ ys) x e = grind (arith, tests, find-passes test ys x)

-- the version with this name, in the list
abbrev pub named : List ℕ → Option Version
named name = find (λ version. bytes_eq (name_of version) name) versions

-- each version is found by its name
pub named-name_of : (version : Version) → named (name_of version) ≡ Some version
named-name_of V1 = refl
named-name_of V2Minor0 = refl
named-name_of V2Minor1 = refl
named-name_of V2Minor2 = refl
named-name_of V3 = refl
named-name_of V3Micro = refl
named-name_of V3Nano = refl

-- a version is found exactly by its name
pub named-is : (name : List ℕ) (version : Version) → (named name ≡ Some version) ↔ (name_of version ≡ name)
named-is name version = (
  (λ found. (bytes_eq-Decides _ _).0 (find-passes (λ v. bytes_eq (name_of v) name) versions version found)),
  (λ same. subst (λ n. named n ≡ Some version) same (named-name_of version)),
)
