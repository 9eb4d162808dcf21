-- The remaining bytes of readers, if they are known.
use Rattle.std.specs.Prelude.{◌≡◌, ◌↔◌, ℕ, Bool, List, Option, IsTrue, IfSome}
use Rattle.std.specs.Io.KnownBytes.{Consumes}

-- whether the bytes are the same, if both are known
abbrev pub SameBytes : Bool → Option (List ℕ) → Option (List ℕ) → Type 0
SameBytes same left right = IfSome left (λ xs. IfSome right (λ ys. IsTrue same ↔ (xs ≡ ys)))

-- the same bytes were read from both
pub record SharesFront (left left' right right' : Option (List ℕ)) : Type 0 where
  pub front : List ℕ
  pub of_left : Consumes left left' front
  pub of_right : Consumes right right' front
