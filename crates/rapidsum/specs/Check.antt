-- The results of a check.
use Rattle.std.specs.Prelude.{ℕ, ◌≡◌, ◌≢◌, ⊤, Bool, true, false, List, [], ◌∷◌, Option, None, Some, IfSome, Result, Ok, Err}
use Rattle.std.specs.IoError.{error_kind}
use Rattle.std.specs.declared.io.Error.{Error}
use Rattle.std.specs.declared.io.ErrorKind.{ErrorKind}
use Rattle.rapidsum.specs.Algorithm.{hash_of}
use Rattle.rapidsum.specs.declared.algorithm.Algorithm.{Algorithm}
use Rattle.rapidsum.specs.declared.entry.Entry.{Entry}
use Rattle.rapidsum.specs.declared.check.Verdict.{Verdict}
use Rattle.rapidsum.specs.declared.check.Verdict.TheVariants.{Different, Missing, Same, Unreadable}

-- the version and seed of a line: its own, otherwise those of the call
abbrev pub algorithm_of : Algorithm → Option Algorithm → Algorithm
algorithm_of given None = given
algorithm_of given (Some own) = own

-- whether a verdict follows from the result for the file: a hash, or the error of a file that could not be opened or read
abbrev pub Follows : Verdict → Bool → ℕ → Result ℕ Error → Type 0
Follows Same ignore_missing hash (Ok found) = found ≡ hash
Follows Same ignore_missing hash (Err error) = ⊥
Follows Different ignore_missing hash (Ok found) = found ≢ hash
Follows Different ignore_missing hash (Err error) = ⊥
Follows Missing ignore_missing hash (Ok found) = ⊥
Follows Missing ignore_missing hash (Err error) = (ignore_missing ≡ true) × (error_kind error ≡ ErrorKind.NotFound)
Follows Unreadable ignore_missing hash (Ok found) = ⊥
Follows Unreadable ignore_missing hash (Err error) = ignore_missing ≡ true → error_kind error ≢ ErrorKind.NotFound

-- the error to show beside a verdict
abbrev pub shown_error : Verdict → Result ℕ Error → Option Error
shown_error Unreadable (Err error) = Some error
shown_error Unreadable (Ok found) = None
shown_error Same found = None
shown_error Different found = None
shown_error Missing found = None

-- whether a verdict is right for a line with a hash, if the bytes of its file are known: the same hash, or a different hash
abbrev pub IsRight : Verdict → Bool → Algorithm → Option (List ℕ) → ℕ → Type 0
IsRight Same ignore_missing algorithm bytes hash = IfSome bytes (λ xs. hash_of algorithm xs ≡ hash)
IsRight Different ignore_missing algorithm bytes hash = IfSome bytes (λ xs. hash_of algorithm xs ≢ hash)
IsRight Missing ignore_missing algorithm bytes hash = ignore_missing ≡ true
IsRight Unreadable ignore_missing algorithm bytes hash = ⊤

-- the same for an entry of a list
abbrev pub IsRightOf : {A : Type 0} → Bool → Algorithm → (List ℕ → Option (List ℕ)) → Entry A → Verdict → Type 0
IsRightOf ignore_missing given told entry verdict =
    IsRight verdict ignore_missing (algorithm_of given entry.algorithm) (told entry.name.items) entry.hash

-- each verdict is right for the line at its index
abbrev pub EachIsRight : {A : Type 0} → Bool → Algorithm → (List ℕ → Option (List ℕ)) → List (Entry A) → List Verdict → Type 0
EachIsRight ignore_missing given told [] [] = ⊤
EachIsRight ignore_missing given told [] (verdict ∷ verdicts) = ⊥
EachIsRight ignore_missing given told (entry ∷ entries) [] = ⊥
EachIsRight ignore_missing given told (entry ∷ entries) (verdict ∷ verdicts) =
    IsRightOf ignore_missing given told entry verdict × EachIsRight ignore_missing given told entries verdicts

-- whether a verdict lets a check pass
abbrev pub passes : Verdict → Bool
passes Same = true
passes Different = false
passes Missing = true
passes Unreadable = false
