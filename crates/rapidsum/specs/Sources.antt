-- The names of the files in a list of --files0-from.
use denote.Ref.{Bor}
use Rattle.std.specs.Prelude.{ℕ, ◌≡◌, ◌==◌, ⊤, false, List, [], ◌∷◌, ◌++◌, map}
use Rattle.std.specs.List.{list_any}

-- a name has no zero byte
abbrev pub IsName : List ℕ → Type 0
IsName name = list_any (λ byte. byte == 0) name ≡ false

abbrev pub AreNames : List (List ℕ) → Type 0
AreNames [] = ⊤
AreNames (name ∷ names) = IsName name × AreNames names

-- the text of names, each with a zero byte after it
abbrev pub ended : List (List ℕ) → List ℕ
ended [] = []
ended (name ∷ names) = name ++ 0 ∷ ended names

-- the name in the bytes behind the last zero byte, if there are any
abbrev pub last_name : List ℕ → List (List ℕ)
last_name [] = []
last_name (byte ∷ bytes) = (byte ∷ bytes) ∷ []

-- the names of a text are found, all and in their order; the last one needs no zero byte after it
abbrev pub NamesAll : List ℕ → List (Bor (List ℕ)) → Type 0
NamesAll text found = (names : List (List ℕ)) (last : List ℕ) → AreNames names → IsName last → text ≡ ended names ++ last
    → map (λ name. name.now) found ≡ names ++ last_name last
