-- What a command line says: `-bz --seed=7 a -- -b` says --binary, --zero, --seed with 7, the file a and the file -b.
use Rattle.std.specs.Prelude.{ℕ, ◌≡◌, ◌≢◌, ◌<◌, ⊤, true, false, is_some, Bool, length, List, [], ◌∷◌, ◌++◌, map, Option, None, Some, Result, Ok, Err, slice_index_or, unwrap_or, vec_items}
use Rattle.std.specs.List.{All}
use denote.Ref.{Bor}
use Rattle.rapidsum.specs.Options.{place_lettered, place_named, takes_value}
use Rattle.rapidsum.specs.declared.options.Row.{Row}
use Rattle.rapidsum.specs.declared.reading.Part.{Part}
use Rattle.rapidsum.specs.declared.reading.Part.TheVariants as part
use Rattle.rapidsum.specs.declared.reading.Reason.{Reason}
use Rattle.rapidsum.specs.declared.reading.Reason.TheVariants as reason

-- what a command line begins with
pub data First : Type 0 where
  -- the option at a place, its value, which is empty if it takes none, and the letters and words behind it
  option : ℕ → List ℕ → List ℕ → List (List ℕ) → First
  -- a file and the words behind it, or nothing but files
  file : List ℕ → List (List ℕ) → First
  files : List (List ℕ) → First
  -- a text that says nothing
  fault : Reason → List ℕ → First

-- a word that begins with two hyphens
abbrev pub long : List ℕ → List ℕ
long text = 45 ∷ 45 ∷ text

-- an equals sign and a value, if there is one
abbrev pub equals : Option (List ℕ) → List ℕ
equals None = []
equals (Some value) = 61 ∷ value

-- a text that is not empty is a name, up to the first equals sign, and what is behind that
pub record IsText (text name : List ℕ) (value : Option (List ℕ)) : Type 0 where
  pub some : 0 < length text
  pub parts : text ≡ name ++ equals value
  pub plain : All (λ c. c ≢ 61) name

-- a place that is found, of an option that takes a value or none
pub record IsPlace (rows : List Row) (found : Option ℕ) (place : ℕ) (value : Bool) : Type 0 where
  pub is : found ≡ Some place
  pub takes : takes_value rows place ≡ value

-- Letters that are left behind a hyphen, mostly none, and words begin so.
pub data Begins (rows : List Row) : List ℕ → List (List ℕ) → First → Type 0 where
  -- nothing; -- FILE..; -; FILE
  nothing : Begins rows [] [] (files [])
  hyphens : (fs : List (List ℕ)) → Begins rows [] (long [] ∷ fs) (files fs)
  hyphen : (ws : List (List ℕ)) → Begins rows [] ((45 ∷ []) ∷ ws) (file (45 ∷ []) ws)
  bare : (w : List ℕ) (ws : List (List ℕ)) → slice_index_or w 0 0 ≢ 45 → Begins rows [] (w ∷ ws) (file w ws)
  -- --name, --name=value
  named : (t n : List ℕ) (v : Option (List ℕ)) (p : ℕ) (ws : List (List ℕ)) → IsText t n v → IsPlace rows (place_named rows n) p (is_some v)
      → Begins rows [] (long t ∷ ws) (option p (unwrap_or v []) [] ws)
  -- --name value
  apart : (t n v : List ℕ) (p : ℕ) (ws : List (List ℕ)) → IsText t n None → IsPlace rows (place_named rows n) p true
      → Begins rows [] (long t ∷ v ∷ ws) (option p v [] ws)
  -- -letters
  letters : (ls : List ℕ) (ws : List (List ℕ)) (x : First) → 0 < length ls → slice_index_or ls 0 0 ≢ 45 → Begins rows ls ws x
      → Begins rows [] ((45 ∷ ls) ∷ ws) x
  -- the letter of an option that takes no value, before other letters; -lvalue; -l value
  letter : (c : ℕ) (cs : List ℕ) (p : ℕ) (ws : List (List ℕ)) → IsPlace rows (place_lettered rows c) p false
      → Begins rows (c ∷ cs) ws (option p [] cs ws)
  joined : (c : ℕ) (v : List ℕ) (p : ℕ) (ws : List (List ℕ)) → 0 < length v → IsPlace rows (place_lettered rows c) p true
      → Begins rows (c ∷ v) ws (option p v [] ws)
  behind : (c : ℕ) (v : List ℕ) (p : ℕ) (ws : List (List ℕ)) → IsPlace rows (place_lettered rows c) p true
      → Begins rows (c ∷ []) (v ∷ ws) (option p v [] ws)
  -- faults: --other; --name=value of an option that takes none; --name without its value; another letter; -l without its value
  no_name : (t n : List ℕ) (v : Option (List ℕ)) (ws : List (List ℕ)) → IsText t n v → place_named rows n ≡ None
      → Begins rows [] (long t ∷ ws) (fault reason.UnknownName (long t))
  no_value : (t n v : List ℕ) (p : ℕ) (ws : List (List ℕ)) → IsText t n (Some v) → IsPlace rows (place_named rows n) p false
      → Begins rows [] (long t ∷ ws) (fault reason.UnwantedValue n)
  missing : (t n : List ℕ) (p : ℕ) → IsText t n None → IsPlace rows (place_named rows n) p true
      → Begins rows [] (long t ∷ []) (fault reason.MissingValue n)
  no_letter : (c : ℕ) (cs : List ℕ) (ws : List (List ℕ)) → place_lettered rows c ≡ None
      → Begins rows (c ∷ cs) ws (fault reason.UnknownLetter (c ∷ cs))
  missing_behind : (c p : ℕ) → IsPlace rows (place_lettered rows c) p true
      → Begins rows (c ∷ []) [] (fault reason.MissingValueOfLetter (c ∷ []))

-- what a result of `next` shows
abbrev pub first_of : {A : Type 0} → Result (Part A) (Reason × Bor (List ℕ)) → First
first_of (Ok (part.Option place value more words)) = option place value.now more.now (map vec_items words.now)
first_of (Ok (part.File name words)) = file name.now (map vec_items words.now)
first_of (Ok (part.Files words)) = files (map vec_items words.now)
first_of (Err stop) = fault (stop.0) (stop.1.now)

-- the place of an option is below a number
abbrev pub is_within : {A : Type 0} → ℕ → Part A → Type 0
is_within count (part.Option place value more words) = place < count
is_within count (part.File name words) = ⊤
is_within count (part.Files words) = ⊤
