-- The output of the tool.
use Rattle.std.specs.Prelude.{ℕ, ◌≡◌, ◌<◌, List, [], ◌∷◌, ◌++◌, length, take, decimal, Option, IfSome, Result, MatchResult}
use Rattle.std.specs.Io.KnownBytes.{Appends, Keeps}
use Rattle.rapidhash_tool.specs.declared.faults.CliFault.{CliFault}
use Rattle.rapidhash_tool.specs.declared.faults.CliFault.TheVariants.{Write}
use Rattle.rapidhash_tool.specs.declared.version.RapidhashVersion.{RapidhashVersion}
use Rattle.rapidhash_tool.specs.Hashes.{hash_of, read_of}

-- a number's decimal digits, and a newline
abbrev pub line_of : ℕ → List ℕ
line_of number = decimal number ++ 10 ∷ []

-- the line that a version prints for its input
abbrev pub input_line : RapidhashVersion → List ℕ → List ℕ
input_line version bytes = line_of (hash_of version bytes)

-- the line that a version prints for a file of `len` bytes
abbrev pub file_line : RapidhashVersion → ℕ → List ℕ → List ℕ
file_line version len bytes = line_of (hash_of version (read_of version len bytes))

-- a part of the line was written: its beginning, but not the whole line
abbrev pub StopsShort : Option (List ℕ) → Option (List ℕ) → List ℕ → Type 0
StopsShort old new line = (k : ℕ) × (k < length line) × Appends old new (take k line)

-- the output after an error: the beginning of the line if a write failed, otherwise nothing
abbrev pub LeftBy : CliFault → Option (List ℕ) → Option (List ℕ) → List ℕ → Type 0
LeftBy Write old new line = StopsShort old new line
LeftBy fault old new line = Keeps old new

-- after an error other than a failed write nothing was written, even if the bytes read are not known
abbrev pub KeepsUnlessWrite : CliFault → Option (List ℕ) → Option (List ℕ) → Type 0
KeepsUnlessWrite Write old new = Unit {0}
KeepsUnlessWrite fault old new = Keeps old new

-- the output of a run that ended with an error, if `line` is the line of an input
pub record LeftByRun (fault : CliFault) (old new input : Option (List ℕ)) (line : List ℕ → List ℕ) : Type 0 where
  pub of_line : IfSome input (λ bytes. LeftBy fault old new (line bytes))
  pub of_nothing : KeepsUnlessWrite fault old new

-- a call writes the whole text, or stops at a failed write and has written the beginning of the text
abbrev pub WritesWhole : {A : Type 0} → Option (List ℕ) → Option (List ℕ) → Result A CliFault → List ℕ → Type 0
WritesWhole old new result text = MatchResult result (λ done. Appends old new text) (λ fault. (fault ≡ Write) × StopsShort old new text)
