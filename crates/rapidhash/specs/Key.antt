-- The bytes of a key of several fields.
use Rattle.std.specs.Prelude.{ℕ, ◌≡◌, ◌+◌, ◌<◌, ◌^◌, Bool, List, [], ◌∷◌, ◌++◌, length}
use Rattle.std.specs.Int.{w64, to_le_bytes}
use Rattle.rapidhash_portable.specs.Stream.{RepresentsAfter, chunk_count, secrets_of_stream, steps_of}
use Rattle.rapidhash_portable.specs.declared.v3.stream.RapidStreamHasherLanes.{RapidStreamHasherLanes}
use Rattle.rapidhash.specs.declared.key.Field.{Field}
use Rattle.rapidhash.specs.declared.key.Field.TheVariants.{Nothing, Integer, Bytes}

-- what a field is, wherever its bytes are
pub data Content : Type 0 where
  Missing : Content
  Number : ℕ → Content
  Text : List ℕ → Content

abbrev pub content_of : Field → Content
content_of Nothing = Missing
content_of (Integer number) = Number number
content_of (Bytes bytes) = Text bytes.now

-- an integer of 64 bits, or bytes whose number has 64 bits
abbrev pub IsContent : Content → Type 0
IsContent Missing = Unit {0}
IsContent (Number number) = number < 2 ^ 64
IsContent (Text bytes) = length bytes < 2 ^ 64

-- the bytes of a field: its tag, and then nothing, the integer, or the number of its bytes and the bytes
abbrev pub content_bytes : Content → List ℕ
content_bytes Missing = 0 ∷ []
content_bytes (Number number) = 1 ∷ to_le_bytes w64 number
content_bytes (Text bytes) = 2 ∷ (to_le_bytes w64 (length bytes) ++ bytes)

abbrev pub field_bytes : Field → List ℕ
field_bytes field = content_bytes (content_of field)

-- the bytes of a key: those of its fields, in order
unfoldable pub key_bytes : List Field → List ℕ
key_bytes [] = []
key_bytes (field ∷ fields) = field_bytes field ++ key_bytes fields

-- a write adds bytes to the message of a stream hasher, folds each chunk that a further byte follows, and keeps the secrets
pub record Appends {lanes avalanche protected' : ℕ} (protected : Bool) (old new : RapidStreamHasherLanes lanes avalanche protected') (bytes : List ℕ) : Type 0 where
  pub adds : (earlier : ℕ) (x : List ℕ) → RepresentsAfter earlier protected old x → RepresentsAfter earlier protected new (x ++ bytes)
  pub count : (earlier : ℕ) (x : List ℕ) → RepresentsAfter earlier protected new x → earlier + steps_of new ≡ chunk_count lanes (length x)
  pub secrets : secrets_of_stream new ≡ secrets_of_stream old
