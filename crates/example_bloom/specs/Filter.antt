-- The keys that a filter finds.
use Rattle.std.specs.Prelude.{◌≡◌, ℕ, suc, ◌<◌, ◌+◌, ◌%◌, ◌/◌, List, length, slice_index, ◌⊎◌}
use Rattle.std.specs.Int.{bit_at}
use Rattle.rapidhash.specs.Form.{standard, v3}
use Rattle.rapidhash.specs.Generator.{word_at}
use Rattle.rapidhash.specs.Hash.{default_hash}
use Rattle.example_bloom.specs.declared.filter.Filter.{Filter}
use Rattle.example_bloom.specs.declared.shape.Shape.{Shape}

-- the hash of a key
abbrev pub hash_of : List ℕ → ℕ
hash_of key = default_hash v3 standard key

-- the step of mark number `i` of a hash, for any number of bits: a word of the generator whose seed is the hash
unfoldable pub step_of : ℕ → ℕ → ℕ
step_of hash i = word_at hash (suc i)

-- the bit at a step is set: the steps go through the words, and then through the bits of a word
abbrev pub HasBit : List ℕ → ℕ → Type 0
HasBit words step = bit_at (slice_index words (step % length words)) (step / length words % 64) ≡ 1

-- the first `marks` marks of a hash are set
abbrev pub HasMarks : List ℕ → ℕ → ℕ → Type 0
HasMarks words marks hash = (i : ℕ) → i < marks → HasBit words (step_of hash i)

-- two steps lead to the same bit in this number of words
abbrev pub SameBit : ℕ → ℕ → ℕ → Type 0
SameBit words step other = (step % words ≡ other % words) × (step / words % 64 ≡ other / words % 64)

-- the bit of a step is set, every bit that was set before still is, and no other bit is
pub record Sets (old new : List ℕ) (step : ℕ) : Type 0 where
  pub added : HasBit new step
  pub kept : (other : ℕ) → HasBit old other → HasBit new other
  pub only : (other : ℕ) → HasBit new other → HasBit old other ⊎ SameBit (length old) other step
  pub same : length new ≡ length old

-- a step leads to one of the first `marks` marks of a hash
abbrev pub IsMark : ℕ → ℕ → ℕ → ℕ → Type 0
IsMark words marks hash step = (i : ℕ) × (i < marks) × SameBit words step (step_of hash i)

-- the marks of a hash are set, every bit that was set before still is, and no other bit is
pub record Marks (old new : List ℕ) (marks hash : ℕ) : Type 0 where
  pub added : HasMarks new marks hash
  pub kept : (step : ℕ) → HasBit old step → HasBit new step
  pub only : (step : ℕ) → HasBit new step → HasBit old step ⊎ IsMark (length old) marks hash step
  pub same : length new ≡ length old

-- the filter has words to mark
abbrev pub HasWords : Filter → Type 0
HasWords filter = 0 < length filter.words.items

-- the filter finds a key
abbrev pub Finds : Filter → List ℕ → Type 0
Finds filter key = HasMarks filter.words.items filter.marks (hash_of key)

-- the filter has words, but no bit is set
pub record IsEmpty (filter : Filter) : Type 0 where
  pub words : HasWords filter
  pub none : (step : ℕ) → HasBit filter.words.items step → ⊥

-- the filter has the words and the marks of a shape
pub record HasShape (shape : Shape) (filter : Filter) : Type 0 where
  pub words : length filter.words.items ≡ shape.last_word + 1
  pub marks : filter.marks ≡ shape.marks

-- two filters have the same number of words, and of marks per key
pub record HasSameShape (filter other : Filter) : Type 0 where
  pub words : length other.words.items ≡ length filter.words.items
  pub marks : other.marks ≡ filter.marks

-- a key was added: it is found, every key found before still is, and no bit was set except the key's marks
pub record Adds (old new : Filter) (key : List ℕ) : Type 0 where
  pub found : Finds new key
  pub kept : (other : List ℕ) → Finds old other → Finds new other
  pub only : (step : ℕ) → HasBit new.words.items step → HasBit old.words.items step ⊎ IsMark (length old.words.items) old.marks (hash_of key) step
  pub shape : HasSameShape old new

-- two filters were united: the result finds every key that either finds, and no bit is set except theirs
pub record Unites (old other new : Filter) : Type 0 where
  pub found : (key : List ℕ) → Finds old key ⊎ Finds other key → Finds new key
  pub only : (step : ℕ) → HasBit new.words.items step → HasBit old.words.items step ⊎ HasBit other.words.items step
  pub shape : HasSameShape old new

-- every key found before still is
pub record KeepsAll (old new : Filter) : Type 0 where
  pub kept : (key : List ℕ) → Finds old key → Finds new key
  pub shape : HasSameShape old new
