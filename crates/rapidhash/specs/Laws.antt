-- The laws on messages and on lists of integers.
use Rattle.std.specs.Prelude.{ℕ, ◌≡◌, ◌+◌, ◌*◌, ◌≤◌, ◌<◌, ◌^◌, List, [], ◌∷◌, ◌++◌, length, map, slice_index}
use Rattle.rapidhash_portable.specs.declared.form.Form.{Form}
use Rattle.rapidhash_portable.specs.declared.form.Options.{Options}
use Rattle.rapidhash_portable.specs.Absorbed.{absorbed_words, value_of_words}
use Rattle.rapidhash_portable.specs.Hash.{portable_hash}
use Rattle.rapidhash.specs.declared.laws.blocks.Num.{Num}
use Rattle.rapidhash.specs.declared.laws.blocks.Num.TheVariants.{N8, N16, N32, N64}
use Rattle.rapidhash.specs.declared.inner.hasher.RapidHasher.{RapidHasher}
use Rattle.rapidhash.specs.RapidHasher.{Represents, secrets_of_hasher}
use Rattle.rapidhash.specs.Sponge.{Item, Num as Integer, block, end_of}

-- two messages have the same length and the same absorbed words
abbrev pub SameWords : Form → List ℕ → List ℕ → Type 0
SameWords form x y = (length x ≡ length y) × (absorbed_words form x ≡ absorbed_words form y)

-- with any options, seed and secrets, the definition is the value of the message's length and its absorbed words
abbrev pub HashIsOfWords : Form → List ℕ → Type 0
HashIsOfWords form x =
    (options : Options) (seed : ℕ) (secrets : List ℕ) → seed < 2 ^ 64 → ((i : ℕ) → slice_index secrets i < 2 ^ 64)
    → portable_hash form options seed secrets x ≡ value_of_words form options seed secrets (length x) (absorbed_words form x)

-- the same for two messages
pub record HashesAreOfWords (form : Form) (x y : List ℕ) : Type 0 where
  pub first : HashIsOfWords form x
  pub second : HashIsOfWords form y

-- two forms have the same hash of a message, with any options, seed and secrets
abbrev pub SameHash : Form → Form → List ℕ → Type 0
SameHash first second x =
    (options : Options) (seed : ℕ) (secrets : List ℕ)
    → portable_hash first options seed secrets x ≡ portable_hash second options seed secrets x

-- the width of an integer in bits
abbrev pub width_of : Num → ℕ
width_of (N8 value) = 8
width_of (N16 value) = 16
width_of (N32 value) = 32
width_of (N64 value) = 64

-- the integer as a number
abbrev pub value_of : Num → ℕ
value_of (N8 value) = value
value_of (N16 value) = value
value_of (N32 value) = value
value_of (N64 value) = value

-- the integer as a hasher absorbs it
abbrev pub item_of : Num → Item
item_of number = Integer (width_of number) (value_of number)

-- two lists of integers are packed into the same blocks
abbrev pub SameBlocks : List Num → List Num → Type 0
SameBlocks x y = (place : ℕ) → block (map item_of x) place ≡ block (map item_of y) place

-- the last block of a hasher that absorbed some items has room for `width` bits
abbrev pub HasRoom : List Item → ℕ → Type 0
HasRoom items width = (end_of items).1 + width ≤ 128

-- two integers of the same width are absorbed; if the last block has room for both, the result is that of the integer that joins them
pub record JoinsWrites {avalanche sponge compact protected : ℕ} (old new : RapidHasher avalanche sponge compact protected) (width low high : ℕ) : Type 0 where
  pub secrets : secrets_of_hasher new ≡ secrets_of_hasher old
  pub apart : (start : ℕ) (items : List Item) → Represents old start items
      → Represents new start (items ++ Integer width low ∷ Integer width high ∷ [])
  pub joined : (start : ℕ) (items : List Item) → Represents old start items → HasRoom items (2 * width)
      → Represents new start (items ++ Integer (2 * width) (low + high * 2 ^ width) ∷ [])

-- an item and then an integer are absorbed; if the last block has room for the integer, the result is that of the opposite order
pub record TurnsWrites {avalanche sponge compact protected : ℕ} (old new : RapidHasher avalanche sponge compact protected) (item : Item) (number : Num) : Type 0 where
  pub secrets : secrets_of_hasher new ≡ secrets_of_hasher old
  pub in_order : (start : ℕ) (items : List Item) → Represents old start items
      → Represents new start (items ++ item ∷ item_of number ∷ [])
  pub turned : (start : ℕ) (items : List Item) → Represents old start items → HasRoom items (width_of number)
      → Represents new start (items ++ item_of number ∷ item ∷ [])
