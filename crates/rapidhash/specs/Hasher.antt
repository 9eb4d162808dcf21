-- The seed of a hasher after a list of items, and the hash that it returns.
use Rattle.std.specs.Prelude.{ℕ, ◌≡◌, ◌+◌, ◌/◌, ◌%◌, ◌^◌, ◌<◌, Bool, true, false, if◌then◌else◌, nat_le, nat_lt, List, [], ◌∷◌, ◌++◌, All, fold, slice_index, bit_xor}
use Rattle.rapidhash_portable.specs.declared.form.Options.{Options}
use Rattle.rapidhash_portable.specs.InMemory.{core_hash}
use Rattle.rapidhash_portable.specs.Multiply.{mix}
use Rattle.rapidhash_portable.specs.Secrets.{default_secrets}
use Rattle.rapidhash.specs.Sponge.{Item, Bytes, Wide, Num, IsItem, end_after, end_of, block}

-- the steps that an item adds with a sponge, after integers that end at `end`: its own step, or the step of the block before the block that an integer opens
abbrev pub steps_of : (ℕ → ℕ) → ℕ × ℕ → Item → List Item
steps_of blocks end (Bytes bytes) = Bytes bytes ∷ []
steps_of blocks end (Wide value) = Wide value ∷ []
steps_of blocks end (Num width value) = if nat_le (end.1 + width) 128 then [] else Wide (blocks end.0) ∷ []

-- the steps of a list of items
abbrev pub steps_from : (ℕ → ℕ) → ℕ × ℕ → List Item → List Item
steps_from blocks end [] = []
steps_from blocks end (item ∷ items) = steps_of blocks end item ++ steps_from blocks (end_after end item) items

-- the steps of a whole list: with a sponge, a block is a step only when the next one opens; without a sponge, each integer is a step
unfoldable pub steps : Bool → List Item → List Item
steps true items = steps_from (block items) (0, 0) items
steps false items = items

-- a step on the seed
abbrev pub step : Options → List ℕ → ℕ → Item → ℕ
step options secrets seed (Bytes bytes) = core_hash options bytes seed secrets
step options secrets seed (Wide value) = mix options.protected (bit_xor (value % 2 ^ 64) seed) (bit_xor (value / 2 ^ 64) (slice_index secrets 0))
step options secrets seed (Num width value) = mix options.protected (bit_xor value (slice_index secrets 0)) (bit_xor value seed)

-- the seed after all steps
unfoldable pub seed_after : Options → Bool → List ℕ → ℕ → List Item → ℕ
seed_after options sponge secrets start items = fold (step options secrets) start (steps sponge items)

-- the number of the last block, or 0 if there is none
abbrev pub pending : Bool → List Item → ℕ
pending true items = block items (end_of items).0
pending false items = 0

-- the width of the last block, or 0 if there is none
abbrev pub width : Bool → List Item → ℕ
width true items = (end_of items).1
width false items = 0

-- the hash from a seed and a last block: the block is a step if there is one, and the avalanche mixes with the default secret
abbrev pub closed : Options → List ℕ → ℕ → ℕ → ℕ → ℕ
closed options secrets seed pending width =
    let last = if nat_lt 0 width then step options secrets seed (Wide pending) else seed in
    if options.avalanche then mix options.protected last (slice_index default_secrets 1) else last

-- the hash from a start value and a list of items
unfoldable pub finished : Options → Bool → List ℕ → ℕ → List Item → ℕ
finished options sponge secrets start items = closed options secrets (seed_after options sponge secrets start items) (pending sponge items) (width sponge items)

-- a seed, a pending number and its width represent a start value and a list of items
pub record NumbersRepresent (options : Options) (sponge : Bool) (secrets : List ℕ) (seed number bits start : ℕ) (items : List Item) : Type 0 where
  pub start_fits : start < 2 ^ 64
  pub items_fit : All IsItem items
  pub seed_is : seed ≡ seed_after options sponge secrets start items
  pub number_is : number ≡ pending sponge items
  pub bits_are : bits ≡ width sponge items
