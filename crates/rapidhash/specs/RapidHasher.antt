-- `RapidHasher` in contracts: the start value and the items that its numbers represent, the effect of a write, and the result of `finish`.
use Rattle.std.specs.Prelude.{ℕ, ◌≡◌, Bool, not, nat_eq, List, [], ◌∷◌, ◌++◌}
use Rattle.std.specs.Borrow.{Bor}
use Rattle.rapidhash_portable.specs.declared.form.Options.{Options}
use Rattle.rapidhash_portable.specs.InMemory.{core_hash}
use Rattle.rapidhash_portable.specs.Form.{options}
use Rattle.rapidhash.specs.Sponge.{Item, empty_sponge}
use Rattle.rapidhash.specs.Hasher.{NumbersRepresent, closed, finished}
use Rattle.rapidhash.specs.declared.inner.hasher.RapidHasher.{RapidHasher}

-- the secrets of a hasher
abbrev pub secrets_of_hasher : {avalanche sponge compact protected : ℕ} → RapidHasher avalanche sponge compact protected → List ℕ
secrets_of_hasher hasher = hasher.secrets.now

-- whether an option is on, from the number of its const parameter
abbrev pub is_on : ℕ → Bool
is_on option = not (nat_eq option 0)

-- the options of the mixes, and whether integers are packed
abbrev pub options_of : {avalanche sponge compact protected : ℕ} → RapidHasher avalanche sponge compact protected → Options
options_of {avalanche} {sponge} {compact} {protected} hasher = options (is_on avalanche) (is_on protected)

abbrev pub has_sponge : {avalanche sponge compact protected : ℕ} → RapidHasher avalanche sponge compact protected → Bool
has_sponge {avalanche} {sponge} {compact} {protected} hasher = is_on sponge

-- a hasher represents a start value and a list of items, with its own secrets
abbrev pub Represents : {avalanche sponge compact protected : ℕ} → RapidHasher avalanche sponge compact protected → ℕ → List Item → Type 0
Represents hasher start items =
    NumbersRepresent (options_of hasher) (has_sponge hasher) hasher.secrets.now hasher.seed hasher.sponge.bits hasher.sponge.width start items

-- a further item is absorbed: the secrets do not change, and for every start value and list that the old hasher represents, the new one represents the list with the item at its end
pub record Absorbs {avalanche sponge compact protected : ℕ} (old new : RapidHasher avalanche sponge compact protected) (item : Item) : Type 0 where
  pub secrets : secrets_of_hasher new ≡ secrets_of_hasher old
  pub represents : (start : ℕ) (items : List Item) → Represents old start items → Represents new start (items ++ item ∷ [])

-- for every start value and list that the hasher represents, the result is their hash
abbrev pub Answers : {avalanche sponge compact protected : ℕ} → RapidHasher avalanche sponge compact protected → ℕ → Type 0
Answers hasher answer =
    (start : ℕ) (items : List Item) → Represents hasher start items → answer ≡ finished (options_of hasher) (has_sponge hasher) hasher.secrets.now start items

-- a hasher with a seed and secrets that has absorbed nothing
abbrev pub fresh : {avalanche sponge compact protected : ℕ} → ℕ → Bor (List ℕ) → RapidHasher avalanche sponge compact protected
fresh seed secrets = record { seed = seed; secrets = secrets; sponge = empty_sponge }

-- a hasher after bytes
abbrev pub written : {avalanche sponge compact protected : ℕ} → RapidHasher avalanche sponge compact protected → List ℕ → RapidHasher avalanche sponge compact protected
written hasher bytes =
    record hasher { seed = core_hash (options_of hasher) bytes hasher.seed hasher.secrets.now }

-- the hash that a hasher returns
abbrev pub answer_of : {avalanche sponge compact protected : ℕ} → RapidHasher avalanche sponge compact protected → ℕ
answer_of hasher =
    closed (options_of hasher) hasher.secrets.now hasher.seed hasher.sponge.bits hasher.sponge.width
