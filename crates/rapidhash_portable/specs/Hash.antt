-- The definition of all portable hashes, and its short names.
use Rattle.std.specs.Prelude.{ℕ, Bool, List, length, ◌-◌, slice_index, bit_xor, if◌then◌else◌}
use Rattle.rapidhash_portable.specs.Multiply.{multiply, mix}
use Rattle.rapidhash_portable.specs.Lanes.{row_bytes, row_pairs, pair_of, after_lanes}
use Rattle.rapidhash_portable.specs.Tail.{after_tail, picked}
use Rattle.rapidhash_portable.specs.declared.form.Form.{Form}
use Rattle.rapidhash_portable.specs.declared.form.Form.TheVariants.{V1, V2, V3}
use Rattle.rapidhash_portable.specs.declared.form.Options.{Options}
use Rattle.rapidhash_portable.specs.declared.secrets.RapidSecrets.{RapidSecrets}
use Rattle.rapidhash_portable.specs.declared.secrets.v1.RapidSecrets.{RapidSecrets as RapidSecretsV1}
use Rattle.rapidhash_portable.specs.Form.{shape_of, start_seed, tail_seed, tail_places, masks}
use Rattle.rapidhash_portable.specs.Secrets.{default_secrets, default_secrets_v1, default_seed, default_seed_v1}
use Rattle.rapidhash_portable.specs.Words.{last_words, mixed_words}

-- the value of the last two words and the seed
unfoldable pub close : Options → ℕ × ℕ → ℕ → ℕ → ℕ × ℕ → ℕ
close options words seed secret masks =
    let ab = multiply options.protected (bit_xor words.0 secret) (bit_xor words.1 seed) in
    if options.avalanche
    then mix options.protected (bit_xor ab.0 masks.0) (bit_xor ab.1 masks.1)
    else bit_xor ab.0 ab.1

-- the value of `n` bytes, from their pairs and their last two words alone: each lane folds its own pairs of the rows, then the joined lanes fold the tail's pairs, then the close uses the last words
unfoldable pub value : Form → Options → ℕ → List ℕ → ℕ → (ℕ → ℕ × ℕ) → ℕ × ℕ → ℕ
value form options seed secrets n pair words =
    let shape = shape_of form n in
    let t = n - row_bytes shape in
    let after_rows = after_lanes options.protected secrets pair shape (start_seed form n seed) in
    let after_all = after_tail options.protected (picked secrets (tail_places form n)) pair (row_pairs shape) t (tail_seed form secrets t after_rows) in
    close options (mixed_words form n t words) after_all (slice_index secrets 1) (masks form secrets n t)

-- the definition, for a message
abbrev pub portable_hash : Form → Options → ℕ → List ℕ → List ℕ → ℕ
portable_hash form options seed secrets x = value form options seed secrets (length x) (pair_of x) (last_words form x)

-- the hash of a message with V2 or V3, with a caller's seed and secrets
abbrev pub seeded_hash : Form → Options → RapidSecrets → List ℕ → ℕ
seeded_hash form options secrets x = portable_hash form options secrets.seed secrets.secrets x

-- the same with V1, with or without the V1 bug
abbrev pub seeded_hash_v1 : Bool → Options → RapidSecretsV1 → List ℕ → ℕ
seeded_hash_v1 bug options secrets x = portable_hash (V1 bug) options secrets.seed secrets.secrets x

-- the hash of a message with any form, with the form's default seed and secrets
abbrev pub default_hash : Form → Options → List ℕ → ℕ
default_hash (V1 bug) options x = portable_hash (V1 bug) options default_seed_v1 default_secrets_v1 x
default_hash (V2 minor) options x = portable_hash (V2 minor) options default_seed default_secrets x
default_hash (V3 lanes) options x = portable_hash (V3 lanes) options default_seed default_secrets x
