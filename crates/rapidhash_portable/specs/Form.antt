-- The forms of the portable hash: the lengths, seeds, secrets and words of each, in one line per form; and the options.
use Rattle.std.specs.Prelude.{ℕ, Bool, true, false, ◌*◌, ◌<◌, ◌≤◌, ◌∷◌, [], not, ◌&&◌, List, slice_index, bit_xor, if◌then◌else◌, nat_lt, ◌==◌}
use Rattle.rapidhash_portable.specs.declared.form.Form.{Form}
use Rattle.rapidhash_portable.specs.declared.form.Form.TheVariants.{V1, V2, V3}
use Rattle.rapidhash_portable.specs.declared.form.Options.{Options}
use Rattle.rapidhash_portable.specs.declared.form.Shape.{Shape}
use Rattle.rapidhash_portable.specs.Lanes.{no_rows, wide_shape, mixed_shape}

abbrev pub v1 : Form
v1 = V1 false

abbrev pub v2 : ℕ → Form
v2 minor = V2 minor

abbrev pub v3 : Form
v3 = V3 7

abbrev pub micro : Form
micro = V3 5

abbrev pub nano : Form
nano = V3 3

-- the options of a call, from its const parameters: whether the last product is mixed once more, and whether each product is mixed with its factors
abbrev pub options : Bool → Bool → Options
options avalanche protected = record { avalanche = avalanche; protected = protected }

-- the options of a call that names none: `avalanche` alone
abbrev pub standard : Options
standard = options true false

-- both options
abbrev pub guarded : Options
guarded = options true true

-- the forms that plain programs run: V3 with any number of lanes up to seven, of which 7, 5 and 3 are in use
abbrev pub IsForm : Form → Type 0
IsForm (V1 bug) = Unit {0}
IsForm (V2 minor) = minor ≤ 2
IsForm (V3 lanes) = (0 < lanes) × (lanes ≤ 7)

-- the length of the longest message without a row
abbrev pub longest_rowless : Form → ℕ
longest_rowless (V1 bug) = if bug then 47 else 48
longest_rowless (V2 minor) = if minor == 0 then 56 else 64
longest_rowless (V3 lanes) = 16 * lanes

-- the rows and the tail of a message of `n` bytes
unfoldable pub shape_of : Form → ℕ → Shape
shape_of (V1 bug) n = if n == 48 && not bug then no_rows 3 else wide_shape 3 0 n
shape_of (V2 minor) n = if nat_lt (longest_rowless (V2 minor)) n then mixed_shape 7 n else no_rows 7
shape_of (V3 lanes) n = wide_shape lanes 1 n

-- the start value of every lane
abbrev pub start_seed : Form → ℕ → ℕ → ℕ
start_seed (V1 bug) n seed = bit_xor seed n
start_seed (V2 minor) n seed = bit_xor seed n
start_seed (V3 lanes) n seed = if nat_lt 3 n && nat_lt n 17 then bit_xor seed n else seed

-- the start value of a tail of `t` bytes: V1 mixes a secret into the seed before the first pair
unfoldable pub tail_seed : Form → List ℕ → ℕ → ℕ → ℕ
tail_seed (V1 bug) secrets t seed = if nat_lt 16 t then bit_xor seed (slice_index secrets 1) else seed
tail_seed (V2 minor) secrets t seed = seed
tail_seed (V3 lanes) secrets t seed = seed

-- the indices of the secrets for the pairs of V2's tail: after rows, and without rows
abbrev pub v2_row_places : List ℕ
v2_row_places = 2 ∷ 2 ∷ []

abbrev pub v2_rowless_places : ℕ → List ℕ
v2_rowless_places minor = 0 ∷ 1 ∷ (if nat_lt minor 2 then 0 else 1) ∷ []

-- the indices of the secrets for the pairs of a tail, in order
unfoldable pub tail_places : Form → ℕ → List ℕ
tail_places (V1 bug) n = 2 ∷ 2 ∷ []
tail_places (V2 minor) n = if nat_lt (longest_rowless (V2 minor)) n then v2_row_places else v2_rowless_places minor
tail_places (V3 lanes) n = 2 ∷ 2 ∷ 1 ∷ 1 ∷ 2 ∷ 1 ∷ []

-- every other bit, starting with the highest
abbrev pub alternating_bits : ℕ
alternating_bits = 0xaaaa_aaaa_aaaa_aaaa

-- the words that the avalanche mixes into the two halves of the last product, if the tail has `t` of the `n` bytes
abbrev pub masks : Form → List ℕ → ℕ → ℕ → ℕ × ℕ
masks (V1 bug) secrets n t = (bit_xor (slice_index secrets 0) n, slice_index secrets 1)
masks (V2 minor) secrets n t = (bit_xor alternating_bits n, slice_index secrets 1)
masks (V3 lanes) secrets n t = (alternating_bits, bit_xor (slice_index secrets 1) t)
