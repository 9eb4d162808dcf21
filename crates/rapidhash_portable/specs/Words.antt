-- The last two words of a message.
use Rattle.std.specs.Prelude.{ℕ, ◌+◌, ◌-◌, ◌*◌, ◌/◌, ◌^◌, List, length, slice_index, if◌then◌else◌, nat_lt, ◌==◌, bit_xor}
use Rattle.rapidhash_portable.specs.Bytes.{word32, word64}
use Rattle.rapidhash_portable.specs.declared.form.Form.{Form}
use Rattle.rapidhash_portable.specs.declared.form.Form.TheVariants.{V1, V2, V3}

-- the 4-byte numbers at `top` and `bottom` in a word of 8 bytes, with that at `top` in the upper half
abbrev pub combined : List ℕ → ℕ → ℕ → ℕ
combined x top bottom = word32 x top * 2 ^ 32 + word32 x bottom

-- the first, the middle and the last of at most 3 bytes in a word
abbrev pub three_bytes : List ℕ → ℕ
three_bytes x = slice_index x 0 * 2 ^ 56 + slice_index x (length x / 2) * 2 ^ 32 + slice_index x (length x - 1)

-- the two words of 1 to 3 bytes
abbrev pub words_to_3 : Form → List ℕ → ℕ × ℕ
words_to_3 (V1 bug) x = (three_bytes x, 0)
words_to_3 (V2 minor) x =
    if nat_lt minor 2 then (three_bytes x, 0)
    else (slice_index x 0 * 2 ^ 56 + slice_index x (length x - 1), slice_index x (length x / 2))
words_to_3 (V3 lanes) x = (slice_index x 0 * 2 ^ 45 + slice_index x (length x - 1), slice_index x (length x / 2))

-- the two words of 4 to 7 bytes
abbrev pub words_to_7 : Form → List ℕ → ℕ × ℕ
words_to_7 (V1 bug) x = (combined x 0 (length x - 4), combined x 0 (length x - 4))
words_to_7 (V2 minor) x = (word32 x 0, word32 x (length x - 4))
words_to_7 (V3 lanes) x = (word32 x 0, word32 x (length x - 4))

-- the two words of 8 to 16 bytes
abbrev pub words_to_16 : Form → List ℕ → ℕ × ℕ
words_to_16 (V1 bug) x = (combined x 0 (length x - 4), combined x 4 (length x - 8))
words_to_16 (V2 minor) x = (word64 x 0, word64 x (length x - 8))
words_to_16 (V3 lanes) x = (word64 x 0, word64 x (length x - 8))

-- the two words of at most 16 bytes
unfoldable pub short_words : Form → List ℕ → ℕ × ℕ
short_words form x =
    if length x == 0 then (0, 0) else
    if nat_lt (length x) 4 then words_to_3 form x else
    if nat_lt (length x) 8 then words_to_7 form x else words_to_16 form x

-- the last 16 bytes, as two words
abbrev pub last_16 : List ℕ → ℕ × ℕ
last_16 x = (word64 x (length x - 16), word64 x (length x - 8))

-- the last two words of a message
unfoldable pub last_words : Form → List ℕ → ℕ × ℕ
last_words form x = if nat_lt 16 (length x) then last_16 x else short_words form x

-- the last two words as the close uses them: above 16 bytes V3 mixes the length of the tail into the first
unfoldable pub mixed_words : Form → ℕ → ℕ → ℕ × ℕ → ℕ × ℕ
mixed_words (V1 bug) n t words = words
mixed_words (V2 minor) n t words = words
mixed_words (V3 lanes) n t words = if nat_lt 16 n then (bit_xor words.0 t, words.1) else words
