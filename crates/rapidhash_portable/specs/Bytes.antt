-- Little-endian numbers in bytes.
use Rattle.std.specs.Prelude.{ℕ, ◌+◌, ◌*◌, ◌^◌, List, slice_index, sum_by}
use Rattle.std.specs.List.{range_with_len}

-- the number in the `count` bytes from `at` on, with the lowest byte first
abbrev pub little_endian : ℕ → List ℕ → ℕ → ℕ
little_endian count x at = sum_by (λ j. slice_index x (at + j) * 256 ^ j) (range_with_len 0 count)

-- the number in the 8 bytes from `at` on, with the lowest byte first
unfoldable pub word64 : List ℕ → ℕ → ℕ
word64 x at = little_endian 8 x at

-- the number in the 4 bytes from `at` on, with the lowest byte first
unfoldable pub word32 : List ℕ → ℕ → ℕ
word32 x at = little_endian 4 x at
