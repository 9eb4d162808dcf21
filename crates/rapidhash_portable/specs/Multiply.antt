-- The folded multiply.
use Rattle.std.specs.Prelude.{ℕ, ◌*◌, ◌/◌, ◌%◌, ◌^◌, Bool, true, false, bit_xor}

-- the low and the high 64 bits of a product; if it is protected, each is mixed with its factor
unfoldable pub multiply : Bool → ℕ → ℕ → ℕ × ℕ
multiply false a b = (a * b % 2 ^ 64, a * b / 2 ^ 64)
multiply true a b = (bit_xor a (a * b % 2 ^ 64), bit_xor b (a * b / 2 ^ 64))

-- a product folded into one word
unfoldable pub mix : Bool → ℕ → ℕ → ℕ
mix protected a b = bit_xor (multiply protected a b).0 (multiply protected a b).1
