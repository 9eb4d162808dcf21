-- Seeds as decimal numbers.
use Rattle.std.specs.Prelude.{ℕ, ◌+◌, ◌-◌, ◌*◌, ◌^◌, Bool, ◌&&◌, cond, nat_eq, nat_le, nat_lt, List, [], ◌∷◌, Option, None, Some}

-- whether a byte is a decimal digit, with which a number still has at most 64 bits
abbrev pub fits_digit : ℕ → ℕ → Bool
fits_digit number byte = nat_le 48 byte && nat_le byte 57 && nat_lt (number * 10 + (byte - 48)) (2 ^ 64)

-- the number whose digits are those of a number and then these
unfoldable pub number_from : ℕ → List ℕ → Option ℕ
number_from number [] = Some number
number_from number (byte ∷ bytes) = cond (fits_digit number byte) (number_from (number * 10 + (byte - 48)) bytes) None

-- the number of at least one digit
abbrev pub number_of : List ℕ → Option ℕ
number_of [] = None
number_of (byte ∷ bytes) = number_from 0 (byte ∷ bytes)

-- the number that a text represents, after a plus sign or not
abbrev pub seed_of : List ℕ → Option ℕ
seed_of [] = None
seed_of (byte ∷ bytes) = cond (nat_eq byte 43) (number_of bytes) (number_of (byte ∷ bytes))
