-- Decimal numbers by their digits, and their shortest texts.
use Rattle.std.specs.Prelude.{ℕ, ◌≡◌, ◌*◌, ◌^◌, Bool, cond, ◌==◌, ◌&&◌, not, List, [], ◌∷◌, ◌++◌, length, reverse}
use Rattle.std.specs.Str.Parse.{AllDigits, digits_value}
use Rattle.rapidhash.specs.declared.decimal.Decimal.{Decimal}

-- the bytes before and behind the point are digits
pub record HasDigits (x : Decimal) : Type 0 where
  pub whole : AllDigits 10 x.whole.now
  pub part : AllDigits 10 x.part.now

-- the number without its sign, in units of its last digit
abbrev pub units : Decimal → ℕ
units x = digits_value 10 (x.whole.now ++ x.part.now)

-- the number is below 0
abbrev pub is_negative : Decimal → Bool
is_negative x = x.negative && not (units x == 0)

-- two numbers are equal if, in units of as many digits, their sizes are, and both or none are below 0
pub record SameNumber (x y : Decimal) : Type 0 where
  pub size : units x * 10 ^ length y.part.now ≡ units y * 10 ^ length x.part.now
  pub sign : is_negative x ≡ is_negative y

-- the digits from the first on that is not 0
abbrev pub skip_zeros : List ℕ → List ℕ
skip_zeros [] = []
skip_zeros (digit ∷ digits) = cond (digit == 48) (skip_zeros digits) (digit ∷ digits)

-- the digits without zeros before those of the whole, or behind those of the part
abbrev pub short_whole : Decimal → List ℕ
short_whole x = skip_zeros x.whole.now

abbrev pub short_part : Decimal → List ℕ
short_part x = reverse (skip_zeros (reverse x.part.now))

-- y has the shortest digits of x
pub record IsShortest (x y : Decimal) : Type 0 where
  pub whole : y.whole.now ≡ short_whole x
  pub part : y.part.now ≡ short_part x
  pub negative : y.negative ≡ is_negative x

-- both are written in the same way
pub record SameShape (x y : Decimal) : Type 0 where
  pub negative : x.negative ≡ y.negative
  pub whole : x.whole.now ≡ y.whole.now
  pub part : x.part.now ≡ y.part.now

-- "-" if the number is below 0
abbrev pub sign_text : Bool → List ℕ
sign_text negative = cond negative (45 ∷ []) []

-- the digits, or "0" for none
abbrev pub whole_text : List ℕ → List ℕ
whole_text [] = 48 ∷ []
whole_text (digit ∷ digits) = digit ∷ digits

-- a point and the digits, or nothing for none
abbrev pub part_text : List ℕ → List ℕ
part_text [] = []
part_text (digit ∷ digits) = 46 ∷ digit ∷ digits

-- the shortest text of a number
abbrev pub decimal_text : Decimal → List ℕ
decimal_text x = sign_text (is_negative x) ++ (whole_text (short_whole x) ++ part_text (short_part x))
