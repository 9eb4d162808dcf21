-- Damage to a message of bytes: bits of it are flipped.
use Rattle.std.specs.Prelude.{◌≡◌, ◌⊎◌, ℕ, ◌+◌, ◌*◌, ◌<◌, ◌^◌, List, [], ◌∷◌, length, bit_xor}

-- the bytes as one number, of which the first byte is the lowest
unfoldable pub number_of : List ℕ → ℕ
number_of [] = 0
number_of (byte ∷ bytes) = number_of bytes * 256 + byte

-- the flipped bits are within 64 neighbouring ones
pub record IsBurst (flipped : ℕ) : Type 0 where
  pub first : ℕ
  pub bits : ℕ
  pub some : 0 < bits
  pub fit : bits < 2 ^ 64
  pub are : flipped ≡ bits * 2 ^ first

-- the flipped bits are two, below a number of bits
pub record ArePair (count flipped : ℕ) : Type 0 where
  pub first : ℕ
  pub second : ℕ
  pub order : first < second
  pub within : second < count
  pub are : flipped ≡ bit_xor (2 ^ first) (2 ^ second)

-- bits of a message are flipped: some of 64 neighbouring ones, or any two
pub record IsDamaged (message damaged : List ℕ) : Type 0 where
  pub size : length damaged ≡ length message
  pub flipped : ℕ
  pub are : number_of damaged ≡ bit_xor (number_of message) flipped
  pub few : IsBurst flipped ⊎ ArePair (8 * length message) flipped
