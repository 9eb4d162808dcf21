-- The folded multiply, with its factors in either order.
use Rattle.std.proofs.Common.{◌≡◌, ℕ, ◌*◌, ◌/◌, ◌%◌, ◌^◌, Bool, true, false, bit_xor, sym, ap, ◌∙◌, mul_comm}
use Rattle.std.specs.Int.Bits.{xor_assoc}
use Rattle.std.proofs.lemmas.Nat.{xor_comm}
use Rattle.rapidhash_portable.specs.Multiply.{mix, multiply}

-- the low half and the high half of a product, each mixed with one of two factors
xor-exchange : (a b l h : ℕ) → bit_xor (bit_xor a l) (bit_xor b h) ≡ bit_xor (bit_xor b l) (bit_xor a h)
xor-exchange a b l h =
    xor_comm (bit_xor a l) (bit_xor b h)
    ∙ xor_assoc b h (bit_xor a l)
    ∙ ap (bit_xor b) (xor_comm h (bit_xor a l) ∙ ap (λ w. bit_xor w h) (xor_comm a l) ∙ xor_assoc l a h)
    ∙ sym (xor_assoc b l (bit_xor a h))

-- the factors may be exchanged
pub mix_comm : (protected : Bool) (a b : ℕ) → mix protected a b ≡ mix protected b a
unfolding mix multiply
mix_comm false a b = ap (λ p. bit_xor (p % 2 ^ 64) (p / 2 ^ 64)) (mul_comm a b)
mix_comm true a b =
    ap (λ p. bit_xor (bit_xor a (p % 2 ^ 64)) (bit_xor b (p / 2 ^ 64))) (mul_comm a b)
    ∙ xor-exchange a b (b * a % 2 ^ 64) (b * a / 2 ^ 64)

-- a number that is mixed into one of two mixed words may be mixed into the other
pub xor-moved : (a t s : ℕ) → bit_xor (bit_xor a t) s ≡ bit_xor a (bit_xor s t)
xor-moved a t s = xor_assoc a t s ∙ ap (bit_xor a) (xor_comm t s)
