-- The shifts of a CRC are linear over XOR, on numbers of any size, and lose nothing of 64 bits.
use Rattle.std.proofs.Common.{◌≡◌, ◌≢◌, ℕ, zero, suc, ◌+◌, ◌-◌, ◌*◌, ◌/◌, ◌%◌, ◌^◌, ◌<◌, [], ◌∷◌, refl, sym, ap, ◌∙◌, arith, bit_and, bit_xor, nat_eq, if◌then◌else◌, Bool, true, false, true≢false}
use Rattle.std.specs.Int.Bits.{xor_assoc, xor_self, xor_zero_l, xor_zero_r}
use Rattle.std.proofs.Math.Nat.{mul_assoc, pow-suc}
use Rattle.std.proofs.lemmas.Nat.{and_mask, xor_comm, xor_lt, xor_mod, xor_shr}
use Rattle.rapidhash_portable.specs.Crc.{crc64, crc_byte, crc_shift, crc_shifts, polynomial}

-- the published check value, of the text 123456789
check_value : crc64 (49 ∷ 50 ∷ 51 ∷ 52 ∷ 53 ∷ 54 ∷ 55 ∷ 56 ∷ 57 ∷ []) ≡ 0x995dc9bbdf1939fa
unfolding crc64 crc_byte crc_shift crc_shifts
check_value = refl

pub low_bit : (n : ℕ) → bit_and n 1 ≡ n % 2
low_bit n = and_mask n 1

pub xor_pairs : (a b c d : ℕ) → bit_xor (bit_xor a b) (bit_xor c d) ≡ bit_xor (bit_xor a c) (bit_xor b d)
xor_pairs a b c d =
    xor_assoc a b (bit_xor c d)
    ∙ ap (bit_xor a) (sym (xor_assoc b c d) ∙ ap (λ n. bit_xor n d) (xor_comm b c) ∙ xor_assoc c b d)
    ∙ sym (xor_assoc a c (bit_xor b d))

-- a number that is XORed in twice goes away
pub xor_twice : (a b : ℕ) → bit_xor a (bit_xor a b) ≡ b
xor_twice a b = sym (xor_assoc a a b) ∙ ap (λ n. bit_xor n b) (xor_self a) ∙ xor_zero_l b

pub xor_apart : (a b : ℕ) → bit_xor a b ≡ 0 → a ≡ b
xor_apart a b none = sym (xor_zero_r a) ∙ ap (bit_xor a) (sym none) ∙ xor_twice a b

-- a shift as one term, which is linear

shift-is : (n : ℕ) → crc_shift n ≡ bit_xor (n / 2) (n % 2 * polynomial)
unfolding crc_shift
shift-is n = by_bit (n / 2) (n % 2) (omega arith)
  where
    by_bit : (half bit : ℕ) → bit < 2 → (if nat_eq bit 1 then bit_xor half polynomial else half) ≡ bit_xor half (bit * polynomial)
    by_bit half zero low = sym (xor_zero_r half)
    by_bit half (suc zero) low = refl
    by_bit half (suc (suc bit)) low = absurd (omega arith)

scaled-xor : (p q : ℕ) → p < 2 → q < 2 → bit_xor p q * polynomial ≡ bit_xor (p * polynomial) (q * polynomial)
scaled-xor zero zero low low' = refl
scaled-xor zero (suc zero) low low' = refl
scaled-xor (suc zero) zero low low' = refl
scaled-xor (suc zero) (suc zero) low low' = refl
scaled-xor (suc (suc p)) q low low' = absurd (omega arith)
scaled-xor p (suc (suc q)) low low' = absurd (omega arith)

shift-xor : (a b : ℕ) → crc_shift (bit_xor a b) ≡ bit_xor (crc_shift a) (crc_shift b)
shift-xor a b =
    shift-is (bit_xor a b)
    ∙ ap (λ n. bit_xor n (bit_xor a b % 2 * polynomial)) (xor_shr a b 1)
    ∙ ap (λ n. bit_xor (bit_xor (a / 2) (b / 2)) (n * polynomial)) (xor_mod a b 1)
    ∙ ap (bit_xor (bit_xor (a / 2) (b / 2))) (scaled-xor (a % 2) (b % 2) (omega arith) (omega arith))
    ∙ xor_pairs (a / 2) (b / 2) (a % 2 * polynomial) (b % 2 * polynomial)
    ∙ sym (ap (λ n. bit_xor n (crc_shift b)) (shift-is a) ∙ ap (bit_xor (bit_xor (a / 2) (a % 2 * polynomial))) (shift-is b))

pub shifts-xor : (count a b : ℕ) → crc_shifts count (bit_xor a b) ≡ bit_xor (crc_shifts count a) (crc_shifts count b)
unfolding crc_shifts
shifts-xor zero a b = refl
shifts-xor (suc count) a b = ap (crc_shifts count) (shift-xor a b) ∙ shifts-xor count (crc_shift a) (crc_shift b)

pub shifts-first : (count rest n : ℕ) → count ≡ suc rest → crc_shifts count n ≡ crc_shifts rest (crc_shift n)
unfolding crc_shifts
shifts-first count rest n e = ap (λ k. crc_shifts k n) e

pub shifts-add : (some more n : ℕ) → crc_shifts (some + more) n ≡ crc_shifts more (crc_shifts some n)
unfolding crc_shifts
shifts-add zero more n = let e : zero + more ≡ more = omega arith in ap (λ k. crc_shifts k n) e
shifts-add (suc some) more n = shifts-first (suc some + more) (some + more) n (omega arith) ∙ shifts-add some more (crc_shift n)

-- zeros at the low end fall out
shift-double : (n : ℕ) → crc_shift (n * 2) ≡ n
shift-double n =
    let half : n * 2 / 2 ≡ n = omega arith in
    let none : n * 2 % 2 * polynomial ≡ 0 = omega arith in
    shift-is (n * 2) ∙ ap (λ k. bit_xor k (n * 2 % 2 * polynomial)) half ∙ ap (bit_xor n) none ∙ xor_zero_r n

pub shifts-zeros : (count n : ℕ) → crc_shifts count (n * 2 ^ count) ≡ n
unfolding crc_shifts
shifts-zeros zero n = omega arith
shifts-zeros (suc count) n =
    ap (λ k. crc_shifts count (crc_shift k)) (ap (λ k. n * k) (pow-suc 2 count) ∙ sym (mul_assoc n (2 ^ count) 2))
    ∙ ap (crc_shifts count) (shift-double (n * 2 ^ count))
    ∙ shifts-zeros count n

-- 64 bits stay 64 bits, and only 0 becomes 0, as the polynomial has the highest bit
shift_fits : (n : ℕ) → n < 2 ^ 64 → crc_shift n < 2 ^ 64
shift_fits n fits = rw shift-is (xor_lt 64 (n / 2) (n % 2 * polynomial) (omega arith) (omega arith))

pub shifts_fit : (count n : ℕ) → n < 2 ^ 64 → crc_shifts count n < 2 ^ 64
unfolding crc_shifts
shifts_fit zero n fits = fits
shifts_fit (suc count) n fits = shifts_fit count (crc_shift n) (shift_fits n fits)

shift_none : (n : ℕ) → n < 2 ^ 64 → crc_shift n ≡ 0 → n ≡ 0
shift_none n fits none = let same = xor_apart (n / 2) (n % 2 * polynomial) (sym (shift-is n) ∙ none) in omega arith

pub shifts_none : (count n : ℕ) → n < 2 ^ 64 → crc_shifts count n ≡ 0 → n ≡ 0
unfolding crc_shifts
shifts_none zero n fits none = none
shifts_none (suc count) n fits none = shift_none n fits (shifts_none count (crc_shift n) (shift_fits n fits) none)

-- 1 comes back after no fewer than 1664 shifts, the bits of a saved stream
unfoldable avoids_one : ℕ → ℕ → Bool
avoids_one zero n = true
avoids_one (suc count) n = if nat_eq n 1 then false else avoids_one count (crc_shift n)

later : (here rest : Bool) → (if here then false else rest) ≡ true → rest ≡ true
later true rest h = absurd (true≢false (sym h))
later false rest h = h

avoided : (most n i : ℕ) → avoids_one most n ≡ true → i < most → crc_shifts i n ≢ 1
unfolding avoids_one crc_shifts
avoided zero n i all low one = absurd (omega arith)
avoided (suc most) n zero all low one = true≢false (sym (ap (avoids_one (suc most)) (sym one) ∙ all))
avoided (suc most) n (suc i) all low one = avoided most (crc_shift n) i (later (nat_eq n 1) (avoids_one most (crc_shift n)) all) (omega arith) one

far : avoids_one 1663 (crc_shift 1) ≡ true
unfolding avoids_one crc_shift
far = refl

pub one_apart : (count : ℕ) → 0 < count → count < 1664 → crc_shifts count 1 ≢ 1
one_apart count some few one =
    let rest : ℕ = count - 1 in
    avoided 1663 (crc_shift 1) rest far (omega arith) (sym (shifts-first count rest 1 (omega arith)) ∙ one)
