-- Behind the bytes of a message and their CRC, a register is the same for all messages. So damage that keeps the check
-- has flipped bits that shift out to 0, which those of a burst and those of a pair do not.
use Rattle.std.proofs.Common.{◌≡◌, ◌≢◌, ℕ, zero, suc, ◌+◌, ◌-◌, ◌*◌, ◌%◌, ◌^◌, ◌<◌, ◌≤◌, List, [], ◌∷◌, ◌++◌, length, slice_index, refl, sym, ap, ◌∙◌, arith, All, bit_xor, ⊎_elim}
use Rattle.std.specs.List.{fold}
use Rattle.std.specs.Int.{to_le_bytes, w64}
use Rattle.std.specs.Int.Bits.{xor_assoc, xor_self, xor_zero_l, xor_zero_r, xor_shifted}
use Rattle.std.proofs.Math.Nat.{mul_assoc}
use Rattle.std.proofs.lemmas.Bool.{cases_lt}
use Rattle.std.proofs.lemmas.List.Sums.{fold-append}
use Rattle.std.proofs.lemmas.Nat.{pow-add, pow_pos, xor_comm, xor_lt, xor_mod}
use Rattle.rapidhash_portable.specs.Crc.{crc64, crc_byte, crc_shifts, ones}
use Rattle.rapidhash_portable.specs.Damage.{ArePair, IsBurst, IsDamaged, number_of}
use Rattle.rapidhash_portable.proofs.CrcLemmas.{one_apart, shifts-add, shifts-xor, shifts-zeros, shifts_fit, shifts_none, xor_apart, xor_pairs, xor_twice}

abbrev pub AreBytes : List ℕ → Type 0
AreBytes x = (i : ℕ) → slice_index x i < 256

pub are_bytes : (x : List ℕ) → All (λ byte. byte < 256) x → AreBytes x
are_bytes [] all i = omega arith
are_bytes (byte ∷ x) all zero = all 0 0 (omega arith)
are_bytes (byte ∷ x) all (suc i) = are_bytes x (λ k d low. all (suc k) d (omega arith)) i

bytes_before : (x y : List ℕ) → AreBytes (x ++ y) → AreBytes x
bytes_before [] y bytes i = omega arith
bytes_before (byte ∷ x) y bytes zero = bytes 0
bytes_before (byte ∷ x) y bytes (suc i) = bytes_before x y (λ k. bytes (suc k)) i

bytes_behind : (x y : List ℕ) → AreBytes (x ++ y) → AreBytes y
bytes_behind [] y bytes = bytes
bytes_behind (byte ∷ x) y bytes = bytes_behind x y (λ k. bytes (suc k))

-- while a byte is shifted in, those behind it come nearer
byte-in : (register byte rest : ℕ) → byte < 256 → crc_shifts 8 (bit_xor register (rest * 256 + byte)) ≡ bit_xor (crc_byte register byte) rest
unfolding crc_byte
byte-in register byte rest low =
    ap (λ n. crc_shifts 8 (bit_xor register n)) (sym (xor_shifted rest 8 byte low) ∙ xor_comm (rest * 256) byte)
    ∙ ap (crc_shifts 8) (sym (xor_assoc register byte (rest * 256)))
    ∙ shifts-xor 8 (bit_xor register byte) (rest * 256)
    ∙ ap (bit_xor (crc_shifts 8 (bit_xor register byte))) (shifts-zeros 8 rest)

-- so a message takes the shifts of its number
fold-is : (x : List ℕ) → AreBytes x → (register : ℕ) → fold crc_byte register x ≡ crc_shifts (8 * length x) (bit_xor register (number_of x))
unfolding number_of crc_shifts
fold-is [] bytes register = sym (xor_zero_r register)
fold-is (byte ∷ x) bytes register =
    let count : 8 * suc (length x) ≡ 8 + 8 * length x = omega arith in
    fold-is x (λ i. bytes (suc i)) (crc_byte register byte)
    ∙ ap (crc_shifts (8 * length x)) (sym (byte-in register byte (number_of x) (bytes 0)))
    ∙ sym (ap (λ k. crc_shifts k (bit_xor register (number_of (byte ∷ x)))) count
    ∙ shifts-add 8 (8 * length x) (bit_xor register (number_of (byte ∷ x))))

fold_fits : (x : List ℕ) → AreBytes x → (register : ℕ) → register < 2 ^ 64 → fold crc_byte register x < 2 ^ 64
unfolding crc_byte
fold_fits [] bytes register fits = fits
fold_fits (byte ∷ x) bytes register fits =
    let low : byte < 2 ^ 64 = omega (arith, bytes 0) in
    fold_fits x (λ i. bytes (suc i)) (crc_byte register byte) (shifts_fit 8 (bit_xor register byte) (xor_lt 64 register byte fits low))

-- the bytes, and their CRC XOR a number
abbrev pub sealed : ℕ → List ℕ → List ℕ
sealed number body = body ++ to_le_bytes w64 (bit_xor (crc64 body) number)

check-number : (word : ℕ) → number_of (to_le_bytes w64 word) ≡ word % 2 ^ 64
unfolding number_of
check-number word = omega arith

fold-sealed : (number : ℕ) (body : List ℕ) → AreBytes (sealed number body)
    → fold crc_byte ones (sealed number body) ≡ crc_shifts 64 (bit_xor ones (number % 2 ^ 64))
unfolding crc64
fold-sealed number body bytes =
    let register : ℕ = fold crc_byte ones body in
    let check : ℕ = bit_xor (bit_xor register ones) number in
    let fits = xor_lt 64 register ones (fold_fits body (bytes_before body (to_le_bytes w64 check) bytes) ones (omega arith)) (omega arith) in
    let low : bit_xor register ones % 2 ^ 64 ≡ bit_xor register ones = omega arith in
    fold-append crc_byte ones body (to_le_bytes w64 check)
    ∙ fold-is (to_le_bytes w64 check) (bytes_behind body (to_le_bytes w64 check) bytes) register
    ∙ ap (λ n. crc_shifts 64 (bit_xor register n)) (
    check-number check
    ∙ xor_mod (bit_xor register ones) number 64
    ∙ ap (λ n. bit_xor n (number % 2 ^ 64)) low
    ∙ xor_assoc register ones (number % 2 ^ 64))
    ∙ ap (crc_shifts 64) (xor_twice register (bit_xor ones (number % 2 ^ 64)))

-- the flipped bits between two such messages shift out to 0
flipped_none : (number : ℕ) (body body' : List ℕ) → AreBytes (sealed number body) → AreBytes (sealed number body')
    → length (sealed number body') ≡ length (sealed number body) → (flipped : ℕ)
    → number_of (sealed number body') ≡ bit_xor (number_of (sealed number body)) flipped
    → crc_shifts (8 * length (sealed number body)) flipped ≡ 0
flipped_none number body body' bytes bytes' size flipped are =
    let count : ℕ = 8 * length (sealed number body) in
    let n : ℕ = number_of (sealed number body) in
    let register : crc_shifts count (bit_xor ones n) ≡ crc_shifts 64 (bit_xor ones (number % 2 ^ 64)) =
    sym (fold-is (sealed number body) bytes ones) ∙ fold-sealed number body bytes in
    let damaged : crc_shifts count (bit_xor ones (bit_xor n flipped)) ≡ crc_shifts 64 (bit_xor ones (number % 2 ^ 64)) =
    ap (λ k. crc_shifts count (bit_xor ones k)) (sym are)
    ∙ ap (λ k. crc_shifts (8 * k) (bit_xor ones (number_of (sealed number body')))) (sym size)
    ∙ sym (fold-is (sealed number body') bytes' ones)
    ∙ fold-sealed number body' bytes' in
    sym (xor_twice (crc_shifts count (bit_xor ones n)) (crc_shifts count flipped))
    ∙ ap (bit_xor (crc_shifts count (bit_xor ones n))) (
    sym (shifts-xor count (bit_xor ones n) flipped)
    ∙ ap (crc_shifts count) (xor_assoc ones n flipped)
    ∙ damaged
    ∙ sym register)
    ∙ xor_self (crc_shifts count (bit_xor ones n))

factor_none : (a b : ℕ) → 0 < b → a * b ≡ 0 → a ≡ 0
factor_none a b some none = grind arith

-- a burst does not shift out to 0
burst_some : (count : ℕ) (flipped : ℕ) → IsBurst flipped → crc_shifts count flipped ≢ 0
burst_some count flipped burst none =
    let bits : ℕ = burst.bits in
    let first : ℕ = burst.first in
    let shifted : crc_shifts count (bits * 2 ^ first) ≡ 0 = ap (crc_shifts count) (sym burst.are) ∙ none in
    let bits_none : bits ≡ 0 =
    ⊎_elim
    (λ before.
    let more : ℕ = first - count in
    let power : 2 ^ first ≡ 2 ^ more * 2 ^ count = ap (λ k. 2 ^ k) (omega arith) ∙ pow-add 2 more count in
    factor_none bits (2 ^ more) (pow_pos more) (
    sym (shifts-zeros count (bits * 2 ^ more))
    ∙ ap (crc_shifts count) (mul_assoc bits (2 ^ more) (2 ^ count) ∙ ap (λ n. bits * n) (sym power))
    ∙ shifted))
    (λ within.
    let more : ℕ = count - first in
    let split : first + more ≡ count = omega arith in
    shifts_none more bits burst.fit (
    ap (crc_shifts more) (sym (shifts-zeros first bits))
    ∙ sym (shifts-add first more (bits * 2 ^ first))
    ∙ ap (λ k. crc_shifts k (bits * 2 ^ first)) split
    ∙ shifted))
    (cases_lt count first) in
    absurd (omega (arith, burst.some, bits_none))

-- nor does a pair: its first bit would become its second
pair_some : (count : ℕ) (flipped : ℕ) → count ≤ 1664 → ArePair count flipped → crc_shifts count flipped ≢ 0
pair_some count flipped few pair none =
    let a : ℕ = pair.first in
    let gap : ℕ = pair.second - a in
    let rest : ℕ = count - pair.second in
    let split : (a + gap) + rest ≡ count = omega (arith, pair.order, pair.within) in
    let second : pair.second ≡ gap + a = omega (arith, pair.order) in
    let one : crc_shifts a (2 ^ a) ≡ 1 = ap (crc_shifts a) (omega arith) ∙ shifts-zeros a 1 in
    let other : crc_shifts a (2 ^ pair.second) ≡ 2 ^ gap =
    ap (λ k. crc_shifts a (2 ^ k)) second ∙ ap (crc_shifts a) (pow-add 2 gap a) ∙ shifts-zeros a (2 ^ gap) in
    let last : crc_shifts gap (2 ^ gap) ≡ 1 = ap (crc_shifts gap) (omega arith) ∙ shifts-zeros gap 1 in
    let met : crc_shifts (a + gap) flipped ≡ bit_xor (crc_shifts gap 1) 1 =
    ap (crc_shifts (a + gap)) pair.are
    ∙ shifts-add a gap (bit_xor (2 ^ a) (2 ^ pair.second))
    ∙ ap (crc_shifts gap) (shifts-xor a (2 ^ a) (2 ^ pair.second) ∙ ap (λ n. bit_xor n (crc_shifts a (2 ^ pair.second))) one ∙ ap (bit_xor 1) other)
    ∙ shifts-xor gap 1 (2 ^ gap)
    ∙ ap (bit_xor (crc_shifts gap 1)) last in
    let fits = xor_lt 64 (crc_shifts gap 1) 1 (shifts_fit gap 1 (omega arith)) (omega arith) in
    let out : crc_shifts rest (bit_xor (crc_shifts gap 1) 1) ≡ 0 =
    ap (crc_shifts rest) (sym met) ∙ sym (shifts-add (a + gap) rest flipped) ∙ ap (λ k. crc_shifts k flipped) split ∙ none in
    one_apart gap (omega (arith, pair.order)) (omega (arith, pair.order, pair.within, few)) (xor_apart (crc_shifts gap 1) 1 (shifts_none rest (bit_xor (crc_shifts gap 1) 1) fits out))

-- no damage of up to 208 bytes, bytes and check alike, keeps the check
pub damage_refused : (number : ℕ) (body body' : List ℕ) → AreBytes (sealed number body) → AreBytes (sealed number body')
    → length (sealed number body) ≤ 208 → IsDamaged (sealed number body) (sealed number body') → ⊥
damage_refused number body body' bytes bytes' few damage =
    let none = flipped_none number body body' bytes bytes' damage.size damage.flipped damage.are in
    ⊎_elim
    (λ burst. burst_some (8 * length (sealed number body)) damage.flipped burst none)
    (λ pair. pair_some (8 * length (sealed number body)) damage.flipped (omega (arith, few)) pair none)
    damage.few
