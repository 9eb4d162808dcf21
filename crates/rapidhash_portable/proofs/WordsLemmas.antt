-- The two words that a message ends in, by its length, and that its bytes follow from them.
use Rattle.std.proofs.Common.{◌≡◌, ℕ, ◌+◌, ◌-◌, ◌*◌, ◌/◌, ◌%◌, ◌^◌, ◌≤◌, ◌<◌, ⊎_elim, List, length, get_or, refl, sym, ap, ◌∙◌, arith, bit_xor, bit_or}
use Rattle.std.proofs.lemmas.Bool.{cases_lt, lt-ltb, le-ltb}
use Rattle.std.proofs.lemmas.Bool.Decides.{nat_tests}
use Rattle.std.proofs.lemmas.Nat.{or_shifted, same_from_place}
use Rattle.rapidhash_portable.specs.declared.form.Form.{Form}
use Rattle.rapidhash_portable.specs.declared.form.Form.TheVariants.{V1, V2, V3}
use Rattle.rapidhash_portable.specs.Words.{last_words, last_16, mixed_words, short_words, words_to_3, words_to_7, words_to_16}
use Rattle.rapidhash_portable.specs.Bytes.{word32, word64}
use Rattle.rapidhash_portable.proofs.BytesLemmas.{word32-below, same_in_word32, same_in_word64}

-- above 16 bytes the last words are the last 16 bytes
pub last_words-long : (form : Form) (x : List ℕ) → 16 < length x → last_words form x ≡ last_16 x
unfolding last_words
last_words-long form x h = rw (lt-ltb 16 (length x) h) refl

-- up to 16 bytes they are the short words
pub last_words-short : (form : Form) (x : List ℕ) → length x ≤ 16 → last_words form x ≡ short_words form x
unfolding last_words
last_words-short form x h = rw (le-ltb 16 (length x) h) refl

-- above 16 bytes V3 mixes the length of the tail into the first word
pub mixed_words-long : (lanes n t : ℕ) (words : ℕ × ℕ) → 16 < n → mixed_words (V3 lanes) n t words ≡ (bit_xor words.0 t, words.1)
unfolding mixed_words
mixed_words-long lanes n t words h = rw (lt-ltb 16 n h) refl

-- up to 16 bytes no form mixes anything in
pub mixed_words-short : (form : Form) (n t : ℕ) (words : ℕ × ℕ) → n ≤ 16 → mixed_words form n t words ≡ words
unfolding mixed_words
mixed_words-short (V1 bug) n t words h = refl
mixed_words-short (V2 minor) n t words h = refl
mixed_words-short (V3 lanes) n t words h = rw (le-ltb 16 n h) refl

-- the words of 1 to 3 bytes
pub short_words-few : (form : Form) (x : List ℕ) → 0 < length x → length x < 4 → short_words form x ≡ words_to_3 form x
unfolding short_words
short_words-few form x h k = grind (arith, nat_tests)

-- the words of 4 to 7 bytes
pub short_words-four : (form : Form) (x : List ℕ) → 4 ≤ length x → length x < 8 → short_words form x ≡ words_to_7 form x
unfolding short_words
short_words-four form x h k = grind (arith, nat_tests)

-- the words of 8 to 16 bytes
pub short_words-eight : (form : Form) (x : List ℕ) → 8 ≤ length x → short_words form x ≡ words_to_16 form x
unfolding short_words
short_words-eight form x h = grind (arith, nat_tests)

-- three bytes packed
pub packed_three : (a b c : ℕ) → a < 256 → b < 256 → c < 256
    → bit_or (bit_or (a * 72057594037927936 % 18446744073709551616) (b * 4294967296 % 18446744073709551616)) c ≡ a * 2 ^ 56 + b * 2 ^ 32 + c
packed_three a b c h k l =
    let e : a * 72057594037927936 % 18446744073709551616 ≡ a * 2 ^ 56 = omega arith in
    let f : b * 4294967296 % 18446744073709551616 ≡ b * 2 ^ 32 = omega arith in
    let two : a * 2 ^ 56 + b * 2 ^ 32 ≡ (a * 2 ^ 24 + b) * 2 ^ 32 = omega arith in
    ap (λ v. bit_or (bit_or v (b * 4294967296 % 18446744073709551616)) c) e
    ∙ ap (λ v. bit_or (bit_or (a * 2 ^ 56) v) c) f
    ∙ ap (λ v. bit_or v c) (or_shifted a 56 (b * 2 ^ 32) (omega arith) ∙ two)
    ∙ or_shifted (a * 2 ^ 24 + b) 32 c (omega arith)
    ∙ ap (λ v. v + c) (sym two)

-- two messages have the same bytes
abbrev pub SameBytes : List ℕ → List ℕ → Type 0
SameBytes x y = (i : ℕ) → i < length x → get_or x i 0 ≡ get_or y i 0

-- bytes at one place, by other names of the place
same_at : (x y : List ℕ) (a b i : ℕ) → get_or x a 0 ≡ get_or y b 0 → i ≡ a → i ≡ b → get_or x i 0 ≡ get_or y i 0
same_at x y a b i e f g = cc

-- two messages of bytes with the same length: their last words determine their last bytes
module _ (x y : List ℕ) (x_bytes : (k : ℕ) → get_or x k 0 < 256) (y_bytes : (k : ℕ) → get_or y k 0 < 256) (size : length x ≡ length y) where
  -- the last sixteen bytes
  pub same_last : last_16 x ≡ last_16 y → (i : ℕ) → length x - 16 ≤ i → i < length x → 16 < length x → get_or x i 0 ≡ get_or y i 0
  same_last e i low high long =
      let first = same_in_word64 x y x_bytes y_bytes (length x - 16) (length y - 16) (ap (λ p. p.0) e) (omega arith) i in
      let second = same_in_word64 x y x_bytes y_bytes (length x - 8) (length y - 8) (ap (λ p. p.1) e) (omega arith) i in
      grind (arith, cases_lt i (length x - 8), first, second)

  -- up to 3 bytes: the first, the middle one and the last
  same_few : length x < 4 → get_or x 0 0 ≡ get_or y 0 0 → get_or x (length x / 2) 0 ≡ get_or y (length y / 2) 0
      → get_or x (length x - 1) 0 ≡ get_or y (length y - 1) 0 → SameBytes x y
  same_few few first middle last i h = grind (arith, cases_lt i 1, cases_lt i (length x - 1))

  -- 4 to 8 bytes: the first four and the last four
  same_four : 4 ≤ length x → length x ≤ 8 → word32 x 0 ≡ word32 y 0 → word32 x (length x - 4) ≡ word32 y (length y - 4) → SameBytes x y
  same_four some few first last i h =
      let front = same_in_word32 x y x_bytes y_bytes 0 0 first refl i in
      let back = same_in_word32 x y x_bytes y_bytes (length x - 4) (length y - 4) last (omega arith) i in
      grind (arith, cases_lt i 4, front, back)

  -- 8 to 16 bytes: the first eight and the last eight
  same_eight : 8 ≤ length x → length x ≤ 16 → word64 x 0 ≡ word64 y 0 → word64 x (length x - 8) ≡ word64 y (length y - 8) → SameBytes x y
  same_eight some few first last i h =
      let front = same_in_word64 x y x_bytes y_bytes 0 0 first refl i in
      let back = same_in_word64 x y x_bytes y_bytes (length x - 8) (length y - 8) last (omega arith) i in
      grind (arith, cases_lt i 8, front, back)

  -- the same by words of four
  same_eight_fours : 8 ≤ length x → length x ≤ 16 → word32 x 0 ≡ word32 y 0 → word32 x 4 ≡ word32 y 4
      → word32 x (length x - 8) ≡ word32 y (length y - 8) → word32 x (length x - 4) ≡ word32 y (length y - 4) → SameBytes x y
  same_eight_fours some few first second third last i h =
      let of = λ (a b : ℕ) (e : word32 x a ≡ word32 y b) (f : a ≡ b). same_in_word32 x y x_bytes y_bytes a b e f i in
      let back = of (length x - 4) (length y - 4) last (omega arith) in
      grind (arith, cases_lt i 4, cases_lt i 8, cases_lt i (length x - 4), of 0 0 first refl, of 4 4 second refl, of (length x - 8) (length y - 8) third (omega arith), back)

  -- three bytes in one word
  same_packed : get_or x 0 0 * 2 ^ 56 + get_or x (length x / 2) 0 * 2 ^ 32 + get_or x (length x - 1) 0 ≡ get_or y 0 0 * 2 ^ 56 + get_or y (length y / 2) 0 * 2 ^ 32 + get_or y (length y - 1) 0
      → length x < 4 → SameBytes x y
  same_packed e few i h =
      let outer = same_from_place (get_or x 0 0 * 2 ^ 24 + get_or x (length x / 2) 0) (get_or x (length x - 1) 0) (get_or y 0 0 * 2 ^ 24 + get_or y (length y / 2) 0) (get_or y (length y - 1) 0) (2 ^ 32) (omega (arith, x_bytes (length x - 1))) (omega (arith, y_bytes (length y - 1))) (omega arith) in
      let inner = same_from_place (get_or x 0 0) (get_or x (length x / 2) 0) (get_or y 0 0) (get_or y (length y / 2) 0) (2 ^ 24) (omega (arith, x_bytes (length x / 2))) (omega (arith, y_bytes (length y / 2))) outer.0 in
      same_few few inner.0 inner.1 outer.1 i h

  -- a first and a last byte in one word, and the middle one
  same_outer : (p : ℕ) → 256 ≤ 2 ^ p → get_or x 0 0 * 2 ^ p + get_or x (length x - 1) 0 ≡ get_or y 0 0 * 2 ^ p + get_or y (length y - 1) 0
      → get_or x (length x / 2) 0 ≡ get_or y (length y / 2) 0 → length x < 4 → SameBytes x y
  same_outer p room e middle few i h =
      let outer = same_from_place (get_or x 0 0) (get_or x (length x - 1) 0) (get_or y 0 0) (get_or y (length y - 1) 0) (2 ^ p) (omega (arith, room, x_bytes (length x - 1))) (omega (arith, room, y_bytes (length y - 1))) e in
      same_few few outer.0 middle outer.1 i h

  -- the words of up to 3 bytes
  same_to_3 : (form : Form) → length x < 4 → words_to_3 form x ≡ words_to_3 form y → SameBytes x y
  same_to_3 (V1 bug) few e i h = same_packed (ap (λ p. p.0) e) few i h
  same_to_3 (V2 minor) few e i h =
      ⊎_elim
      (λ old. let words = rw (lt-ltb minor 2 old) at e in same_packed (ap (λ p. p.0) words) few i h)
      (λ new. let words = rw (le-ltb minor 2 new) at e in same_outer 56 (omega arith) (ap (λ p. p.0) words) (ap (λ p. p.1) words) few i h)
      (cases_lt minor 2)
  same_to_3 (V3 lanes) few e i h = same_outer 45 (omega arith) (ap (λ p. p.0) e) (ap (λ p. p.1) e) few i h

  -- two words of 4 bytes in one of 8
  two_fours : (a b c d : ℕ) → word32 x a * 2 ^ 32 + word32 x b ≡ word32 y c * 2 ^ 32 + word32 y d
      → (word32 x a ≡ word32 y c) × (word32 x b ≡ word32 y d)
  two_fours a b c d e = same_from_place (word32 x a) (word32 x b) (word32 y c) (word32 y d) (2 ^ 32) (word32-below x x_bytes b) (word32-below y y_bytes d) e

  -- the words of 4 to 7 bytes
  same_to_7 : (form : Form) → 4 ≤ length x → length x ≤ 8 → words_to_7 form x ≡ words_to_7 form y → SameBytes x y
  same_to_7 (V1 bug) some few e i h = let two = two_fours 0 (length x - 4) 0 (length y - 4) (ap (λ p. p.0) e) in same_four some few two.0 two.1 i h
  same_to_7 (V2 minor) some few e i h = same_four some few (ap (λ p. p.0) e) (ap (λ p. p.1) e) i h
  same_to_7 (V3 lanes) some few e i h = same_four some few (ap (λ p. p.0) e) (ap (λ p. p.1) e) i h

  -- the words of 8 to 16 bytes
  same_to_16 : (form : Form) → 8 ≤ length x → length x ≤ 16 → words_to_16 form x ≡ words_to_16 form y → SameBytes x y
  same_to_16 (V1 bug) some few e i h =
      let outer = two_fours 0 (length x - 4) 0 (length y - 4) (ap (λ p. p.0) e) in
      let inner = two_fours 4 (length x - 8) 4 (length y - 8) (ap (λ p. p.1) e) in
      same_eight_fours some few outer.0 inner.0 inner.1 outer.1 i h
  same_to_16 (V2 minor) some few e i h = same_eight some few (ap (λ p. p.0) e) (ap (λ p. p.1) e) i h
  same_to_16 (V3 lanes) some few e i h = same_eight some few (ap (λ p. p.0) e) (ap (λ p. p.1) e) i h

  -- up to 16 bytes
  pub same_short : (form : Form) → length x ≤ 16 → short_words form x ≡ short_words form y → SameBytes x y
  same_short form short e i h =
      ⊎_elim
      (λ few. same_to_3 form few (sym (short_words-few form x (omega arith) few) ∙ e ∙ short_words-few form y (omega arith) (omega arith)) i h)
      (λ four. ⊎_elim
      (λ less. same_to_7 form four (omega arith) (sym (short_words-four form x four less) ∙ e ∙ short_words-four form y (omega arith) (omega arith)) i h)
      (λ eight. same_to_16 form eight short (sym (short_words-eight form x eight) ∙ e ∙ short_words-eight form y (omega arith)) i h)
      (cases_lt (length x) 8))
      (cases_lt (length x) 4)
