-- Little-endian words: of a part of a message, and that the bytes follow from a word.
use Rattle.std.proofs.Common.{◌≡◌, ℕ, ◌+◌, ◌≤◌, ◌<◌, List, ◌++◌, length, get_or, drop, arith, add_assoc, get_or-drop, zero, suc, ◌*◌, ◌^◌, [], ◌∷◌, sum_by, sym, ap, ◌∙◌, ⊎_elim}
use Rattle.std.proofs.lemmas.List.{get_or_append_left}
use Rattle.rapidhash_portable.specs.Bytes.{word64, little_endian, word32}
use Rattle.std.specs.List.{range_with_len}
use Rattle.std.proofs.Math.Nat.{pow-suc}
use Rattle.std.proofs.lemmas.Bool.{cases_lt}
use Rattle.std.proofs.lemmas.List.Sums.{sum_by-append}
use Rattle.std.proofs.lemmas.Nat.{mul-add-lt, same_from_place}
use Rattle.rapidhash_portable.specs.Lanes.{pair_at}

-- a word of the rest of a message
pub word64-drop : (x : List ℕ) (n at : ℕ) → word64 (drop n x) at ≡ word64 x (n + at)
unfolding word64
word64-drop x n at = simp (get_or-drop, add_assoc)

-- a word within the first part of a message
pub word64-append : (x y : List ℕ) (at : ℕ) → at + 8 ≤ length x → word64 (x ++ y) at ≡ word64 x at
unfolding word64
word64-append x y at h = grind (arith, get_or_append_left x y 0)

-- a range of one number more
range_more : (a n last : ℕ) → a + n ≡ last → range_with_len a (suc n) ≡ range_with_len a n ++ last ∷ []
range_more a zero last e = let first : a ≡ last = omega arith in ap (λ k. k ∷ []) first
range_more a (suc n) last e = ap (λ ks. a ∷ ks) (range_more (a + 1) n last (omega arith))

-- one byte more
little_endian-more : (x : List ℕ) (at count : ℕ) → little_endian (suc count) x at ≡ get_or x (at + count) 0 * 256 ^ count + little_endian count x at
little_endian-more x at count =
    let digit = λ (j : ℕ). get_or x (at + j) 0 * 256 ^ j in
    let last = ap (sum_by digit) (range_more 0 count count (omega arith)) in
    omega (arith, last, sum_by-append digit (range_with_len 0 count) (count ∷ []))

-- a number of bytes is below a power of 256
module _ (x : List ℕ) (bytes : (k : ℕ) → get_or x k 0 < 256) where
  -- a number of so many bytes is small
  little_endian-below : (count at : ℕ) → little_endian count x at < 256 ^ count
  little_endian-below zero at = omega arith
  little_endian-below (suc count) at =
      omega (arith, little_endian-more x at count, pow-suc 256 count, mul-add-lt (get_or x (at + count) 0) (256 ^ count) (little_endian count x at) 256 (bytes (at + count)) (little_endian-below count at))

  -- so a word of 4 bytes is
  pub word32-below : (at : ℕ) → word32 x at < 2 ^ 32
  unfolding word32
  word32-below at = little_endian-below 4 at

-- equal numbers have equal bytes
module _ (x y : List ℕ) (x_bytes : (k : ℕ) → get_or x k 0 < 256) (y_bytes : (k : ℕ) → get_or y k 0 < 256) where
  -- byte by byte, from the last one on
  same_bytes : (count a b : ℕ) → little_endian count x a ≡ little_endian count y b → (i k : ℕ) → a ≤ i → i < a + count → i + b ≡ k + a → get_or x i 0 ≡ get_or y k 0
  same_bytes zero a b e i k low high same = absurd (omega arith)
  same_bytes (suc count) a b e i k low high same =
      let parts = same_from_place (get_or x (a + count) 0) (little_endian count x a) (get_or y (b + count) 0) (little_endian count y b) (256 ^ count)
      (little_endian-below x x_bytes count a) (little_endian-below y y_bytes count b)
      (sym (little_endian-more x a count) ∙ e ∙ little_endian-more y b count) in
      ⊎_elim
      (λ l. same_bytes count a b parts.1 i k low l same)
      (λ l. let at : i ≡ a + count = omega arith in let at' : k ≡ b + count = omega arith in rw (at, at') parts.0)
      (cases_lt i (a + count))

  -- in two words of 4 bytes
  pub same_in_word32 : (a b : ℕ) → word32 x a ≡ word32 y b → a ≡ b → (i : ℕ) → a ≤ i → i < a + 4 → get_or x i 0 ≡ get_or y i 0
  unfolding word32
  same_in_word32 a b e f i low high = same_bytes 4 a b e i i low high (omega arith)

  -- in two words of 8 bytes
  pub same_in_word64 : (a b : ℕ) → word64 x a ≡ word64 y b → a ≡ b → (i : ℕ) → a ≤ i → i < a + 8 → get_or x i 0 ≡ get_or y i 0
  unfolding word64
  same_in_word64 a b e f i low high = same_bytes 8 a b e i i low high (omega arith)

  -- in two pairs
  pub same_in_pair : (a b : ℕ) → pair_at x a ≡ pair_at y b → a ≡ b → (i : ℕ) → a ≤ i → i < a + 16 → get_or x i 0 ≡ get_or y i 0
  same_in_pair a b e f i low high =
      let first = same_in_word64 a b (ap (λ p. p.0) e) f i in
      grind (arith, cases_lt i (a + 8), first, same_in_word64 (a + 8) (b + 8) (ap (λ p. p.1) e) (omega arith) i)
