-- The bytes that the generator returns are those of its words.
use Rattle.std.proofs.Common.{◌≡◌, ℕ, zero, suc, ◌^◌, ◌<◌, List, [], ◌++◌, sym, ap, ◌∙◌, arith}
use Rattle.std.proofs.Math.Nat.{mod-eq_of_lt}
use Rattle.std.specs.Int.{w64, to_le_bytes}
use Rattle.rand_core.specs.Steps.{word_bytes, first_bytes, fill_via_u64}
use Rattle.rapidhash.specs.Generator.{state_after, word_of, next_word, bytes_of_words, words_for, first_bytes_of}

-- the bytes of the next words are those of words 1 to `count`, after as many steps
words_are : (count seed : ℕ) → seed < 2 ^ 64 → word_bytes (to_le_bytes w64) next_word count seed ≡ (bytes_of_words seed count, state_after seed count)
unfolding word_bytes
words_are zero seed h = ap (λ (n : ℕ). let p : List ℕ × ℕ = ([], n) in p) (sym (mod-eq_of_lt h) ∙ omega arith)
words_are (suc count) seed h =
    let before = words_are count seed h in
    let e : state_after (state_after seed count) 1 ≡ state_after seed (suc count) = omega arith in
    ap (λ (p : List ℕ × ℕ). let q : List ℕ × ℕ = (p.0 ++ to_le_bytes w64 (next_word p.1).0, (next_word p.1).1) in q) before
    ∙ ap (λ (n : ℕ). let q : List ℕ × ℕ = (bytes_of_words seed count ++ to_le_bytes w64 (word_of n), n) in q) e

-- so a buffer that is filled from words holds the first of these bytes
pub drawn : (size seed : ℕ) (bytes : List ℕ) (left : ℕ) → seed < 2 ^ 64
    → (bytes, left) ≡ fill_via_u64 next_word size seed → (bytes ≡ first_bytes_of seed size) × (left ≡ state_after seed (words_for size))
drawn size seed bytes left h e =
    let both = e ∙ ap (λ (p : List ℕ × ℕ). first_bytes size p) (words_are (words_for size) seed h) in
    (ap (λ (p : List ℕ × ℕ). p.0) both, ap (λ (p : List ℕ × ℕ). p.1) both)
