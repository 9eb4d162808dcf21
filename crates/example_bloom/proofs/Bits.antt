-- Bits in words: a bit that is set stays set, whatever else is set.
use Rattle.std.proofs.Common.{subst, ◌≤◌, ◌+◌, inl, inr, replicate, ◌⊎◌, mod-lt, ◌≡◌, ℕ, ◌<◌, ◌%◌, ◌/◌, ◌*◌, ◌^◌, max, List, length, get_or, set, ap, ◌∙◌, ⊎_elim, get_or-set_same, get_or-set_other, length-set, arith, sym}
use Rattle.std.proofs.lemmas.Bool.{cases_eq, cases_lt}
use Rattle.std.proofs.lemmas.Nat.Bits.{bit_at_or, bit_at-lt, bit_at-zero, bit_at_set_same, bit_at_set_other}
use Rattle.std.specs.Int.{bit_at, w64}
use mir.Val.{bits}
use Rattle.std.specs.Int.RustNames.{bit_or}
use Rattle.std.proofs.lemmas.List.{get_or-replicate, get_or_past, length-replicate}
use Rattle.example_bloom.specs.Filter.{HasBit, IsMark, SameBit, Sets, step_of}

max_l : (x y : ℕ) → x ≡ 1 → y < 2 → max x y ≡ 1
max_l x y is below = omega arith

max_r : (x y : ℕ) → y ≡ 1 → x < 2 → max x y ≡ 1
max_r x y is below = omega arith

max_one : (x y : ℕ) → max x y ≡ 1 → (x ≡ 1) ⊎ (y ≡ 1)
max_one x y is = ⊎_elim (λ (one : x ≡ 1). inl one) (λ other. inr (omega arith)) (cases_eq x 1)

-- each of some zeros is 0, and so are the elements behind them
zero_there : (count place : ℕ) → get_or {A = ℕ} (replicate count 0) place 0 ≡ 0
zero_there count place =
    ⊎_elim
    (λ (inside : place < count). get_or-replicate count place 0 0 inside)
    (λ (past : count ≤ place). get_or_past (replicate count 0) place 0 (rw (length-replicate {A = ℕ} count 0) past))
    (cases_lt place count)

-- an `|` keeps the bits of either side
pub or_keeps_l : (a b i : ℕ) → bit_at a i ≡ 1 → bit_at (bit_or a b) i ≡ 1
or_keeps_l a b i is = bit_at_or a b i ∙ max_l (bit_at a i) (bit_at b i) is (bit_at-lt b i)

pub or_keeps_r : (a b i : ℕ) → bit_at b i ≡ 1 → bit_at (bit_or a b) i ≡ 1
or_keeps_r a b i is = bit_at_or a b i ∙ max_r (bit_at a i) (bit_at b i) is (bit_at-lt a i)

-- a bit of a word stays where a word has more set
bit_stays : (words : List ℕ) (at mask place i : ℕ) → at < length words
    → bit_at (get_or words place 0) i ≡ 1 → bit_at (get_or (set words at (bit_or (get_or words at 0) mask)) place 0) i ≡ 1
bit_stays words at mask place i inside was =
    let word : ℕ = bit_or (get_or words at 0) mask in
    ⊎_elim
    (λ (same : place ≡ at).
    ap (λ (p : ℕ). bit_at (get_or (set words at word) p 0) i) same
    ∙ ap (λ (n : ℕ). bit_at n i) (get_or-set_same words at word 0 inside)
    ∙ or_keeps_l (get_or words at 0) mask i (ap (λ (p : ℕ). bit_at (get_or words p 0) i) (sym same) ∙ was))
    (λ other. ap (λ (n : ℕ). bit_at n i) (get_or-set_other words at place word 0 other) ∙ was)
    (cases_eq place at)

set_keeps : (words : List ℕ) (at mask step : ℕ) → at < length words
    → HasBit words step → HasBit (set words at (bit_or (get_or words at 0) mask)) step
set_keeps words at mask step inside was =
    rw (length-set words at (bit_or (get_or words at 0) mask)) (bit_stays words at mask (step % length words) (step / length words % 64) inside was)

-- the bit of a step is set behind the `|` that sets it
set_sets : (words : List ℕ) (step : ℕ) → 0 < length words
    → HasBit (set words (step % length words) (bit_or (get_or words (step % length words) 0) (1 * 2 ^ (step / length words % 64) % 2 ^ bits w64))) step
set_sets words step some =
    let at : ℕ = step % length words in
    let word : ℕ = bit_or (get_or words at 0) (1 * 2 ^ (step / length words % 64) % 2 ^ bits w64) in
    rw (length-set words at word) (
    ap (λ (n : ℕ). bit_at n (step / length words % 64)) (get_or-set_same words at word 0 (mod-lt step some))
    ∙ bit_at_set_same w64 (get_or words at 0) (step / length words % 64) (omega arith))

-- the bits of two words are in their `|`, at each place of two lists
pub joined_has : (words others joined : List ℕ) → length others ≡ length words → length joined ≡ length words
    → ((k : ℕ) → k < length words → get_or joined k 0 ≡ bit_or (get_or words k 0) (get_or others k 0))
    → 0 < length words → (step : ℕ) → HasBit words step ⊎ HasBit others step → HasBit joined step
joined_has words others joined same_others same_joined each some step either =
    let at : ℕ = step % length words in
    let i : ℕ = step / length words % 64 in
    let word : get_or joined at 0 ≡ bit_or (get_or words at 0) (get_or others at 0) = each at (mod-lt step some) in
    rw same_joined (ap (λ (n : ℕ). bit_at n i) word ∙
    ⊎_elim
    (λ (has : HasBit words step). or_keeps_l (get_or words at 0) (get_or others at 0) i has)
    (λ (has : HasBit others step).
    let has' : bit_at (get_or others at 0) i ≡ 1 = rw (← same_others) has in
    or_keeps_r (get_or words at 0) (get_or others at 0) i has')
    either)

-- the bits of the `|` of two words at each place are bits of either
pub joined_only : (words others joined : List ℕ) → length others ≡ length words → length joined ≡ length words
    → ((k : ℕ) → k < length words → get_or joined k 0 ≡ bit_or (get_or words k 0) (get_or others k 0))
    → 0 < length words → (step : ℕ) → HasBit joined step → HasBit words step ⊎ HasBit others step
joined_only words others joined same_others same_joined each some step has =
    let at : ℕ = step % length words in
    let i : ℕ = step / length words % 64 in
    let has' : bit_at (get_or joined at 0) i ≡ 1 = rw (← same_joined) has in
    let is : max (bit_at (get_or words at 0) i) (bit_at (get_or others at 0) i) ≡ 1 =
    sym (bit_at_or (get_or words at 0) (get_or others at 0) i) ∙ ap (λ (n : ℕ). bit_at n i) (sym (each at (mod-lt step some))) ∙ has' in
    rw same_others (max_one (bit_at (get_or words at 0) i) (bit_at (get_or others at 0) i) is)

-- a bit that is set behind the `|` that sets a step's bit was set before, or is the step's
set_only : (words : List ℕ) (step other : ℕ) → 0 < length words
    → HasBit (set words (step % length words) (bit_or (get_or words (step % length words) 0) (1 * 2 ^ (step / length words % 64) % 2 ^ bits w64))) other
    → HasBit words other ⊎ SameBit (length words) other step
set_only words step other some has =
    let at : ℕ = step % length words in
    let k : ℕ = step / length words % 64 in
    let place : ℕ = other % length words in
    let i : ℕ = other / length words % 64 in
    let word : ℕ = bit_or (get_or words at 0) (1 * 2 ^ k % 2 ^ bits w64) in
    let has' : bit_at (get_or (set words at word) place 0) i ≡ 1 = subst (λ (n : ℕ). bit_at (get_or (set words at word) (other % n) 0) (other / n % 64) ≡ 1) (length-set words at word) has in
    ⊎_elim
    (λ (same : place ≡ at).
    let here : bit_at word i ≡ 1 =
    sym (ap (λ (n : ℕ). bit_at n i) (ap (λ (p : ℕ). get_or (set words at word) p 0) same ∙ get_or-set_same words at word 0 (mod-lt step some))) ∙ has' in
    ⊎_elim
    (λ (same_bit : i ≡ k). inr (same, same_bit))
    (λ apart. inl (ap (λ (p : ℕ). bit_at (get_or words p 0) i) same ∙ sym (bit_at_set_other w64 (get_or words at 0) k (omega arith) i apart) ∙ here))
    (cases_eq i k))
    (λ apart. inl (ap (λ (n : ℕ). bit_at n i) (sym (get_or-set_other words at place word 0 apart)) ∙ has'))
    (cases_eq place at)

-- the `|` that sets a step's bit sets just this one
pub set_is : (words : List ℕ) (step : ℕ) → 0 < length words
    → Sets words (set words (step % length words) (bit_or (get_or words (step % length words) 0) (1 * 2 ^ (step / length words % 64) % 2 ^ bits w64))) step
set_is words step some = record {
  added = set_sets words step some;
  kept = λ other was. set_keeps words (step % length words) (1 * 2 ^ (step / length words % 64) % 2 ^ bits w64) other (mod-lt step some) was;
  only = λ other has. set_only words step other some has;
  same = length-set words (step % length words) (bit_or (get_or words (step % length words) 0) (1 * 2 ^ (step / length words % 64) % 2 ^ bits w64));
}

-- one more mark
pub marked_one : (old mid new : List ℕ) (i hash : ℕ) → length mid ≡ length old
    → ((step : ℕ) → HasBit mid step → HasBit old step ⊎ IsMark (length old) i hash step)
    → ((step : ℕ) → HasBit new step → HasBit mid step ⊎ SameBit (length mid) step (step_of hash i))
    → (step : ℕ) → HasBit new step → HasBit old step ⊎ IsMark (length old) (i + 1) hash step
marked_one old mid new i hash same before one step has =
    ⊎_elim
    (λ (was : HasBit mid step). ⊎_elim
    (λ (was : HasBit old step). inl was)
    (λ (is : IsMark (length old) i hash step). inr (is.0, omega (arith, is.1), is.2))
    (before step was))
    (λ (is : SameBit (length mid) step (step_of hash i)). inr (i, omega arith, rw (← same) is))
    (one step has)

-- words that are 0 have no bit
pub zeros_have_none : (count step : ℕ) → HasBit (replicate count 0) step → ⊥
zeros_have_none count step has =
    let zeros : List ℕ = replicate count 0 in
    let i : ℕ = step / length zeros % 64 in
    let none : bit_at (get_or zeros (step % length zeros) 0) i ≡ 0 =
    ap (λ (n : ℕ). bit_at n i) (zero_there count (step % length zeros)) ∙ bit_at-zero i in
    let differ : 1 ≡ 0 = sym has ∙ none in
    absurd (omega (arith, differ))
