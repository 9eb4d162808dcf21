-- Secrets derived from one another, each with a set bit in its three parts, and the default seeds as numbers.
use Rattle.std.proofs.Common.{◌≡◌, ◌≢◌, ℕ, nat_eq, bit_and, bit_or, min, max, refl, ap, sym, ◌∙◌, arith, suc, ◌+◌, ◌≤◌, ◌<◌, false, bit_xor, List, length, get_or, set, subst, length-set}
use Rattle.std.proofs.lemmas.Bool.{cond_both, eqb-false}
use Rattle.std.proofs.lemmas.List.Edits.{fill_by_more}
use Rattle.std.proofs.lemmas.List.Elements.{All-from_get_or}
use Rattle.std.proofs.lemmas.Nat.{and_or_apart}
use Rattle.std.proofs.lemmas.Nat.Bits.{bit_at-zero, bit_at_and, bit_at_or}
use Rattle.std.specs.Int.{bit_at}
use Rattle.std.specs.List.{All}
use Rattle.rapidhash_portable.specs.Secrets.{IsGood, repaired, with_bit, chained, cpp_seeded, default_secrets, default_seed, default_seed_v1, made_state, premixed, s0}
use Rattle.rapidhash_portable.specs.Multiply.{mix, multiply}

-- a number with a set bit is not 0
nonzero : (n i : ℕ) → bit_at n i ≡ 1 → n ≢ 0
nonzero n i set e =
    let z : bit_at 0 i ≡ 0 = bit_at-zero i in
    let one : 1 ≡ 0 = sym set ∙ ap (λ m. bit_at m i) e ∙ z in
    absurd (omega arith)

-- the repaired part has a bit
with_bit-sets : (word mask bit i : ℕ) → bit_at bit i ≡ 1 → bit_at mask i ≡ 1 → bit_and (with_bit word mask bit) mask ≢ 0
unfolding with_bit
with_bit-sets word mask bit i in_bit in_mask =
    let capped : min (max (bit_at word i) 1) 1 ≡ 1 = omega arith in
    let set : bit_at (bit_and (bit_or word bit) mask) i ≡ 1 =
    bit_at_and (bit_or word bit) mask i ∙ ap (λ m. min (bit_at (bit_or word bit) i) m) in_mask
    ∙ ap (λ m. min m 1) (bit_at_or word bit i ∙ ap (max (bit_at word i)) in_bit) ∙ capped in
    cond_both (nat_eq (bit_and word mask) 0) (bit_or word bit) word (λ v. bit_and v mask ≢ 0)
    (λ _. nonzero (bit_and (bit_or word bit) mask) i set)
    (λ none. eqb-false (bit_and word mask) 0 none)

-- and the others keep theirs
with_bit-keeps : (word mask bit other : ℕ) → bit_and bit other ≡ 0 → bit_and word other ≢ 0 → bit_and (with_bit word mask bit) other ≢ 0
unfolding with_bit
with_bit-keeps word mask bit other apart has =
    cond_both (nat_eq (bit_and word mask) 0) (bit_or word bit) word (λ v. bit_and v other ≢ 0)
    (λ _ e. has (sym (and_or_apart other word bit apart) ∙ e))
    (λ _. has)

-- a repaired word is good
pub IsGood-repaired : (word : ℕ) → IsGood (repaired word)
unfolding repaired
IsGood-repaired word =
    let upper = with_bit word 0xffff000000000000 0x8000000000000000 in
    let middle = with_bit upper 0xffff000000 0x80000000 in
    let has_upper = with_bit-sets word 0xffff000000000000 0x8000000000000000 63 refl refl in
    let kept_upper = with_bit-keeps upper 0xffff000000 0x80000000 0xffff000000000000 refl has_upper in
    let has_middle = with_bit-sets upper 0xffff000000 0x80000000 31 refl refl in
    record {
      upper = with_bit-keeps middle 0xffff 1 0xffff000000000000 refl kept_upper;
      middle = with_bit-keeps middle 0xffff 1 0xffff000000 refl has_middle;
      lower = with_bit-sets middle 0xffff 1 0 refl refl;
    }

-- one premix more
pub chained-more : (word count : ℕ) → chained word (count + 1) ≡ premixed (chained word count) count
unfolding chained
chained-more word count =
    let one : count + 1 ≡ suc count = omega arith in
    ap (chained word) one

-- a word after a premix is good
pub IsGood-chained : (word count : ℕ) → IsGood (chained word (count + 1))
unfolding premixed
IsGood-chained word count = subst IsGood (sym (chained-more word count)) (IsGood-repaired _)

-- one state more
pub made_state-more : (random count : ℕ)
    → made_state random (count + 1) ≡ repaired (mix false (bit_xor (made_state random count) s0) (bit_xor random (get_or default_secrets count 0)))
unfolding made_state
made_state-more random count =
    let one : count + 1 ≡ suc count = omega arith in
    ap (made_state random) one

-- a state after the first is good
pub IsGood-made_state : (random count : ℕ) → IsGood (made_state random (count + 1))
IsGood-made_state random count = subst IsGood (sym (made_state-more random count)) (IsGood-repaired _)

-- the first `count` of `size` secrets are those of a rule
pub record AreFilled (rule : ℕ → ℕ) (secrets : List ℕ) (size count : ℕ) : Type 0 where
  pub whole : length secrets ≡ size
  pub made : (k : ℕ) → k < count → get_or secrets k 0 ≡ rule k

-- one secret more
pub AreFilled-more : {rule : ℕ → ℕ} {secrets : List ℕ} {size count : ℕ} → AreFilled rule secrets size count → (secret : ℕ) →
    secret ≡ rule count → count < size → AreFilled rule (set secrets count secret) size (count + 1)
AreFilled-more {rule} {secrets} {size} {count} f secret is less = record {
  whole = length-set secrets count secret ∙ f.whole;
  made = λ k l. ap (λ v. get_or (set secrets count v) k 0) is ∙ fill_by_more rule secrets count 0 (omega arith) f.made k l;
}

-- all of them, which are good where the rule's are
pub AreFilled-good : {rule : ℕ → ℕ} {secrets : List ℕ} {size count : ℕ} → AreFilled rule secrets size count → size ≤ count →
    ((k : ℕ) → IsGood (rule k)) → All IsGood secrets
AreFilled-good {rule} {secrets} f enough good =
    All-from_get_or IsGood secrets 0 (λ k l. subst IsGood (sym (f.made k (omega arith))) (good k))

-- the default seed of V2 and V3 as a number
pub default_number : 0x422765567d8fbfd6 ≡ default_seed
unfolding cpp_seeded mix multiply
default_number = refl

-- and that of V1
pub default_number_v1 : 0x763305bbe7bea536 ≡ default_seed_v1
unfolding cpp_seeded mix multiply
default_number_v1 = refl
