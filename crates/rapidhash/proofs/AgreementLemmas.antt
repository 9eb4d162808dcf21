-- Where two forms have one hash of a message.
use Rattle.std.proofs.Common.{◌≡◌, ◌≢◌, ℕ, zero, suc, ◌-◌, ◌*◌, ◌/◌, ◌%◌, ◌≤◌, ◌<◌, true, false, ◌⊎◌, inl, inr, ⊎_elim, List, [], ◌∷◌, length, take, refl, sym, ◌∙◌, arith}
use Rattle.std.proofs.lemmas.Bool.Decides.{nat_tests}
use Rattle.rapidhash_portable.specs.declared.form.Form.TheVariants.{V1, V2, V3}
use Rattle.rapidhash_portable.specs.Form.{longest_rowless, shape_of, start_seed, tail_places, tail_seed, v2_rowless_places}
use Rattle.rapidhash_portable.specs.Hash.{value}
use Rattle.rapidhash_portable.specs.Tail.{after_tail, picked}
use Rattle.rapidhash_portable.specs.Words.{last_words, mixed_words, short_words}
use Rattle.rapidhash_portable.proofs.FormLemmas.{rows-none, shape_of-v2-none, shape_of-v3-none, tail_places-v2-none}
use Rattle.rapidhash_portable.proofs.HashLemmas.{hash-is}
use Rattle.rapidhash_portable.proofs.WordsLemmas.{last_words-long}
use Rattle.rapidhash.specs.Laws.{SameHash}

-- by V3 and its relatives it is one hash
same-v3 : (lanes more : ℕ) (x : List ℕ) → lanes % 2 ≡ 1 → more % 2 ≡ 1 → lanes ≤ more → length x ≤ 16 * lanes
    → SameHash (V3 lanes) (V3 more) x
unfolding tail_seed tail_places mixed_words last_words short_words
same-v3 lanes more x odd odd' less few options seed secrets =
    let start = start_seed (V3 lanes) (length x) seed in
    let rows = rows-none (V3 lanes) lanes (length x) options.protected secrets x start odd (shape_of-v3-none lanes (length x) (omega arith) few) in
    let rows' = rows-none (V3 more) more (length x) options.protected secrets x start odd' (shape_of-v3-none more (length x) (omega arith) (omega arith)) in
    hash-is (V3 lanes) options seed secrets x x start rows ∙ sym (hash-is (V3 more) options seed secrets x x start rows')

-- micro and V3
pub same_micro : (x : List ℕ) → length x ≤ 80 → SameHash (V3 5) (V3 7) x
same_micro x few = same-v3 5 7 x refl refl (omega arith) few

-- nano and V3
pub same_nano : (x : List ℕ) → length x ≤ 48 → SameHash (V3 3) (V3 7) x
same_nano x few = same-v3 3 7 x refl refl (omega arith) few

-- V1's shape with its bug differs at 48 bytes only
shape-same_v1 : (n : ℕ) → n ≢ 48 → shape_of (V1 false) n ≡ shape_of (V1 true) n
unfolding shape_of
shape-same_v1 n other = grind (arith, nat_tests, other)

-- so is its hash
pub same_v1 : (x : List ℕ) → length x ≢ 48 → SameHash (V1 false) (V1 true) x
unfolding value tail_seed tail_places mixed_words last_words short_words
same_v1 x other options seed secrets = cc (shape-same_v1 (length x) other)

-- by two minors of V2 a message with rows has one hash
same-v2-rows : (first second : ℕ) (x : List ℕ) → 64 < length x → SameHash (V2 first) (V2 second) x
unfolding value tail_seed mixed_words shape_of tail_places
same-v2-rows first second x long options seed secrets =
    grind (arith, nat_tests, last_words-long (V2 first) x (omega arith), last_words-long (V2 second) x (omega arith))

-- and one without rows has where the last words agree, and the secrets of as many pairs as its tail has
same-v2-rowless : (first second : ℕ) (x : List ℕ) → length x ≤ 56 → last_words (V2 first) x ≡ last_words (V2 second) x
    → ((secrets : List ℕ) → take ((length x - 1) / 16) (picked secrets (v2_rowless_places first)) ≡ take ((length x - 1) / 16) (picked secrets (v2_rowless_places second)))
    → SameHash (V2 first) (V2 second) x
unfolding tail_seed mixed_words after_tail
same-v2-rowless first second x few words tables options seed secrets =
    let below : length x ≤ longest_rowless (V2 first) = grind (arith, nat_tests) in
    let below' : length x ≤ longest_rowless (V2 second) = grind (arith, nat_tests) in
    let start = start_seed (V2 first) (length x) seed in
    let rows = rows-none (V2 first) 7 (length x) options.protected secrets x start refl (shape_of-v2-none first (length x) below) in
    let rows' = rows-none (V2 second) 7 (length x) options.protected secrets x start refl (shape_of-v2-none second (length x) below') in
    let places = tail_places-v2-none first (length x) below in
    let places' = tail_places-v2-none second (length x) below' in
    cc (hash-is (V2 first) options seed secrets x x start rows, hash-is (V2 second) options seed secrets x x start rows', places, places', words, tables secrets)

-- V2.0 and V2.1 agree up to the limit of the one and above that of the other
pub same_v2_0 : (x : List ℕ) → (length x ≤ 56) ⊎ (64 < length x) → SameHash (V2 0) (V2 1) x
unfolding last_words short_words
same_v2_0 x lengths =
    ⊎_elim (λ few. same-v2-rowless 0 1 x few refl (λ secrets. refl)) (λ many. same-v2-rows 0 1 x many) lengths

-- the first two of three numbers do not depend on the third
take-two : (a b c d k : ℕ) → k ≤ 2 → take k (a ∷ b ∷ c ∷ []) ≡ take k (a ∷ b ∷ d ∷ [])
take-two a b c d zero h = refl
take-two a b c d (suc zero) h = refl
take-two a b c d (suc (suc zero)) h = refl
take-two a b c d (suc (suc (suc k))) h = absurd (omega arith)

-- from 4 bytes on, and of none, V2.1 and V2.2 read the same last words
same-last_words : (x : List ℕ) → (length x ≡ 0) ⊎ (4 ≤ length x) → last_words (V2 1) x ≡ last_words (V2 2) x
unfolding last_words short_words
same-last_words x lengths = grind (arith, nat_tests, lengths)

-- V2.1 and V2.2 agree where they read the same words, up to two pairs of a tail without rows, and above the limit
pub same_v2_1 : (x : List ℕ) → (length x ≡ 0) ⊎ ((4 ≤ length x) × (length x ≤ 48)) ⊎ (64 < length x) → SameHash (V2 1) (V2 2) x
same_v2_1 x lengths =
    let tables : length x ≤ 48 → (secrets : List ℕ) → take ((length x - 1) / 16) (picked secrets (v2_rowless_places 1)) ≡ take ((length x - 1) / 16) (picked secrets (v2_rowless_places 2)) =
    λ few secrets. take-two _ _ _ _ ((length x - 1) / 16) (omega arith) in
    ⊎_elim
    (λ none. same-v2-rowless 1 2 x (omega arith) (same-last_words x (inl none)) (tables (omega arith)))
    (λ some. ⊎_elim
    (λ few. same-v2-rowless 1 2 x (omega (arith, few)) (same-last_words x (inr few.0)) (tables few.1))
    (λ many. same-v2-rows 1 2 x many)
    some)
    lengths
