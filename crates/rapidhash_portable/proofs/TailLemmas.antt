-- The pairs of a tail, folded one after another.
use Rattle.std.proofs.Common.{◌≡◌, ℕ, ◌+◌, ◌-◌, ◌*◌, ◌/◌, ◌≤◌, ◌<◌, Bool, List, [], ◌∷◌, ◌++◌, length, get_or, take, drop, refl, sym, ap, ◌∙◌, arith, length-drop}
use Rattle.std.proofs.lemmas.List.{take_all, take_more, take-take, length-take-le}
use Rattle.rapidhash_portable.specs.Lanes.{pair_of, pair_at, step}
use Rattle.rapidhash_portable.specs.Tail.{after_tail, fold_pairs}
use Rattle.rapidhash_portable.proofs.LanesLemmas.{pair_at-drop}

-- one pair more
pub fold_pairs-push : (protected : Bool) (cs : List ℕ) (c : ℕ) (pair : ℕ → ℕ × ℕ) (at seed : ℕ)
    → fold_pairs protected (cs ++ c ∷ []) pair at seed ≡ step protected c (fold_pairs protected cs pair at seed) (pair (at + length cs))
unfolding fold_pairs
fold_pairs-push protected [] c pair at seed =
    let e : at ≡ at + 0 = omega arith in
    ap (λ k. step protected c seed (pair k)) e
fold_pairs-push protected (d ∷ cs) c pair at seed =
    let e : at + 1 + length cs ≡ at + length (d ∷ cs) = omega arith in
    fold_pairs-push protected cs c pair (at + 1) (step protected d seed (pair at))
    ∙ ap (λ k. step protected c (fold_pairs protected cs pair (at + 1) (step protected d seed (pair at))) (pair k)) e

-- the pairs up to place `j`, and the one there
pub fold_pairs-more : (protected : Bool) (table : List ℕ) (pair : ℕ → ℕ × ℕ) (j seed : ℕ) → j < length table
    → fold_pairs protected (take (j + 1) table) pair 0 seed ≡ step protected (get_or table j 0) (fold_pairs protected (take j table) pair 0 seed) (pair j)
fold_pairs-more protected table pair j seed h =
    let e : 0 + length (take j table) ≡ j = omega (arith, length-take-le j table (omega arith)) in
    ap (λ cs. fold_pairs protected cs pair 0 seed) (take_more table j 0 h)
    ∙ fold_pairs-push protected (take j table) (get_or table j 0) pair 0 seed
    ∙ ap (λ k. step protected (get_or table j 0) (fold_pairs protected (take j table) pair 0 seed) (pair k)) e

-- no secret
pub after_tail-none : (protected : Bool) (pair : ℕ → ℕ × ℕ) (t seed : ℕ) → after_tail protected [] pair 0 t seed ≡ seed
unfolding after_tail fold_pairs
after_tail-none protected pair t seed = ap (λ cs. fold_pairs protected cs pair 0 seed) (take_all ((t - 1) / 16) [] (omega arith))

-- a secret more, for a pair that the tail has
pub after_tail-more : (protected : Bool) (table : List ℕ) (pair : ℕ → ℕ × ℕ) (t seed j : ℕ) → j < length table → 16 * j + 16 < t
    → after_tail protected (take (j + 1) table) pair 0 t seed ≡ step protected (get_or table j 0) (after_tail protected (take j table) pair 0 t seed) (pair j)
unfolding after_tail
after_tail-more protected table pair t seed j h long =
    let k = (t - 1) / 16 in
    let more : length (take (j + 1) table) ≤ k = omega (arith, length-take-le (j + 1) table (omega arith)) in
    let few : length (take j table) ≤ k = omega (arith, length-take-le j table (omega arith)) in
    ap (λ cs. fold_pairs protected cs pair 0 seed) (take_all k (take (j + 1) table) more)
    ∙ fold_pairs-more protected table pair j seed h
    ∙ ap (λ cs. step protected (get_or table j 0) (fold_pairs protected cs pair 0 seed) (pair j)) (sym (take_all k (take j table) few))

-- a secret more, for a pair that it has not
pub after_tail-same : (protected : Bool) (table : List ℕ) (pair : ℕ → ℕ × ℕ) (t seed j : ℕ) → t ≤ 16 * j + 16
    → after_tail protected (take (j + 1) table) pair 0 t seed ≡ after_tail protected (take j table) pair 0 t seed
unfolding after_tail
after_tail-same protected table pair t seed j short =
    let k = (t - 1) / 16 in
    ap (λ cs. fold_pairs protected cs pair 0 seed) (take-take k (j + 1) table (omega arith) ∙ sym (take-take k j table (omega arith)))

-- all secrets
pub after_tail-whole : (protected : Bool) (table : List ℕ) (pair : ℕ → ℕ × ℕ) (t seed n : ℕ) → n ≡ length table
    → after_tail protected (take n table) pair 0 t seed ≡ after_tail protected table pair 0 t seed
after_tail-whole protected table pair t seed n e =
    ap (λ cs. after_tail protected cs pair 0 t seed) (take_all n table (omega arith))

-- the pairs of the rest of a message are the message's own
fold_pairs-drop : (protected : Bool) (cs x : List ℕ) (first at place seed : ℕ) → place ≡ first + at
    → fold_pairs protected cs (pair_of (drop (16 * first) x)) at seed ≡ fold_pairs protected cs (pair_of x) place seed
unfolding fold_pairs
fold_pairs-drop protected [] x first at place seed e = refl
fold_pairs-drop protected (c ∷ cs) x first at place seed e =
    let here : 16 * first + 16 * at ≡ 16 * place = omega arith in
    fold_pairs-drop protected cs x first (at + 1) (place + 1) (step protected c seed (pair_of (drop (16 * first) x) at)) (omega arith)
    ∙ ap (λ p. fold_pairs protected cs (pair_of x) (place + 1) (step protected c seed p)) (pair_at-drop x (16 * first) (16 * at) ∙ ap (pair_at x) here)

-- a tail as the rest of a message
pub after_tail-rest : (protected : Bool) (table x rest : List ℕ) (first seed : ℕ) → rest ≡ drop (16 * first) x
    → after_tail protected table (pair_of rest) 0 (length rest) seed ≡ after_tail protected table (pair_of x) first (length x - 16 * first) seed
unfolding after_tail
after_tail-rest protected table x rest first seed e =
    rw (e, length-drop) (fold_pairs-drop protected (take ((length x - 16 * first - 1) / 16) table) x first 0 first seed (omega arith))

-- a tail of at most 16 bytes has no pair
pub after_tail-short : (protected : Bool) (table tail : List ℕ) (seed : ℕ) → length tail ≤ 16
    → after_tail protected table (pair_of tail) 0 (length tail) seed ≡ seed
unfolding after_tail fold_pairs
after_tail-short protected table tail seed h = let none : (length tail - 1) / 16 ≡ 0 = omega arith in rw none refl

-- a tail of at most 32 bytes has no second pair
pub after_tail-single : (protected : Bool) (a b c : ℕ) (pair : ℕ → ℕ × ℕ) (t seed : ℕ) → t ≤ 32
    → after_tail protected (a ∷ b ∷ c ∷ []) pair 0 t seed ≡ after_tail protected (a ∷ []) pair 0 t seed
after_tail-single protected a b c pair t seed h =
    after_tail-same protected (a ∷ b ∷ c ∷ []) pair t seed 2 (omega arith)
    ∙ after_tail-same protected (a ∷ b ∷ c ∷ []) pair t seed 1 (omega arith)
