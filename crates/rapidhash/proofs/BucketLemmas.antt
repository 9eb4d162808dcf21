-- The laws of buckets.
use Rattle.std.proofs.Common.{◌≡◌, ◌≤◌, ◌<◌, ℕ, zero, suc, ◌+◌, ◌*◌, ◌/◌, ◌^◌, ◌↔◌, ◌⊎◌, ⊎_elim, ◌-◌, inl, inr, refl, sym, ap, ◌∙◌, arith, mod-lt, zero-add}
use Rattle.std.proofs.lemmas.Bool.{cases_lt}
use Rattle.std.proofs.lemmas.Nat.{mul-le}
use Rattle.std.proofs.Math.Nat.{le-div_iff_mul-le}
use Rattle.rapidhash.specs.Shards.{IsBucket, candidate, jump_from, state_after, state_at}

-- a jump goes up
pub jump-past : (state bucket : ℕ) → state < 2 ^ 64 → bucket < jump_from state bucket
jump-past state bucket fits =
    let product : (bucket + 1) * (state / 2 ^ 33 + 1) ≤ (bucket + 1) * 2 ^ 31 =
    mul-le (bucket + 1) (state / 2 ^ 33 + 1) (bucket + 1) (2 ^ 31) (omega arith) (omega arith) in
    let least : bucket + 1 ≤ jump_from state bucket = (le-div_iff_mul-le (omega arith)).1 product in
    omega arith

-- of the words that jump from a bucket, a share of (bucket + 1) / n goes to n or past it
pub jump-even : (state bucket n : ℕ) → 0 < n → n ≤ jump_from state bucket ↔ state / 2 ^ 33 + 1 ≤ (bucket + 1) * 2 ^ 31 / n
jump-even state bucket n some =
    let word : ℕ = state / 2 ^ 33 + 1 in
    let range : ℕ = (bucket + 1) * 2 ^ 31 in
    let by_word : (n ≤ range / word) ↔ (n * word ≤ range) = le-div_iff_mul-le (omega arith) in
    let by_n : (word ≤ range / n) ↔ (word * n ≤ range) = le-div_iff_mul-le some in (
      λ (far : n ≤ range / word). by_n.1 (omega (arith, by_word.0 far)),
      λ (low : word ≤ range / n). by_word.1 (omega (arith, by_n.0 low)),
    )

-- the candidates ascend
candidate-next : (hash step : ℕ) → candidate hash step < candidate hash (suc step)
unfolding candidate state_at
candidate-next hash step =
    jump-past (state_at hash (suc step)) (candidate hash step) (mod-lt (state_at hash step * 2862933555777941757 + 1) (omega arith))

candidate-past : (hash step more : ℕ) → candidate hash step ≤ candidate hash (more + step)
candidate-past hash step zero = rw zero-add (omega arith)
candidate-past hash step (suc more) =
    let e : suc more + step ≡ suc (more + step) = omega arith in
    rw e (omega (arith, candidate-past hash step more, candidate-next hash (more + step)))

candidate-ascends : (hash step later : ℕ) → step ≤ later → candidate hash step ≤ candidate hash later
candidate-ascends hash step later less =
    let e : (later - step) + step ≡ later = omega arith in
    omega (arith, candidate-past hash step (later - step), ap (candidate hash) e)

-- among more buckets a hash stays, or goes to a new one
pub bucket-moves : (hash count more bucket other : ℕ) → count ≤ more → IsBucket hash count bucket → IsBucket hash more other
    → (other ≡ bucket) ⊎ (count ≤ other)
bucket-moves hash count more bucket other less b o =
    ⊎_elim
    (λ (later : b.step < o.step). inr (omega (arith, b.next, o.is, candidate-ascends hash (suc b.step) o.step later)))
    (λ (behind : o.step ≤ b.step).
    ⊎_elim
    (λ (earlier : o.step < b.step).
    absurd (omega (arith, o.next, b.is, b.below, less, candidate-ascends hash (suc o.step) b.step earlier)))
    (λ (same : b.step ≤ o.step). inl (o.is ∙ ap (candidate hash) (let e : o.step ≡ b.step = omega arith in e) ∙ sym b.is))
    (cases_lt o.step b.step))
    (cases_lt b.step o.step)

-- the state of the loop: a candidate, the state that jumps from it, and the next candidate
pub record Walks (hash at state next : ℕ) : Type 0 where
  pub step : ℕ
  pub at_is : at ≡ candidate hash step
  pub state_is : state ≡ state_at hash (suc step)
  pub next_is : next ≡ candidate hash (suc step)

pub walks-start : (hash state next : ℕ) → state ≡ state_after hash → next ≡ jump_from state 0 → Walks hash 0 state next
unfolding candidate state_at
walks-start hash state next s n = record { step = 0; at_is = refl; state_is = s; next_is = n ∙ ap (λ x. jump_from x 0) s }

pub walks-more : (hash at state next state' next' : ℕ) → Walks hash at state next → state' ≡ state_after state
    → next' ≡ jump_from state' next → Walks hash next state' next'
unfolding candidate state_at
walks-more hash at state next state' next' w s n =
    let state_is : state' ≡ state_at hash (suc (suc w.step)) = s ∙ ap state_after w.state_is in
    record {
      step = suc w.step;
      at_is = w.next_is;
      state_is = state_is;
      next_is = n ∙ (λ i. jump_from (state_is i) (w.next_is i));
    }

pub walks-end : (hash count at state next : ℕ) → Walks hash at state next → at < count → count ≤ next → IsBucket hash count at
walks-end hash count at state next w below past =
    record { step = w.step; is = w.at_is; below = below; next = omega (arith, past, w.next_is) }

pub ruleset buckets = (walks-start, walks-more, walks-end, bucket-moves, jump-past, jump-even)
