-- The laws of shards.
use Rattle.std.proofs.Common.{◌≡◌, ◌≤◌, ◌<◌, ℕ, ◌+◌, ◌-◌, ◌*◌, ◌/◌, ◌%◌, ◌^◌, ◌↔◌, ap, ◌∙◌, arith}
use Rattle.std.proofs.Math.Nat.{div-lt_iff_lt-mul, le-div_iff_mul-le, div-div-eq-div-mul, div-mul-le_self, lt-div-mul-add}
use Rattle.std.proofs.lemmas.Nat.{div-mul-add}
use Rattle.rapidhash.specs.Shards.{FirstLaws, ShardLaws, first_hash_of, shard_of}

-- a shard is below the count
pub shard-below : (hash count : ℕ) → hash < 2 ^ 64 → 0 < count → shard_of hash count < count
shard-below hash count fits some = (div-lt_iff_lt-mul (omega arith)).1 (grind (arith, fits, some))

-- greater hashes have no lower shard
ascends : (hash other count : ℕ) → hash ≤ other → shard_of hash count ≤ shard_of other count
ascends hash other count less = let products : hash * count ≤ other * count = grind (arith, less) in omega arith

-- the shard among m times as many is one of the m parts of the shard
splits : (hash count m : ℕ) → 0 < m → shard_of hash (m * count) / m ≡ shard_of hash count
splits hash count m some =
    let whole : ℕ = hash * count / 2 ^ 64 in
    let rest : ℕ = hash * count % 2 ^ 64 in
    let is : hash * count ≡ whole * 2 ^ 64 + rest = omega arith in
    let below : rest * m < 2 ^ 64 * m = grind (arith, some) in
    let product : hash * (m * count) ≡ whole * (2 ^ 64 * m) + rest * m = omega (arith, ap (λ n. n * m) is) in
    div-div-eq-div-mul (hash * (m * count)) (2 ^ 64) m
    ∙ ap (λ n. n / (2 ^ 64 * m)) product
    ∙ div-mul-add whole (2 ^ 64 * m) (rest * m) below

pub shard-laws : (hash count : ℕ) → ShardLaws hash count (shard_of hash count)
shard-laws hash count = record {
  interval = λ i. (λ is. (omega (arith, is), omega (arith, is)), λ within. omega (arith, within.0, within.1));
  ascends = λ other less. ascends hash other count less;
  splits = λ m some. splits hash count m some;
}

-- the first hash of a shard is a hash
pub first-fits : (shard count : ℕ) → shard < count → count ≤ 2 ^ 64 → first_hash_of shard count < 2 ^ 64
first-fits shard count below most =
    let n : ℕ = shard * 2 ^ 64 + (count - 1) in
    let less : n < 2 ^ 64 * count = omega (arith, below, most) in
    (div-lt_iff_lt-mul (omega (arith, below))).1 less

owns : (shard count hash : ℕ) → 0 < count → first_hash_of shard count ≤ hash ↔ shard ≤ shard_of hash count
owns shard count hash some =
    let n : ℕ = shard * 2 ^ 64 + (count - 1) in (
      λ (from : n / count ≤ hash).
          let less : n < (hash + 1) * count = (div-lt_iff_lt-mul some).0 (omega arith) in
          (le-div_iff_mul-le (omega arith)).1 (omega arith),
      λ (later : shard ≤ hash * count / 2 ^ 64).
          let product : n < (hash + 1) * count = omega arith in
          let less : n / count < hash + 1 = (div-lt_iff_lt-mul some).1 product in
          omega arith,
    )

least : (shard count : ℕ) → 0 < count → first_hash_of shard count + 2 ^ 64 / count ≤ first_hash_of (shard + 1) count
least shard count some =
    let first : ℕ = first_hash_of shard count in
    let share : ℕ = 2 ^ 64 / count in
    let a : first * count ≤ shard * 2 ^ 64 + (count - 1) = div-mul-le_self (shard * 2 ^ 64 + (count - 1)) count in
    let b : share * count ≤ 2 ^ 64 = div-mul-le_self (2 ^ 64) count in
    let both : (first + share) * count ≤ (shard + 1) * 2 ^ 64 + (count - 1) = omega arith in
    (le-div_iff_mul-le some).1 both

most : (shard count : ℕ) → 0 < count → first_hash_of (shard + 1) count ≤ first_hash_of shard count + 2 ^ 64 / count + 1
most shard count some =
    let first : ℕ = first_hash_of shard count in
    let share : ℕ = 2 ^ 64 / count in
    let a : shard * 2 ^ 64 + (count - 1) < first * count + count = lt-div-mul-add some in
    let b : 2 ^ 64 < share * count + count = lt-div-mul-add some in
    let both : (shard + 1) * 2 ^ 64 + (count - 1) < (first + share + 2) * count = omega arith in
    let less : ((shard + 1) * 2 ^ 64 + (count - 1)) / count < first + share + 2 = (div-lt_iff_lt-mul some).1 both in
    omega arith

pub first-laws : (shard count : ℕ) → 0 < count → FirstLaws shard count (first_hash_of shard count)
first-laws shard count some = record {
  owns = λ hash. owns shard count hash some;
  least = least shard count some;
  most = most shard count some;
}

pub ruleset shards = (shard-below, shard-laws, first-fits, first-laws)
