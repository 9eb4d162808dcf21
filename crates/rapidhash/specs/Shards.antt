-- The shards of hashes, and their buckets.
use Rattle.std.specs.Prelude.{ℕ, zero, suc, ◌≡◌, ◌≤◌, ◌<◌, ◌+◌, ◌-◌, ◌*◌, ◌/◌, ◌%◌, ◌^◌, ◌↔◌}

-- the shard of a hash: the hashes below 2^64 are cut into `count` intervals
abbrev pub shard_of : ℕ → ℕ → ℕ
shard_of hash count = hash * count / 2 ^ 64

-- the first hash of a shard: shard * 2^64 / count, rounded up
abbrev pub first_hash_of : ℕ → ℕ → ℕ
first_hash_of shard count = (shard * 2 ^ 64 + (count - 1)) / count

-- the state after a state of a linear congruential generator
abbrev pub state_after : ℕ → ℕ
state_after state = (state * 2862933555777941757 + 1) % 2 ^ 64

-- the bucket to which the upper 31 bits of a state jump from another bucket
abbrev pub jump_from : ℕ → ℕ → ℕ
jump_from state bucket = (bucket + 1) * 2 ^ 31 / (state / 2 ^ 33 + 1)

-- the state after some steps
unfoldable pub state_at : ℕ → ℕ → ℕ
state_at hash zero = hash
state_at hash (suc step) = state_after (state_at hash step)

-- the candidates of a hash: they ascend from bucket 0, however many buckets there are
unfoldable pub candidate : ℕ → ℕ → ℕ
candidate hash zero = 0
candidate hash (suc step) = jump_from (state_at hash (suc step)) (candidate hash step)

-- the bucket among `count` is the greatest candidate below `count`
pub record IsBucket (hash count bucket : ℕ) : Type 0 where
  pub step : ℕ
  pub is : bucket ≡ candidate hash step
  pub below : bucket < count
  pub next : count ≤ candidate hash (suc step)

-- what a shard promises: it is the interval of hashes with this product, greater hashes have no lower shard, and a count that is multiplied splits it
pub record ShardLaws (hash count shard : ℕ) : Type 0 where
  pub interval : (i : ℕ) → shard ≡ i ↔ ((i * 2 ^ 64 ≤ hash * count) × (hash * count < (i + 1) * 2 ^ 64))
  pub ascends : (other : ℕ) → hash ≤ other → shard ≤ shard_of other count
  pub splits : (m : ℕ) → 0 < m → shard_of hash (m * count) / m ≡ shard

-- what the first hash of a shard promises: it and those after it have this shard or a later one, and the shard has 2^64 / count hashes, or one more
pub record FirstLaws (shard count first : ℕ) : Type 0 where
  pub owns : (hash : ℕ) → first ≤ hash ↔ shard ≤ shard_of hash count
  pub least : first + 2 ^ 64 / count ≤ first_hash_of (shard + 1) count
  pub most : first_hash_of (shard + 1) count ≤ first + 2 ^ 64 / count + 1
