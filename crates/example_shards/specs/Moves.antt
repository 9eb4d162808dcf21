-- The moves of hashes between buckets.
use Rattle.std.specs.Prelude.{ℕ, ◌≡◌, ◌≤◌, ◌⊎◌}
use Rattle.rapidhash.specs.Shards.{IsBucket}

-- the buckets of a hash before and after their number changes from `count` to `new`: if it moves, it goes to a new bucket, or leaves one that no longer exists
pub record BucketMoves (hash count new from to : ℕ) : Type 0 where
  pub before : IsBucket hash count from
  pub after : IsBucket hash new to
  pub grown : count ≤ new → (to ≡ from) ⊎ (count ≤ to)
  pub shrunk : new ≤ count → (from ≡ to) ⊎ (new ≤ from)
