-- The fingerprint of hashes.
use Rattle.std.specs.Prelude.{ℕ, ◌≡◌, ◌<◌, ◌+◌, ◌%◌, ◌^◌, List, IsPermutation, length, slice_index, slice_set, ◌++◌}
use Rattle.std.specs.List.{sum}

-- their sum, modulo 2^64
abbrev pub fingerprint_of : List ℕ → ℕ
fingerprint_of hashes = sum hashes % 2 ^ 64

-- what a fingerprint promises: it is the same in any order, the sum of those of its parts, and it shows each hash that is replaced
pub record FingerprintLaws (hashes : List ℕ) (fingerprint : ℕ) : Type 0 where
  pub in_any_order : (others : List ℕ) → IsPermutation hashes others → fingerprint_of others ≡ fingerprint
  pub appends : (others : List ℕ) → fingerprint_of (hashes ++ others) ≡ (fingerprint + fingerprint_of others) % 2 ^ 64
  pub replaces : (i other : ℕ) → i < length hashes →
      (fingerprint_of (slice_set hashes i other) + slice_index hashes i) % 2 ^ 64 ≡ (fingerprint + other) % 2 ^ 64
