-- Lanes that have folded a prefix of a message.
use Rattle.std.specs.Prelude.{◌≡◌, ◌≤◌, ◌<◌, ℕ, ◌+◌, ◌*◌, Bool, List, drop, length, replicate, slice_index}
use Rattle.rapidhash_portable.specs.declared.form.Shape.{Shape}
use Rattle.rapidhash_portable.specs.Lanes.{after_lanes, lane_of, pair_of, pairs_of, row_bytes}

-- each of the first `width` lanes has folded its own pairs of the first `rows` rows of `x`, from its start value; the other lanes have not changed
pub record HaveFolded (protected : Bool) (secrets x : List ℕ) (width : ℕ) (starts held : List ℕ) (rows : ℕ) : Type 0 where
  pub whole : length held ≡ length starts
  pub folded : (i : ℕ) → i < width →
      slice_index held i ≡ lane_of protected (slice_index secrets i) (pairs_of (pair_of x) 0 width rows i) (slice_index starts i)
  pub kept : (i : ℕ) → width ≤ i → slice_index held i ≡ slice_index starts i

-- the lanes have folded the first rows of `x`, and `rest` has the bytes after them, at least `least`
pub record PrefixIsFolded (protected : Bool) (secrets x : List ℕ) (width least : ℕ) (starts held rest : List ℕ) : Type 0 where
  pub rows : ℕ
  pub lanes : HaveFolded protected secrets x width starts held rows
  pub rest_is : rest ≡ drop (16 * (width * rows)) x
  pub left : 16 * (width * rows) + least ≤ length x

-- a stream's lanes and its count of folded chunks within a message, of which `rest` follows, with at least one byte
pub record Running (protected : Bool) (secrets x : List ℕ) (lanes seed : ℕ) (held : List ℕ) (steps : ℕ) (rest : List ℕ) : Type 0 where
  pub prefix : PrefixIsFolded protected secrets x lanes 1 (replicate 7 seed) held rest
  pub counted : steps ≡ prefix.rows

-- the seed after all rows of a shape, and the bytes after them
pub record AfterRows (protected : Bool) (secrets x : List ℕ) (shape : Shape) (start seed : ℕ) (tail : List ℕ) : Type 0 where
  pub joined : seed ≡ after_lanes protected secrets (pair_of x) shape start
  pub rest : tail ≡ drop (row_bytes shape) x
