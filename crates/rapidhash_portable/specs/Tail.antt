-- The tail: the pairs after the rows, folded into the seed in order.
use Rattle.std.specs.Prelude.{ℕ, ◌+◌, ◌-◌, ◌/◌, Bool, List, [], ◌∷◌, take, map, slice_index}
use Rattle.rapidhash_portable.specs.Lanes.{step}

-- the seed after the pairs from pair `at` on, one pair per secret
unfoldable pub fold_pairs : Bool → List ℕ → (ℕ → ℕ × ℕ) → ℕ → ℕ → ℕ
fold_pairs protected [] pair at seed = seed
fold_pairs protected (c ∷ cs) pair at seed = fold_pairs protected cs pair (at + 1) (step protected c seed (pair at))

-- the seed after the pairs of a tail of `t` bytes that begins at pair `first`: its last 1 to 16 bytes are no pair, and pair j is mixed with secret j of a table
unfoldable pub after_tail : Bool → List ℕ → (ℕ → ℕ × ℕ) → ℕ → ℕ → ℕ → ℕ
after_tail protected table pair first t seed = fold_pairs protected (take ((t - 1) / 16) table) pair first seed

-- the secrets at some indices
abbrev pub picked : List ℕ → List ℕ → List ℕ
picked secrets places = map (slice_index secrets) places
