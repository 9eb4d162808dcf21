-- Shapes, lanes and columns: each lane folds its own pairs, extracted from the whole message.
use Rattle.std.specs.Prelude.{◌≡◌, ◌≤◌, ℕ, ◌+◌, ◌-◌, ◌*◌, ◌/◌, ◌%◌, Bool, List, [], ◌++◌, map, fold, slice_index, bit_xor, nat_lt, if◌then◌else◌}
use Rattle.std.specs.List.{range_with_len}
use Rattle.rapidhash_portable.specs.declared.form.Shape.{Shape}
use Rattle.rapidhash_portable.specs.Bytes.{word64}
use Rattle.rapidhash_portable.specs.Multiply.{mix}

-- the number of rows of `width` pairs in `bytes` bytes, of which at least the last `kept` are in no row
abbrev pub rows_in : ℕ → ℕ → ℕ → ℕ
rows_in width kept bytes = (bytes - kept) / (16 * width)

-- no row: all bytes are tail
abbrev pub no_rows : ℕ → Shape
no_rows lanes = record { lanes = lanes; rows = 0; threes = 0 }

-- rows of a pair per lane
abbrev pub wide_shape : ℕ → ℕ → ℕ → Shape
wide_shape lanes kept n = record { lanes = lanes; rows = rows_in lanes kept n; threes = 0 }

-- the same, then rows of three pairs in the remaining bytes
abbrev pub mixed_shape : ℕ → ℕ → Shape
mixed_shape lanes n = record { lanes = lanes; rows = rows_in lanes 0 n; threes = n % (16 * lanes) / 48 }

-- the number of pairs, and of bytes, in the rows
abbrev pub row_pairs : Shape → ℕ
row_pairs shape = shape.lanes * shape.rows + 3 * shape.threes

abbrev pub row_bytes : Shape → ℕ
row_bytes shape = 16 * row_pairs shape

-- the two words at byte `at` of a message
abbrev pub pair_at : List ℕ → ℕ → ℕ × ℕ
pair_at x at = (word64 x at, word64 x (at + 8))

-- pair `k` of a message
abbrev pub pair_of : List ℕ → ℕ → ℕ × ℕ
pair_of x k = pair_at x (16 * k)

-- a step of a lane with its secret, on a pair
abbrev pub step : Bool → ℕ → ℕ → ℕ × ℕ → ℕ
step protected secret lane pair = mix protected (bit_xor pair.0 secret) (bit_xor pair.1 lane)

-- the pairs at index `place` of each row of `width` pairs, if the rows begin at pair `first`
unfoldable pub pairs_of : (ℕ → ℕ × ℕ) → ℕ → ℕ → ℕ → ℕ → List (ℕ × ℕ)
pairs_of pair first width rows place = map (λ row. pair (first + (width * row + place))) (range_with_len 0 rows)

-- the pairs of a lane, extracted from all pairs
unfoldable pub column : (ℕ → ℕ × ℕ) → Shape → ℕ → List (ℕ × ℕ)
column pair shape lane =
    pairs_of pair 0 shape.lanes shape.rows lane
    ++ (if nat_lt lane 3 then pairs_of pair (shape.lanes * shape.rows) 3 shape.threes lane else [])

-- a lane after its own pairs
unfoldable pub lane_of : Bool → ℕ → List (ℕ × ℕ) → ℕ → ℕ
lane_of protected secret pairs seed = fold (step protected secret) seed pairs

-- the XOR of all lanes
unfoldable pub joined : List ℕ → ℕ
joined lanes = fold bit_xor 0 lanes

-- the seed after all rows: every lane folds only its own column, and the lanes are joined
unfoldable pub after_lanes : Bool → List ℕ → (ℕ → ℕ × ℕ) → Shape → ℕ → ℕ
after_lanes protected secrets pair shape seed =
    joined (map (λ lane. lane_of protected (slice_index secrets lane) (column pair shape lane) seed) (range_with_len 0 shape.lanes))

-- the number of lanes for a message in pieces: 3, 5 or 7
pub record IsLaneCount (lanes : ℕ) : Type 0 where
  pub least : 3 ≤ lanes
  pub most : lanes ≤ 7
  pub odd : lanes % 2 ≡ 1
