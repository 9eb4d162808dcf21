-- The value of the in-memory core: the lanes and the tail of the portable hashes, with its own shape and close.
use Rattle.std.specs.Prelude.{ℕ, ◌+◌, ◌%◌, ◌^◌, Bool, List, [], ◌∷◌, length, ◌-◌, slice_index, bit_xor, if◌then◌else◌, nat_lt}
use Rattle.rapidhash_portable.specs.declared.form.Shape.{Shape}
use Rattle.rapidhash_portable.specs.declared.form.Options.{Options}
use Rattle.rapidhash_portable.specs.declared.form.Form.TheVariants.{V3}
use Rattle.rapidhash_portable.specs.Lanes.{no_rows, row_bytes, row_pairs, pair_of, wide_shape, mixed_shape, after_lanes}
use Rattle.rapidhash_portable.specs.Tail.{after_tail, picked}
use Rattle.rapidhash_portable.specs.Form.{alternating_bits}
use Rattle.rapidhash_portable.specs.Words.{last_words}
use Rattle.rapidhash_portable.specs.Hash.{close}

-- the length of the longest message without a row in the core, and of the longest with rows of three alone: the limits of the Rust crate's hasher
abbrev pub core_longest_rowless : ℕ
core_longest_rowless = 48

abbrev pub core_longest_narrow : ℕ
core_longest_narrow = 400

-- the rows and the tail of a message of `n` bytes in the core: above the second limit, rows of seven and then of three
unfoldable pub core_shape : ℕ → Shape
core_shape n =
    if nat_lt core_longest_narrow n then mixed_shape 7 n else
    if nat_lt core_longest_rowless n then wide_shape 3 0 n else
    no_rows 3

-- the indices of the secrets for the pairs of the core's tail
abbrev pub core_tail_places : List ℕ
core_tail_places = 0 ∷ 0 ∷ []

-- the seed after all pairs: every lane starts from the seed itself
unfoldable pub after_pairs : Bool → ℕ → List ℕ → List ℕ → ℕ
after_pairs protected seed secrets x =
    let shape = core_shape (length x) in
    after_tail protected (picked secrets core_tail_places) (pair_of x) (row_pairs shape) (length x - row_bytes shape)
    (after_lanes protected secrets (pair_of x) shape seed)

-- the value: the length is added to the seed, and the last words are those of V3, without the tail's length
unfoldable pub core_hash : Options → List ℕ → ℕ → List ℕ → ℕ
core_hash options x seed secrets =
    let sum = (after_pairs options.protected seed secrets x + length x) % 2 ^ 64 in
    close options (last_words (V3 7) x) sum (slice_index secrets 0) (bit_xor alternating_bits sum, slice_index secrets 1)
