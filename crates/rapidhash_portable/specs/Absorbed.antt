-- The words that a form reads from a message, in order, and the hash as a formula over them.
use Rattle.std.specs.Prelude.{ℕ, ◌+◌, ◌-◌, ◌/◌, List, [], ◌∷◌, ◌++◌, map, length, slice_index_or}
use Rattle.std.specs.List.{range_with_len}
use Rattle.rapidhash_portable.specs.declared.form.Form.{Form}
use Rattle.rapidhash_portable.specs.declared.form.Options.{Options}
use Rattle.rapidhash_portable.specs.Lanes.{pair_of, row_pairs, row_bytes}
use Rattle.rapidhash_portable.specs.Form.{shape_of}
use Rattle.rapidhash_portable.specs.Words.{last_words}
use Rattle.rapidhash_portable.specs.Hash.{value}

-- the number of folded pairs in `n` bytes: those of the rows, and those of the tail
abbrev pub pairs_in : Form → ℕ → ℕ
pairs_in form n = row_pairs (shape_of form n) + (n - row_bytes (shape_of form n) - 1) / 16

-- the words that a form reads, in pairs: those of the rows and the tail in the message's order, then the last two
unfoldable pub absorbed_words : Form → List ℕ → List (ℕ × ℕ)
absorbed_words form x = map (pair_of x) (range_with_len 0 (pairs_in form (length x))) ++ last_words form x ∷ []

-- the value of a length and absorbed words: the definition, with each pair from the list at its index
abbrev pub value_of_words : Form → Options → ℕ → List ℕ → ℕ → List (ℕ × ℕ) → ℕ
value_of_words form options seed secrets n words =
    value form options seed secrets n (λ k. slice_index_or words k (0, 0)) (slice_index_or words (length words - 1) (0, 0))
