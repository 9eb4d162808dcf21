-- The value of the in-memory core, put together from its rows, its tail and its close.
use Rattle.std.proofs.Common.{◌≡◌, ℕ, ◌≤◌, Bool, List, length, sym, arith}
use Rattle.std.proofs.lemmas.Bool.{le-ltb}
use Rattle.rapidhash_portable.specs.Folded.{AfterRows}
use Rattle.rapidhash_portable.specs.Lanes.{pair_of, row_pairs}
use Rattle.rapidhash_portable.specs.Tail.{after_tail, picked}
use Rattle.rapidhash_portable.specs.InMemory.{after_pairs, core_tail_places, core_longest_narrow, core_longest_rowless, core_shape}
use Rattle.rapidhash_portable.proofs.FoldedLemmas.{AfterRows-none}
use Rattle.rapidhash_portable.proofs.TailLemmas.{after_tail-rest, after_tail-short}

-- the seed of the in-memory core, piece by piece
pub after_pairs-is : (protected : Bool) (seed : ℕ) (secrets x rest : List ℕ) (joined all : ℕ)
    → AfterRows protected secrets x (core_shape (length x)) seed joined rest
    → all ≡ after_tail protected (picked secrets core_tail_places) (pair_of rest) 0 (length rest) joined
    → all ≡ after_pairs protected seed secrets x
unfolding after_pairs
after_pairs-is protected seed secrets x rest joined all rows g =
    cc (rows.joined, g, after_tail-rest protected (picked secrets core_tail_places) x rest (row_pairs (core_shape (length x))) joined rows.rest)

-- with no row the tail is the message, and the joined lanes are the seed
core_rows-none : (protected : Bool) (seed : ℕ) (secrets x : List ℕ) → length x ≤ core_longest_rowless
    → AfterRows protected secrets x (core_shape (length x)) seed seed x
unfolding core_shape
core_rows-none protected seed secrets x h =
    rw (le-ltb core_longest_narrow (length x) (omega arith), le-ltb core_longest_rowless (length x) h) (AfterRows-none protected secrets x 3 seed (omega arith))

-- up to 16 bytes no pair is folded
pub after_pairs-short : (protected : Bool) (seed : ℕ) (secrets x : List ℕ) → length x ≤ 16 → after_pairs protected seed secrets x ≡ seed
after_pairs-short protected seed secrets x h =
    let rows = core_rows-none protected seed secrets x (omega arith) in
    sym (after_pairs-is protected seed secrets x x seed seed rows (sym (after_tail-short protected (picked secrets core_tail_places) x seed h)))
