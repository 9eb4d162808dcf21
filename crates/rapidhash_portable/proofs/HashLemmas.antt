-- The portable hash, put together from its rows, its tail and its close.
use Rattle.std.proofs.Common.{◌≡◌, ℕ, ◌-◌, ◌%◌, ◌≤◌, ◌<◌, List, length, get_or, bit_xor, refl, ap, ◌∙◌, length-drop}
use Rattle.rapidhash_portable.specs.Lanes.{no_rows, pair_of, row_bytes, row_pairs}
use Rattle.rapidhash_portable.specs.Tail.{after_tail, picked}
use Rattle.rapidhash_portable.specs.declared.form.Form.{Form}
use Rattle.rapidhash_portable.specs.Folded.{AfterRows}
use Rattle.rapidhash_portable.specs.Form.{shape_of, start_seed, tail_seed, tail_places, masks}
use Rattle.rapidhash_portable.specs.Words.{last_16, last_words, mixed_words, short_words}
use Rattle.rapidhash_portable.specs.declared.form.Options.{Options}
use Rattle.rapidhash_portable.specs.Hash.{close, value, portable_hash}
use Rattle.rapidhash_portable.proofs.FormLemmas.{lanes_of, rows-none, shape_of-short, tail_seed-short}
use Rattle.rapidhash_portable.proofs.MultiplyLemmas.{xor-moved}
use Rattle.rapidhash_portable.proofs.TailLemmas.{after_tail-rest, after_tail-short}
use Rattle.rapidhash_portable.proofs.WordsLemmas.{last_words-long, last_words-short, mixed_words-short}

-- a hash, from its rows
pub hash-is : (form : Form) (options : Options) (seed : ℕ) (secrets x rest : List ℕ) (joined : ℕ)
    → AfterRows options.protected secrets x (shape_of form (length x)) (start_seed form (length x) seed) joined rest
    → portable_hash form options seed secrets x
    ≡ close options (mixed_words form (length x) (length rest) (last_words form x))
    (after_tail options.protected (picked secrets (tail_places form (length x))) (pair_of rest) 0 (length rest) (tail_seed form secrets (length rest) joined))
    (get_or secrets 1 0) (masks form secrets (length x) (length rest))
unfolding value
hash-is form options seed secrets x rest joined rows =
    let shape = shape_of form (length x) in
    let t : length rest ≡ length x - row_bytes shape = ap length rows.rest ∙ length-drop (row_bytes shape) x in
    let moved = after_tail-rest options.protected (picked secrets (tail_places form (length x))) x rest (row_pairs shape) (tail_seed form secrets (length rest) joined) rows.rest in
    cc (rows.joined, moved, t)

-- that of at most 16 bytes
pub hash-short : (form : Form) (options : Options) (seed : ℕ) (secrets x : List ℕ) → lanes_of form % 2 ≡ 1 → length x ≤ 16
    → portable_hash form options seed secrets x
    ≡ close options (short_words form x) (start_seed form (length x) seed) (get_or secrets 1 0) (masks form secrets (length x) (length x))
unfolding value
hash-short form options seed secrets x odd short =
    let start = start_seed form (length x) seed in
    cc (
      hash-is form options seed secrets x x start (rows-none form (lanes_of form) (length x) options.protected secrets x start odd (shape_of-short form (length x) odd short)),
      after_tail-short options.protected (picked secrets (tail_places form (length x))) x (tail_seed form secrets (length x) start) short,
      tail_seed-short form secrets (length x) start short,
      mixed_words-short form (length x) (length x) (last_words form x) short,
      last_words-short form x short,
    )

-- that of more than 16 bytes without a row
pub hash-rowless : (form : Form) (options : Options) (seed : ℕ) (secrets x : List ℕ) → lanes_of form % 2 ≡ 1 → 16 < length x
    → shape_of form (length x) ≡ no_rows (lanes_of form)
    → portable_hash form options seed secrets x
    ≡ close options (mixed_words form (length x) (length x) (last_16 x))
    (after_tail options.protected (picked secrets (tail_places form (length x))) (pair_of x) 0 (length x) (tail_seed form secrets (length x) (start_seed form (length x) seed)))
    (get_or secrets 1 0) (masks form secrets (length x) (length x))
hash-rowless form options seed secrets x odd long none =
    let start = start_seed form (length x) seed in
    cc (
      hash-is form options seed secrets x x start (rows-none form (lanes_of form) (length x) options.protected secrets x start odd none),
      last_words-long form x long,
    )

-- a number that is mixed into the first word may be mixed into its secret instead
pub close-moved : (options : Options) (words : ℕ × ℕ) (t seed secret : ℕ) (masks : ℕ × ℕ)
    → close options (bit_xor words.0 t, words.1) seed secret masks ≡ close options words seed (bit_xor secret t) masks
unfolding close
close-moved options words t seed secret masks = rw (xor-moved words.0 t secret) refl
