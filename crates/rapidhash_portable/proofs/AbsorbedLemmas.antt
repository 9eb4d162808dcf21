-- The absorbed words of a message: the hash looks at nothing else but its length, and nothing of the message is lost in them.
use Rattle.std.proofs.Common.{◌≡◌, ℕ, ◌+◌, ◌-◌, ◌*◌, ◌/◌, ◌≤◌, ◌<◌, Bool, List, [], ◌∷◌, ◌++◌, map, length, get_or, slice_index, take, refl, sym, ap, ◌∙◌, arith, length-append, ⊎_elim, zero-add, subst}
use Rattle.std.proofs.Math.Seq.{get_or-append_seam}
use Rattle.std.specs.List.{range_with_len}
use Rattle.std.proofs.lemmas.Bool.{cases_lt}
use Rattle.std.proofs.lemmas.Bool.Decides.{nat_tests}
use Rattle.std.proofs.lemmas.List.{length-take, get_or_append_left}
use Rattle.std.proofs.lemmas.List.FromFn.{length-map-range_with_len, get_or-map-range_with_len}
use Rattle.rapidhash_portable.specs.declared.form.Shape.{Shape}
use Rattle.rapidhash_portable.specs.declared.form.Form.{Form}
use Rattle.rapidhash_portable.specs.declared.form.Options.{Options}
use Rattle.rapidhash_portable.specs.Lanes.{pair_of, pairs_of, column, lane_of, joined, after_lanes, row_pairs, row_bytes, step}
use Rattle.rapidhash_portable.specs.Tail.{after_tail, fold_pairs, picked}
use Rattle.rapidhash_portable.specs.Form.{shape_of, start_seed, tail_seed, tail_places}
use Rattle.rapidhash_portable.specs.Hash.{value, portable_hash}
use Rattle.rapidhash_portable.specs.Words.{last_words}
use Rattle.rapidhash_portable.specs.Absorbed.{pairs_in, absorbed_words, value_of_words}
use Rattle.std.proofs.lemmas.Grind.{same_number_lists}
use Rattle.std.proofs.lemmas.Nat.{mul-add-lt}
use Rattle.rapidhash_portable.proofs.WordsLemmas.{SameBytes, last_words-long, last_words-short, same_last, same_short}
use Rattle.rapidhash_portable.proofs.LanesLemmas.{map-same}
use Rattle.rapidhash_portable.proofs.BytesLemmas.{same_in_pair}

-- two ways to read pairs agree on the first `n`
abbrev pub Agree : ℕ → (ℕ → ℕ × ℕ) → (ℕ → ℕ × ℕ) → Type 0
Agree n pair pair' = (k : ℕ) → k < n → pair k ≡ pair' k

-- so the pairs at one place of each row are the same
pairs_of-same : (pair pair' : ℕ → ℕ × ℕ) (first width rows place n : ℕ) → Agree n pair pair' → place < width → first + width * rows ≤ n
    → pairs_of pair first width rows place ≡ pairs_of pair' first width rows place
unfolding pairs_of
pairs_of-same pair pair' first width rows place n same p h =
    map-same (λ row. pair (first + (width * row + place))) (λ row. pair' (first + (width * row + place))) rows (0, 0)
    (λ row l. same (first + (width * row + place)) (omega (arith, h, mul-add-lt row width place rows l p)))

-- so does a lane's column
column-same : (pair pair' : ℕ → ℕ × ℕ) (shape : Shape) (lane n : ℕ) → Agree n pair pair' → lane < shape.lanes → row_pairs shape ≤ n
    → column pair shape lane ≡ column pair' shape lane
unfolding column
column-same pair pair' shape lane n same l h =
    let wide = pairs_of-same pair pair' 0 shape.lanes shape.rows lane n same l (omega arith) in
    let threes = pairs_of-same pair pair' (shape.lanes * shape.rows) 3 shape.threes lane n same in
    grind (arith, nat_tests, wide, threes)

-- so do the joined lanes
after_lanes-same : (protected : Bool) (secrets : List ℕ) (pair pair' : ℕ → ℕ × ℕ) (shape : Shape) (seed n : ℕ) → Agree n pair pair'
    → row_pairs shape ≤ n → after_lanes protected secrets pair shape seed ≡ after_lanes protected secrets pair' shape seed
unfolding after_lanes
after_lanes-same protected secrets pair pair' shape seed n same h =
    ap joined (map-same (λ lane. lane_of protected (slice_index secrets lane) (column pair shape lane) seed) _ shape.lanes 0
    (λ lane l. ap (λ c. lane_of protected (slice_index secrets lane) c seed) (column-same pair pair' shape lane n same l h)))

-- so do the folded pairs of a tail
fold_pairs-same : (protected : Bool) (cs : List ℕ) (pair pair' : ℕ → ℕ × ℕ) (at seed n : ℕ) → Agree n pair pair' → at + length cs ≤ n
    → fold_pairs protected cs pair at seed ≡ fold_pairs protected cs pair' at seed
unfolding fold_pairs
fold_pairs-same protected [] pair pair' at seed n same h = refl
fold_pairs-same protected (c ∷ cs) pair pair' at seed n same h =
    let size : length (c ∷ cs) ≡ length cs + 1 = omega arith in
    ap (λ p. fold_pairs protected cs pair (at + 1) (step protected c seed p)) (same at (omega arith))
    ∙ fold_pairs-same protected cs pair pair' (at + 1) (step protected c seed (pair' at)) n same (omega arith)

-- so does the seed after a tail
after_tail-same : (protected : Bool) (table : List ℕ) (pair pair' : ℕ → ℕ × ℕ) (first t seed n : ℕ) → Agree n pair pair'
    → first + (t - 1) / 16 ≤ n → after_tail protected table pair first t seed ≡ after_tail protected table pair' first t seed
unfolding after_tail
after_tail-same protected table pair pair' first t seed n same h =
    let size = length-take ((t - 1) / 16) table in
    fold_pairs-same protected (take ((t - 1) / 16) table) pair pair' first seed n same (omega (arith, size))

-- the value looks at no pairs but those that are folded
value-same : (form : Form) (options : Options) (seed : ℕ) (secrets : List ℕ) (n : ℕ) (pair pair' : ℕ → ℕ × ℕ) (words : ℕ × ℕ)
    → Agree (pairs_in form n) pair pair' → value form options seed secrets n pair words ≡ value form options seed secrets n pair' words
unfolding value
value-same form options seed secrets n pair pair' words same =
    let shape = shape_of form n in
    let t = n - row_bytes shape in
    let rows = after_lanes-same options.protected secrets pair pair' shape (start_seed form n seed) (pairs_in form n) same (omega arith) in
    let tail = after_tail-same options.protected (picked secrets (tail_places form n)) pair pair' (row_pairs shape) t (tail_seed form secrets t (after_lanes options.protected secrets pair' shape (start_seed form n seed))) (pairs_in form n) same (omega arith) in
    cc (rows, tail)

-- word pair `k` of the absorbed words
pub absorbed-pair : (form : Form) (x : List ℕ) (k : ℕ) → k < pairs_in form (length x) → get_or (absorbed_words form x) k (0, 0) ≡ pair_of x k
unfolding absorbed_words
absorbed-pair form x k h =
    let m = pairs_in form (length x) in
    let front = map (pair_of x) (range_with_len 0 m) in
    let size : length front ≡ m = length-map-range_with_len (pair_of x) 0 m in
    get_or_append_left front (last_words form x ∷ []) (0, 0) k (omega (arith, size)) ∙ get_or-map-range_with_len (pair_of x) 0 m k k (0, 0) h (zero-add k)

-- the last of a list that was added to
last_of : (xs : List (ℕ × ℕ)) (y d : ℕ × ℕ) → get_or (xs ++ y ∷ []) (length (xs ++ y ∷ []) - 1) d ≡ y
last_of xs y d =
    let e : length (xs ++ y ∷ []) - 1 ≡ length xs = omega (arith, length-append xs (y ∷ [])) in
    ap (λ k. get_or (xs ++ y ∷ []) k d) e ∙ get_or-append_seam xs y [] d

-- and the last one
pub absorbed-last : (form : Form) (x : List ℕ) → get_or (absorbed_words form x) (length (absorbed_words form x) - 1) (0, 0) ≡ last_words form x
unfolding absorbed_words
absorbed-last form x = last_of (map (pair_of x) (range_with_len 0 (pairs_in form (length x)))) (last_words form x) (0, 0)

-- a message's hash is the value of its length and its absorbed words
pub hash-absorbed : (form : Form) (options : Options) (seed : ℕ) (secrets x : List ℕ)
    → portable_hash form options seed secrets x ≡ value_of_words form options seed secrets (length x) (absorbed_words form x)
hash-absorbed form options seed secrets x =
    let words = absorbed_words form x in
    value-same form options seed secrets (length x) (pair_of x) (λ k. get_or words k (0, 0)) (last_words form x) (λ k h. sym (absorbed-pair form x k h))
    ∙ ap (value form options seed secrets (length x) (λ k. get_or words k (0, 0))) (sym (absorbed-last form x))

-- a byte in no pair that is folded is one of the last 16
behind_pairs : (n rows i : ℕ) → rows + (n - 16 * rows - 1) / 16 ≤ i / 16 → i < n → n - 16 ≤ i
behind_pairs n rows i h l = omega arith

-- two messages of bytes, of one length
module _ (x y : List ℕ) (x_bytes : (k : ℕ) → get_or x k 0 < 256) (y_bytes : (k : ℕ) → get_or y k 0 < 256) (size : length x ≡ length y) where
  -- equal absorbed words end in equal last words
  last-same : (form : Form) → absorbed_words form x ≡ absorbed_words form y → last_words form x ≡ last_words form y
  last-same form words = sym (absorbed-last form x) ∙ ap (λ ws. get_or ws (length ws - 1) (0, 0)) words ∙ absorbed-last form y

  -- above 16 bytes
  same_long : (form : Form) → 16 < length x → absorbed_words form x ≡ absorbed_words form y → SameBytes x y
  same_long form long words i h =
      let long' : 16 < length y = omega arith in
      let last = sym (last_words-long form x long) ∙ last-same form words ∙ last_words-long form y long' in
      ⊎_elim
      (λ l.
      let l' = subst (λ n. i / 16 < pairs_in form n) size l in
      let pair = sym (absorbed-pair form x (i / 16) l) ∙ ap (λ ws. get_or ws (i / 16) (0, 0)) words ∙ absorbed-pair form y (i / 16) l' in
      same_in_pair x y x_bytes y_bytes (16 * (i / 16)) (16 * (i / 16)) pair refl i (omega arith) (omega arith))
      (λ l. same_last x y x_bytes y_bytes size last i (behind_pairs (length x) (row_pairs (shape_of form (length x))) i l h) h long)
      (cases_lt (i / 16) (pairs_in form (length x)))

  -- the length and the absorbed words determine the message
  pub same_from_words : (form : Form) → absorbed_words form x ≡ absorbed_words form y → x ≡ y
  same_from_words form words =
      same_number_lists x y size (λ i h. ⊎_elim
      (λ long. same_long form long words i h)
      (λ short. same_short x y x_bytes y_bytes size form short (sym (last_words-short form x short) ∙ last-same form words ∙ last_words-short form y (omega arith)) i h)
      (cases_lt 16 (length x)))
