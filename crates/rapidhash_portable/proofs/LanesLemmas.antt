-- Pairs, columns and lanes: of a part of a message, with more rows, joined.
use Rattle.std.proofs.Common.{◌≡◌, ℕ, zero, suc, ◌+◌, ◌-◌, ◌*◌, ◌/◌, ◌%◌, ◌≤◌, ◌<◌, Bool, true, false, cond, ltb, List, [], ◌∷◌, ◌++◌, map, fold, length, get_or, drop, replicate, bit_xor, refl, sym, ap, ◌∙◌, arith, add_assoc, append_assoc, zero-add}
use Rattle.std.specs.List.{range_with_len}
use Rattle.std.specs.Int.Bits.{xor_self}
use Rattle.std.proofs.lemmas.Bool.{lt-ltb, le-ltb}
use Rattle.std.proofs.lemmas.List.{append-nil, get_or-replicate, length-replicate}
use Rattle.std.proofs.lemmas.List.FromFn.{map-range_with_len_more, fill_by_all, length-map-range_with_len, get_or-map-range_with_len}
use Rattle.std.proofs.lemmas.List.Sums.{fold-append}
use Rattle.std.proofs.lemmas.Nat.{div-mul-add, mul-add-lt}
use Rattle.rapidhash_portable.specs.declared.form.Shape.{Shape}
use Rattle.rapidhash_portable.specs.Lanes.{pair_of, pair_at, step, pairs_of, column, lane_of, joined, after_lanes, rows_in, no_rows}
use Rattle.rapidhash_portable.proofs.BytesLemmas.{word64-drop, word64-append}

-- ---- pairs

-- a pair of the rest of a message
pub pair_at-drop : (x : List ℕ) (n at : ℕ) → pair_at (drop n x) at ≡ pair_at x (n + at)
pair_at-drop x n at = simp (word64-drop, add_assoc)

-- a pair within the first part of a message
pub pair_at-append : (x y : List ℕ) (at : ℕ) → at + 16 ≤ length x → pair_at (x ++ y) at ≡ pair_at x at
pair_at-append x y at h = cc (word64-append x y at (omega arith), word64-append x y (at + 8) (omega arith))

-- functions that agree below `n` yield the same list
pub map-same : {X : Type 0} (f g : ℕ → X) (n : ℕ) (d : X) → ((i : ℕ) → i < n → f i ≡ g i) → map f (range_with_len 0 n) ≡ map g (range_with_len 0 n)
map-same f g n d same =
    fill_by_all g (map f (range_with_len 0 n)) n d (length-map-range_with_len f 0 n)
    (λ i l. get_or-map-range_with_len f 0 n i i d l (zero-add i) ∙ same i l)

-- the rows of the rest of a message are the message's own
pub pairs_of-drop : (x : List ℕ) (first width rows place : ℕ) →
    pairs_of (pair_of (drop (16 * first) x)) 0 width rows place ≡ pairs_of (pair_of x) first width rows place
unfolding pairs_of
pairs_of-drop x first width rows place =
    map-same _ _ rows (0, 0) (λ row _.
    let e : 16 * first + 16 * (0 + (width * row + place)) ≡ 16 * (first + (width * row + place)) = omega arith in
    pair_at-drop x (16 * first) (16 * (0 + (width * row + place))) ∙ ap (pair_at x) e)

-- the rows of the first part of a message are the whole message's first rows
pub pairs_of-append : (x y : List ℕ) (width rows place : ℕ) → place < width → 16 * (width * rows) ≤ length x →
    pairs_of (pair_of (x ++ y)) 0 width rows place ≡ pairs_of (pair_of x) 0 width rows place
unfolding pairs_of
pairs_of-append x y width rows place p h =
    map-same _ _ rows (0, 0) (λ row l. pair_at-append x y (16 * (0 + (width * row + place))) (omega (arith, h, mul-add-lt row width place rows l p)))

-- the rows of a message are its first rows and then the others
pub pairs_of-split : (x : List ℕ) (width rows more place : ℕ) →
    pairs_of (pair_of x) 0 width (rows + more) place
    ≡ pairs_of (pair_of x) 0 width rows place ++ pairs_of (pair_of x) (width * rows) width more place
unfolding pairs_of
pairs_of-split x width rows zero place =
    let e : rows + 0 ≡ rows = omega arith in
    let f = λ (row : ℕ). pair_at x (16 * (0 + (width * row + place))) in
    ap (λ n. map f (range_with_len 0 n)) e ∙ sym (append-nil _)
pairs_of-split x width rows (suc more) place =
    let f = λ (row : ℕ). pair_at x (16 * (0 + (width * row + place))) in
    let g = λ (row : ℕ). pair_at x (16 * (width * rows + (width * row + place))) in
    let e : rows + suc more ≡ rows + more + 1 = omega arith in
    let e' : more + 1 ≡ suc more = omega arith in
    let at : 16 * (0 + (width * (rows + more) + place)) ≡ 16 * (width * rows + (width * more + place)) = omega arith in
    ap (λ n. map f (range_with_len 0 n)) e
    ∙ map-range_with_len_more f 0 (rows + more) (rows + more) (omega arith)
    ∙ ap (λ ps. ps ++ f (rows + more) ∷ []) (pairs_of-split x width rows more place)
    ∙ ap (λ v. (map f (range_with_len 0 rows) ++ map g (range_with_len 0 more)) ++ pair_at x v ∷ []) at
    ∙ append_assoc (map f (range_with_len 0 rows)) (map g (range_with_len 0 more)) (g more ∷ [])
    ∙ ap (λ ps. map f (range_with_len 0 rows) ++ ps) (sym (map-range_with_len_more g 0 more more (omega arith)))
    ∙ ap (λ n. map f (range_with_len 0 rows) ++ map g (range_with_len 0 n)) e'

-- ---- one lane

-- a lane over two lists of pairs
pub lane_of-append : (protected : Bool) (secret : ℕ) (xs ys : List (ℕ × ℕ)) (seed : ℕ) →
    lane_of protected secret (xs ++ ys) seed ≡ lane_of protected secret ys (lane_of protected secret xs seed)
unfolding lane_of
lane_of-append protected secret xs ys seed = fold-append (step protected secret) seed xs ys

-- ---- columns

-- a choice between two equal values
pub cond_same : {X : Type 0} (b : Bool) (x : X) → cond b x x ≡ x
cond_same true x = refl
cond_same false x = refl

-- a column with no rows of three
pub column-wide : (x : List ℕ) (lanes rows lane : ℕ) →
    column (pair_of x) (record { lanes = lanes; rows = rows; threes = 0 }) lane ≡ pairs_of (pair_of x) 0 lanes rows lane
unfolding column pairs_of
column-wide x lanes rows lane =
    ap (λ t. pairs_of (pair_of x) 0 lanes rows lane ++ t) (cond_same (ltb lane 3) []) ∙ append-nil _

-- a column that goes on with rows of three
pub column-three : (x : List ℕ) (lanes rows threes lane : ℕ) → lane < 3 →
    column (pair_of x) (record { lanes = lanes; rows = rows; threes = threes }) lane
    ≡ pairs_of (pair_of x) 0 lanes rows lane ++ pairs_of (pair_of x) (lanes * rows) 3 threes lane
unfolding column
column-three x lanes rows threes lane h = rw (lt-ltb lane 3 h) refl

-- and one that does not
pub column-rest : (x : List ℕ) (lanes rows threes lane : ℕ) → 3 ≤ lane →
    column (pair_of x) (record { lanes = lanes; rows = rows; threes = threes }) lane ≡ pairs_of (pair_of x) 0 lanes rows lane
unfolding column
column-rest x lanes rows threes lane h = rw (le-ltb lane 3 h) (append-nil _)

-- ---- rows

-- how many rows there are, where less than a row and `least` bytes are left
pub rows_are : (width least rows left n : ℕ) → 16 * (width * rows) + left ≡ n → least ≤ left → left < 16 * width + least →
    rows_in width least n ≡ rows
rows_are width least rows left n e some few =
    let split : n - least ≡ rows * (16 * width) + (left - least) = omega arith in
    ap (λ k. k / (16 * width)) split ∙ div-mul-add rows (16 * width) (left - least) (omega arith)

-- ---- all lanes joined

-- the joined lanes, where each is known
pub joined-lanes : (protected : Bool) (secrets x : List ℕ) (shape : Shape) (seed : ℕ) (held : List ℕ) → length held ≡ shape.lanes →
    ((i : ℕ) → i < shape.lanes → get_or held i 0 ≡ lane_of protected (get_or secrets i 0) (column (pair_of x) shape i) seed) →
    joined held ≡ after_lanes protected secrets (pair_of x) shape seed
unfolding after_lanes
joined-lanes protected secrets x shape seed held size each =
    ap joined (fill_by_all (λ (i : ℕ). lane_of protected (get_or secrets i 0) (column (pair_of x) shape i) seed) held shape.lanes 0 size each)

-- an even number of lanes that all hold one number
joined-even : (half seed : ℕ) → fold bit_xor seed (replicate (half * 2) seed) ≡ seed
joined-even zero seed = refl
joined-even (suc half) seed =
    let two : suc half * 2 ≡ suc (suc (half * 2)) = omega arith in
    ap (λ k. fold bit_xor seed (replicate k seed)) two
    ∙ ap (λ v. fold bit_xor (bit_xor v seed) (replicate (half * 2) seed)) (xor_self seed)
    ∙ joined-even half seed

-- an odd number of them
joined-replicate : (lanes seed : ℕ) → lanes % 2 ≡ 1 → joined (replicate lanes seed) ≡ seed
unfolding joined
joined-replicate lanes seed odd =
    let e : lanes ≡ suc (lanes / 2 * 2) = omega arith in
    ap (λ k. fold bit_xor 0 (replicate k seed)) e ∙ joined-even (lanes / 2) seed

-- no row at all
pub after_lanes-none : (protected : Bool) (secrets x : List ℕ) (lanes seed : ℕ) → lanes % 2 ≡ 1 →
    seed ≡ after_lanes protected secrets (pair_of x) (no_rows lanes) seed
unfolding lane_of pairs_of
after_lanes-none protected secrets x lanes seed odd =
    sym (joined-replicate lanes seed odd)
    ∙ joined-lanes protected secrets x (no_rows lanes) seed (replicate lanes seed) (length-replicate lanes seed)
    (λ i l. get_or-replicate lanes i seed 0 l
    ∙ ap (λ c. lane_of protected (get_or secrets i 0) c seed) (sym (column-wide x lanes 0 i)))
