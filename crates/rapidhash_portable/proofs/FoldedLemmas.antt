-- Lanes that have folded a prefix of a message: nothing yet, more rows, more bytes behind, and all rows joined.
use Rattle.std.proofs.Common.{◌≡◌, ℕ, ◌+◌, ◌*◌, ◌/◌, ◌%◌, ◌≤◌, ◌<◌, Bool, List, ◌++◌, length, get_or, take, drop, replicate, refl, sym, ap, ◌∙◌, arith, ⊎_elim, length-append, length-drop}
use Rattle.std.proofs.lemmas.Bool.{cases_lt}
use Rattle.std.proofs.lemmas.List.{drop-append-le, drop-drop, get_or-replicate, get_or-take, length-replicate, length-take-le, take-append-drop}
use Rattle.rapidhash_portable.specs.declared.form.Shape.{Shape}
use Rattle.rapidhash_portable.specs.Folded.{AfterRows, HaveFolded, PrefixIsFolded}
use Rattle.rapidhash_portable.specs.Lanes.{joined, lane_of, mixed_shape, no_rows, pair_of, pairs_of, rows_in, wide_shape}
use Rattle.rapidhash_portable.proofs.LanesLemmas.{after_lanes-none, column-rest, column-three, column-wide, joined-lanes, lane_of-append, pairs_of-append, pairs_of-drop, pairs_of-split, rows_are}

-- ---- lanes

-- before the first row
pub HaveFolded-none : {protected : Bool} {secrets x : List ℕ} {width : ℕ} {starts : List ℕ} → HaveFolded protected secrets x width starts starts 0
unfolding lane_of pairs_of
HaveFolded-none = record { whole = refl; folded = λ _ _. refl; kept = λ _ _. refl }

-- further rows
pub HaveFolded-more : {protected : Bool} {secrets x : List ℕ} {width : ℕ} {starts held : List ℕ} {rows : ℕ} →
    HaveFolded protected secrets x width starts held rows → {rest held' : List ℕ} {more : ℕ} (n : ℕ) → n ≡ 16 * (width * rows) → rest ≡ drop n x →
    HaveFolded protected secrets rest width held held' more → HaveFolded protected secrets x width starts held' (rows + more)
HaveFolded-more {protected} {secrets} {x} {width} {starts} {held} {rows} f {rest} {held'} {more} n size rest_is g = record {
  whole = g.whole ∙ f.whole;
  folded = λ i l.
      let secret = get_or secrets i 0 in
      let first = pairs_of (pair_of x) 0 width rows i in
      let second = pairs_of (pair_of x) (width * rows) width more i in
      g.folded i l
      ∙ ap (λ r. lane_of protected secret (pairs_of (pair_of r) 0 width more i) (get_or held i 0)) (rest_is ∙ ap (λ k. drop k x) size)
      ∙ ap (λ ps. lane_of protected secret ps (get_or held i 0)) (pairs_of-drop x (width * rows) width more i)
      ∙ ap (lane_of protected secret second) (f.folded i l)
      ∙ sym (lane_of-append protected secret first second (get_or starts i 0))
      ∙ ap (λ ps. lane_of protected secret ps (get_or starts i 0)) (sym (pairs_of-split x width rows more i));
  kept = λ i l. g.kept i l ∙ f.kept i l;
}

-- bytes behind the rows change nothing
pub HaveFolded-append : {protected : Bool} {secrets x : List ℕ} {width : ℕ} {starts held : List ℕ} {rows : ℕ} →
    HaveFolded protected secrets x width starts held rows → (y : List ℕ) → 16 * (width * rows) ≤ length x →
    HaveFolded protected secrets (x ++ y) width starts held rows
HaveFolded-append {protected} {secrets} {x} {width} {starts} {held} {rows} f y low = record {
  whole = f.whole;
  folded = λ i l.
      f.folded i l ∙ ap (λ ps. lane_of protected (get_or secrets i 0) ps (get_or starts i 0)) (sym (pairs_of-append x y width rows i l low));
  kept = f.kept;
}

-- the rows of a message's first bytes are its own
pub HaveFolded-take : {protected : Bool} {secrets : List ℕ} {width : ℕ} {starts held : List ℕ} {rows : ℕ} (n : ℕ) (x : List ℕ) →
    HaveFolded protected secrets (take n x) width starts held rows → n ≤ length x → 16 * (width * rows) ≤ n →
    HaveFolded protected secrets x width starts held rows
HaveFolded-take {protected} {secrets} {width} {starts} {held} {rows} n x f fits low =
    rw take-append-drop at (HaveFolded-append f (drop n x) (omega (arith, length-take-le n x fits)))

-- ---- a prefix

-- no row yet
pub PrefixIsFolded-none : {protected : Bool} {secrets x : List ℕ} {width least : ℕ} {starts : List ℕ} → least ≤ length x →
    PrefixIsFolded protected secrets x width least starts starts x
PrefixIsFolded-none {x = x} {width = width} h = record {
  rows = 0;
  lanes = HaveFolded-none;
  rest_is = let z : 16 * (width * 0) ≡ 0 = omega arith in rw z refl;
  left = omega arith;
}

-- how much is left
pub PrefixIsFolded-left : {protected : Bool} {secrets x : List ℕ} {width least : ℕ} {starts held rest : List ℕ}
    (f : PrefixIsFolded protected secrets x width least starts held rest) → 16 * (width * f.rows) + length rest ≡ length x
PrefixIsFolded-left {x = x} f = omega (arith, ap length f.rest_is, length-drop {A = ℕ})

-- further rows, of `n` bytes
unfoldable pub PrefixIsFolded-more : {protected : Bool} {secrets x : List ℕ} {width least : ℕ} {starts held rest : List ℕ}
    (f : PrefixIsFolded protected secrets x width least starts held rest) (held' rest' : List ℕ) (more n : ℕ) →
    HaveFolded protected secrets rest width held held' more → n ≡ 16 * (width * more) → n + least ≤ length rest →
    rest' ≡ drop n rest → PrefixIsFolded protected secrets x width least starts held' rest'
PrefixIsFolded-more {x = x} {width = width} f held' rest' more n g size room next =
    let left = PrefixIsFolded-left f in
    let at : 16 * (width * f.rows) + n ≡ 16 * (width * (f.rows + more)) = omega arith in
    record {
      rows = f.rows + more;
      lanes = HaveFolded-more f.lanes _ refl f.rest_is g;
      rest_is = next ∙ ap (drop n) f.rest_is ∙ drop-drop n (16 * (width * f.rows)) x ∙ ap (λ k. drop k x) at;
      left = omega arith;
    }

-- more bytes behind it
pub PrefixIsFolded-append : {protected : Bool} {secrets x : List ℕ} {width least : ℕ} {starts held rest : List ℕ} →
    PrefixIsFolded protected secrets x width least starts held rest → (y : List ℕ) →
    PrefixIsFolded protected secrets (x ++ y) width least starts held (rest ++ y)
PrefixIsFolded-append {x = x} {width = width} f y = record {
  rows = f.rows;
  lanes = HaveFolded-append f.lanes y (omega arith);
  rest_is = ap (λ r. r ++ y) f.rest_is ∙ sym (drop-append-le (16 * (width * f.rows)) x y (omega arith));
  left = omega (arith, length-append x y);
}

-- after the last row
pub PrefixIsFolded-all : {protected : Bool} {secrets x : List ℕ} {width least : ℕ} {starts held rest : List ℕ}
    (f : PrefixIsFolded protected secrets x width least starts held rest) → length rest < 16 * width + least →
    rows_in width least (length x) ≡ f.rows
PrefixIsFolded-all {x = x} {width = width} {least = least} {rest = rest} f few =
    let left = PrefixIsFolded-left f in
    rows_are width least f.rows (length rest) (length x) left (omega arith) few

-- ---- all rows joined

-- the value of a lane that started from the seed after its rows
lane_from_seed : {protected : Bool} {secrets x : List ℕ} {width : ℕ} {held : List ℕ} {rows : ℕ} (n seed : ℕ) →
    HaveFolded protected secrets x width (replicate n seed) held rows → width ≤ n → (i : ℕ) → i < width →
    get_or held i 0 ≡ lane_of protected (get_or secrets i 0) (pairs_of (pair_of x) 0 width rows i) seed
lane_from_seed {protected} {secrets} {x} {width} {held} {rows} n seed f fits i l =
    f.folded i l ∙ ap (lane_of protected (get_or secrets i 0) (pairs_of (pair_of x) 0 width rows i)) (get_or-replicate n i seed 0 (omega arith))

-- no row: the tail is the message, and the joined lanes are the seed
pub AfterRows-none : (protected : Bool) (secrets x : List ℕ) (lanes seed : ℕ) → lanes % 2 ≡ 1 → AfterRows protected secrets x (no_rows lanes) seed seed x
AfterRows-none protected secrets x lanes seed odd = record {
  joined = after_lanes-none protected secrets x lanes seed odd;
  rest = let z : 16 * (lanes * 0 + 3 * 0) ≡ 0 = omega arith in rw z refl;
}

-- rows of as many pairs as there are lanes
pub AfterRows-wide : {protected : Bool} {secrets x : List ℕ} {lanes least : ℕ} {held rest : List ℕ} (n seed all : ℕ) →
    PrefixIsFolded protected secrets x lanes least (replicate n seed) held rest → lanes ≤ n → length rest < 16 * lanes + least →
    all ≡ joined (take lanes held) → AfterRows protected secrets x (wide_shape lanes least (length x)) seed all rest
AfterRows-wide {protected} {secrets} {x} {lanes} {least} {held} {rest} n seed all f fits few is =
    let rows = PrefixIsFolded-all f few in
    let size : length held ≡ n = f.lanes.whole ∙ length-replicate n seed in
    let shape : Shape = record { lanes = lanes; rows = f.rows; threes = 0 } in
    let at : 16 * (lanes * f.rows) ≡ 16 * (lanes * f.rows + 3 * 0) = omega arith in
    let lanes_are = joined-lanes protected secrets x shape seed (take lanes held) (length-take-le lanes held (omega arith))
    (λ i l. get_or-take lanes held i 0 l ∙ lane_from_seed n seed f.lanes fits i l
    ∙ ap (λ c. lane_of protected (get_or secrets i 0) c seed) (sym (column-wide x lanes f.rows i))) in
    record {
      joined = rw rows (is ∙ lanes_are);
      rest = rw rows (f.rest_is ∙ ap (λ k. drop k x) at);
    }

-- the number of rows of three behind the rows of seven
threes_are : (n rows left threes rest : ℕ) → 112 * rows + left ≡ n → left < 112 → 48 * threes + rest ≡ left → rest < 48 → n % 112 / 48 ≡ threes
threes_are n rows left threes rest e few e' few' = omega arith

-- rows of seven pairs, and then of three
pub AfterRows-mixed : {protected : Bool} {secrets x : List ℕ} {first wide held rest : List ℕ} (seed all : ℕ) →
    PrefixIsFolded protected secrets x 7 0 (replicate 7 seed) first wide → length wide < 112 →
    PrefixIsFolded protected secrets wide 3 0 first held rest → length rest < 48 →
    all ≡ joined (take 7 held) → AfterRows protected secrets x (mixed_shape 7 (length x)) seed all rest
AfterRows-mixed {protected} {secrets} {x} {first} {wide} {held} {rest} seed all f few g few' is =
    let rows = PrefixIsFolded-all f few in
    let left = PrefixIsFolded-left f in
    let left' = PrefixIsFolded-left g in
    let threes = threes_are (length x) f.rows (length wide) g.rows (length rest) (omega arith) few (omega arith) few' in
    let shape : Shape = record { lanes = 7; rows = f.rows; threes = g.rows } in
    let size : length held ≡ 7 = g.lanes.whole ∙ f.lanes.whole ∙ length-replicate 7 seed in
    let goes_on = λ (i : ℕ) (l : i < 7) (three : i < 3).
    g.lanes.folded i three
    ∙ ap (lane_of protected (get_or secrets i 0) (pairs_of (pair_of wide) 0 3 g.rows i)) (lane_from_seed 7 seed f.lanes (omega arith) i l)
    ∙ ap (λ r. lane_of protected (get_or secrets i 0) (pairs_of (pair_of r) 0 3 g.rows i) (lane_of protected (get_or secrets i 0) (pairs_of (pair_of x) 0 7 f.rows i) seed)) f.rest_is
    ∙ ap (λ ps. lane_of protected (get_or secrets i 0) ps (lane_of protected (get_or secrets i 0) (pairs_of (pair_of x) 0 7 f.rows i) seed)) (pairs_of-drop x (7 * f.rows) 3 g.rows i)
    ∙ sym (lane_of-append protected (get_or secrets i 0) (pairs_of (pair_of x) 0 7 f.rows i) (pairs_of (pair_of x) (7 * f.rows) 3 g.rows i) seed)
    ∙ ap (λ c. lane_of protected (get_or secrets i 0) c seed) (sym (column-three x 7 f.rows g.rows i three)) in
    let stays = λ (i : ℕ) (l : i < 7) (rest : 3 ≤ i).
    g.lanes.kept i rest ∙ lane_from_seed 7 seed f.lanes (omega arith) i l
    ∙ ap (λ c. lane_of protected (get_or secrets i 0) c seed) (sym (column-rest x 7 f.rows g.rows i rest)) in
    let lanes_are = joined-lanes protected secrets x shape seed (take 7 held) (length-take-le 7 held (omega arith))
    (λ i l. get_or-take 7 held i 0 l ∙ ⊎_elim (goes_on i l) (stays i l) (cases_lt i 3)) in
    let at : 16 * (7 * f.rows) + 16 * (3 * g.rows) ≡ 16 * (7 * f.rows + 3 * g.rows) = omega arith in
    record {
      joined = rw (rows, threes) (is ∙ lanes_are);
      rest =
          rw (rows, threes)
          (g.rest_is
          ∙ ap (drop (16 * (3 * g.rows))) f.rest_is
          ∙ drop-drop (16 * (3 * g.rows)) (16 * (7 * f.rows)) x
          ∙ ap (λ k. drop k x) at);
    }
