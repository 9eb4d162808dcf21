-- Lists of integers of equal widths: those that are packed into the same blocks are one list.
use Rattle.std.proofs.Common.{◌≡◌, ℕ, cond, nat_eq, zero, suc, ◌+◌, ◌^◌, ◌<◌, List, [], ◌∷◌, length, map, take, get_or, refl, sym, ap, ◌∙◌, arith}
use Rattle.std.proofs.Math.ListN.{get_or-map}
use Rattle.std.proofs.lemmas.List.{length-map, take_more_same}
use Rattle.rapidhash.specs.Sponge.{Item, end_after, block_from}
use Rattle.rapidhash.proofs.SpongeLemmas.{first_number-same}
use Rattle.rapidhash.specs.declared.laws.blocks.Num.{Num}
use Rattle.rapidhash.specs.declared.laws.blocks.Num.TheVariants.{N8, N16, N32, N64}
use Rattle.rapidhash.specs.Laws.{width_of, value_of, item_of}

-- the number of a width and a value
num_of : ℕ → ℕ → Num
num_of width value =
    cond (nat_eq width 8) (N8 value) (cond (nat_eq width 16) (N16 value) (cond (nat_eq width 32) (N32 value) (N64 value)))

-- a number is that of its own width and value, so these two determine it
num_of-is : (a : Num) → num_of (width_of a) (value_of a) ≡ a
unfolding num_of
num_of-is (N8 v) = refl
num_of-is (N16 v) = refl
num_of-is (N32 v) = refl
num_of-is (N64 v) = refl

-- the widths at one place agree
width_at : (x y : List Num) (i : ℕ) (d : Num) → map width_of x ≡ map width_of y → width_of (get_or x i d) ≡ width_of (get_or y i d)
width_at x y i d h =
    sym (get_or-map width_of x i d) ∙ ap (λ widths. get_or widths i (width_of d)) h ∙ get_or-map width_of y i d

-- without an equal first item a block still agrees
rest-same : (m : ℕ) (c : ℕ × ℕ) (a b : Num) (xs ys : List Item) → a ≡ b
    → block_from m c (item_of a ∷ xs) ≡ block_from m c (item_of b ∷ ys)
    → block_from m (end_after c (item_of a)) xs ≡ block_from m (end_after c (item_of a)) ys
rest-same m c a b xs ys e h =
    let g : block_from m c (item_of a ∷ xs) ≡ block_from m c (item_of a ∷ ys) = h ∙ rw e refl in
    omega (arith, g)

-- place `i` of two lists of equal widths that agree before it, and whose numbers there are in range
pub record AgreeBefore (x y : List Num) (i : ℕ) (d : Num) : Type 0 where
  pub inside : i < length x
  pub widths : map width_of x ≡ map width_of y
  pub before : take i x ≡ take i y
  pub first_fits : value_of (get_or x i d) < 2 ^ width_of (get_or x i d)
  pub second_fits : value_of (get_or y i d) < 2 ^ width_of (get_or y i d)

-- the same blocks from an end on: the same number there
pub same_at_from : (c : ℕ × ℕ) (x y : List Num) (i : ℕ) (d : Num) → AgreeBefore x y i d
    → ((m : ℕ) → block_from m c (map item_of x) ≡ block_from m c (map item_of y)) → value_of (get_or x i d) ≡ value_of (get_or y i d)
same_at_from c [] y i d a h = absurd (omega arith)
same_at_from c (p ∷ x) [] i d a h = absurd (cc (a.widths))
same_at_from c (p ∷ x) (q ∷ y) zero d a h =
    let e : width_of p ≡ width_of q = cc (a.widths) in
    first_number-same c (width_of p) (value_of p) (value_of q) (map item_of x) (map item_of y) a.first_fits (rw e a.second_fits) (λ m. h m ∙ rw e refl)
same_at_from c (p ∷ x) (q ∷ y) (suc i) d a h =
    let e : p ≡ q = cc (a.before) in
    let rest : AgreeBefore x y i d = record {
      inside = omega arith;
      widths = cc (a.widths);
      before = cc (a.before);
      first_fits = a.first_fits;
      second_fits = a.second_fits;
    } in
    same_at_from (end_after c (item_of p)) x y i d rest (λ m. rest-same m c p q (map item_of x) (map item_of y) e (h m))

-- lists of equal widths are equally long
pub same_length : (x y : List Num) → map width_of x ≡ map width_of y → length x ≡ length y
same_length x y h = sym (length-map x width_of) ∙ ap length h ∙ length-map y width_of

-- two lists that agree before a place, and in their numbers there, agree behind it
pub same_front : (x y : List Num) (i : ℕ) (d : Num) → AgreeBefore x y i d → value_of (get_or x i d) ≡ value_of (get_or y i d)
    → take (i + 1) x ≡ take (i + 1) y
same_front x y i d a e =
    let n = same_length x y a.widths in
    let widths = width_at x y i d a.widths in
    let here : get_or x i d ≡ get_or y i d = cc (num_of-is (get_or x i d), num_of-is (get_or y i d), widths, e) in
    take_more_same x y i d a.inside (omega arith) a.before here
