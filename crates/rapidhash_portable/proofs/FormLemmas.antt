-- The parts of a message in each form, by its length, and the start of its tail and its lanes.
use Rattle.std.proofs.Common.{◌≡◌, ℕ, ◌+◌, ◌-◌, ◌*◌, ◌/◌, ◌%◌, ◌≤◌, ◌<◌, Bool, true, false, List, refl, ap, ◌∙◌, arith}
use Rattle.std.proofs.lemmas.Bool.{lt-ltb, le-ltb}
use Rattle.std.proofs.lemmas.Bool.Decides.{nat_tests}
use Rattle.std.proofs.lemmas.Nat.{div-mul-add}
use Rattle.rapidhash_portable.specs.Folded.{AfterRows}
use Rattle.rapidhash_portable.specs.Lanes.{rows_in, no_rows, wide_shape, mixed_shape}
use Rattle.rapidhash_portable.specs.declared.form.Form.{Form}
use Rattle.rapidhash_portable.specs.declared.form.Form.TheVariants.{V1, V2, V3}
use Rattle.rapidhash_portable.specs.Form.{longest_rowless, v2_rowless_places, shape_of, start_seed, tail_seed, tail_places}
use Rattle.rapidhash_portable.proofs.FoldedLemmas.{AfterRows-none}
use Rattle.rapidhash_portable.proofs.LanesLemmas.{cond_same}

-- V1 above its longest message without a row has rows of three
pub shape_of-v1-some : (bug : Bool) (n : ℕ) → longest_rowless (V1 bug) < n → shape_of (V1 bug) n ≡ wide_shape 3 0 n
unfolding shape_of
shape_of-v1-some true n h = grind (arith, nat_tests)
shape_of-v1-some false n h = grind (arith, nat_tests)

-- V2 up to its limit has no row
pub shape_of-v2-none : (minor n : ℕ) → n ≤ longest_rowless (V2 minor) → shape_of (V2 minor) n ≡ no_rows 7
unfolding shape_of
shape_of-v2-none minor n h = rw (le-ltb (longest_rowless (V2 minor)) n h) refl

-- V2 above its limit has rows of seven and of three
pub shape_of-v2-some : (minor n : ℕ) → longest_rowless (V2 minor) < n → shape_of (V2 minor) n ≡ mixed_shape 7 n
unfolding shape_of
shape_of-v2-some minor n h = rw (lt-ltb (longest_rowless (V2 minor)) n h) refl

-- the places of a tail of V2 with no row
pub tail_places-v2-none : (minor n : ℕ) → n ≤ longest_rowless (V2 minor) → tail_places (V2 minor) n ≡ v2_rowless_places minor
unfolding tail_places
tail_places-v2-none minor n h = rw (le-ltb (longest_rowless (V2 minor)) n h) refl

-- V3 has no row where every lane would need a byte more
pub shape_of-v3-none : (lanes n : ℕ) → 0 < lanes → n ≤ longest_rowless (V3 lanes) → shape_of (V3 lanes) n ≡ no_rows lanes
unfolding shape_of
shape_of-v3-none lanes n h k =
    let e : n - 1 ≡ 0 * (16 * lanes) + (n - 1) = omega arith in
    let zero = ap (λ b. b / (16 * lanes)) e ∙ div-mul-add 0 (16 * lanes) (n - 1) (omega arith) in
    rw zero refl

-- how many lanes a form has
abbrev pub lanes_of : Form → ℕ
lanes_of (V1 bug) = 3
lanes_of (V2 minor) = 7
lanes_of (V3 lanes) = lanes

-- up to 16 bytes no form has a row
pub shape_of-short : (form : Form) (n : ℕ) → lanes_of form % 2 ≡ 1 → n ≤ 16 → shape_of form n ≡ no_rows (lanes_of form)
unfolding shape_of
shape_of-short (V1 bug) n odd h = let none : rows_in 3 0 n ≡ 0 = omega arith in rw none (cond_same _ _)
shape_of-short (V2 minor) n odd h = shape_of-v2-none minor n (grind (arith, nat_tests))
shape_of-short (V3 lanes) n odd h = shape_of-v3-none lanes n (omega arith) (omega arith)

-- V3 starts from the seed itself above 16 bytes
pub start_seed-long : (lanes n seed : ℕ) → 16 < n → start_seed (V3 lanes) n seed ≡ seed
start_seed-long lanes n seed h = grind (arith, nat_tests)

-- a tail of at most 16 bytes starts from the seed itself
pub tail_seed-short : (form : Form) (secrets : List ℕ) (t seed : ℕ) → t ≤ 16 → tail_seed form secrets t seed ≡ seed
unfolding tail_seed
tail_seed-short (V1 bug) secrets t seed h = rw (le-ltb 16 t h) refl
tail_seed-short (V2 minor) secrets t seed h = refl
tail_seed-short (V3 lanes) secrets t seed h = refl

-- with no row the tail is the message, and the joined lanes are the seed
pub rows-none : (form : Form) (lanes n : ℕ) (protected : Bool) (secrets x : List ℕ) (seed : ℕ) → lanes % 2 ≡ 1
    → shape_of form n ≡ no_rows lanes
    → AfterRows protected secrets x (shape_of form n) seed seed x
rows-none form lanes n protected secrets x seed odd none = rw none (AfterRows-none protected secrets x lanes seed odd)
