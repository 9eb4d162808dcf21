-- Integers packed into blocks: the share of one more item, and an integer read back from its block.
use Rattle.std.proofs.Common.{◌⊎◌, inl, inr, ◌≡◌, ℕ, ◌+◌, ◌*◌, ◌^◌, ◌%◌, ◌/◌, ◌<◌, ◌≤◌, Bool, true, false, cond, nat_le, nat_eq, List, [], ◌∷◌, ◌++◌, refl, sym, ap, ◌∙◌, arith}
use Rattle.std.proofs.lemmas.Nat.{pow-add, pow_pos}
use Rattle.std.proofs.Math.Nat.{mul-div_cancel, mod-eq_of_lt, add-mul-mod_self_right}
use Rattle.std.proofs.lemmas.Bool.Decides.{nat_tests}
use Rattle.rapidhash.specs.Sponge.{Item, Bytes, Wide, Num, place_of, end_after, end_from, share, block_from}

-- the end after one item more
pub end_from-snoc : (c : ℕ × ℕ) (xs : List Item) (y : Item) → end_from c (xs ++ y ∷ []) ≡ end_after (end_from c xs) y
end_from-snoc c [] y = refl
end_from-snoc c (x ∷ xs) y = end_from-snoc (end_after c x) xs y

-- a block after one item more
pub block_from-snoc : (m : ℕ) (c : ℕ × ℕ) (xs : List Item) (y : Item) → block_from m c (xs ++ y ∷ []) ≡ block_from m c xs + share m (end_from c xs) y
block_from-snoc m c [] y = omega arith
block_from-snoc m c (x ∷ xs) y = let e = block_from-snoc m (end_after c x) xs y in omega (arith, e)

-- an integer is placed in the block where the one before it ends, or in the next, so no item ends in a block before
pub end_after-grows : (c : ℕ × ℕ) (y : Item) → c.0 ≤ (end_after c y).0
end_after-grows c (Bytes x) = omega arith
end_after-grows c (Wide v) = omega arith
end_after-grows c (Num w v) = grind (arith, nat_tests)

-- nor does a list
pub end_from-grows : (c : ℕ × ℕ) (xs : List Item) → c.0 ≤ (end_from c xs).0
end_from-grows c [] = omega arith
end_from-grows c (x ∷ xs) =
    let a = end_after-grows c x in
    let b = end_from-grows (end_after c x) xs in
    omega (arith, a, b)

-- an integer adds its value to its own block
pub own_block : (m v : ℕ) → cond (nat_eq m m) v 0 ≡ v
own_block m v = grind (arith, nat_tests)

-- and nothing to any other
other_block : (q m v : ℕ) → (q < m) ⊎ (m < q) → cond (nat_eq q m) v 0 ≡ 0
other_block q m v h = grind (arith, nat_tests)

-- an item adds nothing to a block before its own
pub share-before : (m : ℕ) (c : ℕ × ℕ) (y : Item) → m < (end_after c y).0 → share m c y ≡ 0
share-before m c (Bytes x) h = refl
share-before m c (Wide v) h = refl
share-before m c (Num w v) h = other_block _ _ _ (inr h)

-- and nothing to one behind it
share-behind : (m : ℕ) (c : ℕ × ℕ) (y : Item) → (end_after c y).0 < m → share m c y ≡ 0
share-behind m c (Bytes x) h = refl
share-behind m c (Wide v) h = refl
share-behind m c (Num w v) h = other_block _ _ _ (inl h)

-- no number is in a block after the last one
pub block_from-behind : (m : ℕ) (c : ℕ × ℕ) (xs : List Item) → (end_from c xs).0 < m → block_from m c xs ≡ 0
block_from-behind m c [] h = refl
block_from-behind m c (x ∷ xs) h =
    let g = end_from-grows (end_after c x) xs in
    let here = share-behind m c x (omega (arith, g)) in
    let rest = block_from-behind m (end_after c x) xs h in
    omega (arith, here, rest)

-- no number is in a block before the first one
block_from-before : (m : ℕ) (c : ℕ × ℕ) (xs : List Item) → m < c.0 → block_from m c xs ≡ 0
block_from-before m c [] h = refl
block_from-before m c (x ∷ xs) h =
    let g = end_after-grows c x in
    let here = share-before m c x (omega (arith, g)) in
    let rest = block_from-before m (end_after c x) xs (omega (arith, g)) in
    omega (arith, here, rest)

-- an integer and those behind it add a multiple of 2^c.1 to block `c.0`, if those behind it do
number-multiple : (fits : Bool) (c : ℕ × ℕ) (w v : ℕ) (xs : List Item) → ((d : ℕ × ℕ) → (k : ℕ) × (block_from d.0 d xs ≡ k * 2 ^ d.1))
    → let place = cond fits c (c.0 + 1, 0) in
    (k : ℕ) × (cond (nat_eq place.0 c.0) (v * 2 ^ place.1) 0 + block_from c.0 (place.0, place.1 + w) xs ≡ k * 2 ^ c.1)
number-multiple true c w v xs rec =
    let r = rec (c.0, c.1 + w) in
    (v + r.0 * 2 ^ w, rw (own_block, r.1, pow-add 2 c.1 w) (grind arith))
number-multiple false c w v xs rec =
    let other = other_block (c.0 + 1) c.0 (v * 2 ^ 0) (inr (omega arith)) in
    let behind = block_from-before c.0 (c.0 + 1, 0 + w) xs (omega arith) in
    (0, rw (other, behind) (omega arith))

-- so the number above bit b of a block is a multiple of 2^b
block_from-multiple : (c : ℕ × ℕ) (xs : List Item) → (k : ℕ) × (block_from c.0 c xs ≡ k * 2 ^ c.1)
block_from-multiple c [] = (0, omega arith)
block_from-multiple c (Bytes x ∷ xs) = let r = block_from-multiple c xs in (r.0, omega (arith, r.1))
block_from-multiple c (Wide v ∷ xs) = let r = block_from-multiple c xs in (r.0, omega (arith, r.1))
block_from-multiple c (Num w v ∷ xs) = number-multiple (nat_le (c.1 + w) 128) c w v xs (λ d. block_from-multiple d xs)

-- a sum times a factor, with the factor inside
spread : (u j p q : ℕ) → (u + j * q) * p ≡ u * p + j * (p * q)
spread u j p q = grind arith

-- a number below 2^w at bit b, with a multiple of 2^(b + w) behind it, is read back
read_back : (u v j k b w : ℕ) → u < 2 ^ w → v < 2 ^ w → u * 2 ^ b + j * 2 ^ (b + w) ≡ v * 2 ^ b + k * 2 ^ (b + w) → u ≡ v
read_back u v j k b w p q e =
    let split : 2 ^ (b + w) ≡ 2 ^ b * 2 ^ w = pow-add 2 b w in
    let same : (u + j * 2 ^ w) * 2 ^ b ≡ (v + k * 2 ^ w) * 2 ^ b =
    spread u j (2 ^ b) (2 ^ w) ∙ rw (← split) e ∙ sym (spread v k (2 ^ b) (2 ^ w)) in
    let cut : u + j * 2 ^ w ≡ v + k * 2 ^ w =
    sym (mul-div_cancel (u + j * 2 ^ w) (pow_pos b)) ∙ ap (λ (n : ℕ). n / 2 ^ b) same ∙ mul-div_cancel (v + k * 2 ^ w) (pow_pos b) in
    let left : (u + j * 2 ^ w) % 2 ^ w ≡ u = add-mul-mod_self_right u j (2 ^ w) ∙ mod-eq_of_lt p in
    let right : (v + k * 2 ^ w) % 2 ^ w ≡ v = add-mul-mod_self_right v k (2 ^ w) ∙ mod-eq_of_lt q in
    sym left ∙ ap (λ (n : ℕ). n % 2 ^ w) cut ∙ right

-- lists that begin with numbers of one width differ in the block of this number, unless the numbers are equal
pub first_number-same : (c : ℕ × ℕ) (w u v : ℕ) (xs ys : List Item) → u < 2 ^ w → v < 2 ^ w
    → ((m : ℕ) → block_from m c (Num w u ∷ xs) ≡ block_from m c (Num w v ∷ ys)) → u ≡ v
first_number-same c w u v xs ys p q h =
    let place : ℕ × ℕ = place_of c w in
    let r = block_from-multiple (place.0, place.1 + w) xs in
    let s = block_from-multiple (place.0, place.1 + w) ys in
    let a : block_from place.0 c (Num w u ∷ xs) ≡ u * 2 ^ place.1 + r.0 * 2 ^ (place.1 + w) = rw (own_block, r.1) refl in
    let b : block_from place.0 c (Num w v ∷ ys) ≡ v * 2 ^ place.1 + s.0 * 2 ^ (place.1 + w) = rw (own_block, s.1) refl in
    read_back u v r.0 s.0 place.1 w p q (sym a ∙ h place.0 ∙ b)
