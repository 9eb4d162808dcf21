-- One more item: its effect on the steps, the seed and the last block of a hasher.
use Rattle.std.proofs.Common.{Fits, w8, get_or, ◌≡◌, ℕ, ◌+◌, ◌*◌, ◌^◌, ◌<◌, ◌≤◌, Bool, true, false, nat_le, List, [], ◌∷◌, ◌++◌, refl, sym, ap, ◌∙◌, arith, fold, All, append_assoc}
use Rattle.std.proofs.lemmas.List.{append-nil, get_or_default}
use Rattle.std.proofs.lemmas.List.Elements.{All-append, All-cons, All-nil}
use Rattle.std.proofs.lemmas.List.Sums.{fold-append}
use Rattle.std.proofs.lemmas.Bool.{le-leb, lt-leb}
use Rattle.std.proofs.lemmas.Bool.Decides.{nat_tests}
use Rattle.rapidhash_portable.specs.declared.form.Options.{Options}
use Rattle.rapidhash_portable.specs.InMemory.{core_hash}
use Rattle.rapidhash.specs.Hasher.{NumbersRepresent, closed, finished, pending, seed_after, step, steps, steps_from, steps_of, width}
use Rattle.rapidhash.specs.Sponge.{Bytes, IsItem, Item, Num, Wide, block, end_after, end_from, end_of, share}
use Rattle.rapidhash.proofs.SpongeLemmas.{block_from-behind, block_from-snoc, end_from-grows, end_from-snoc, own_block, share-before}

-- the steps after one item more, where the blocks' numbers are `b`
steps_from-snoc : (b : ℕ → ℕ) (c : ℕ × ℕ) (xs : List Item) (y : Item) → steps_from b c (xs ++ y ∷ []) ≡ steps_from b c xs ++ steps_of b (end_from c xs) y
steps_from-snoc b c [] y = append-nil _
steps_from-snoc b c (x ∷ xs) y =
    ap (λ (r : List Item). steps_of b c x ++ r) (steps_from-snoc b (end_after c x) xs y)
    ∙ sym (append_assoc (steps_of b c x) (steps_from b (end_after c x) xs) (steps_of b (end_from (end_after c x) xs) y))

-- an item's steps read only the number of the block that an integer closes
steps_of-same : (b d : ℕ → ℕ) (c : ℕ × ℕ) (y : Item) → ((m : ℕ) → m < (end_after c y).0 → b m ≡ d m) → steps_of b c y ≡ steps_of d c y
steps_of-same b d c (Bytes x) h = refl
steps_of-same b d c (Wide v) h = refl
steps_of-same b d c (Num w v) h = grind (arith, nat_tests, h c.0)

-- so do the steps of a list
steps_from-same : (b d : ℕ → ℕ) (c : ℕ × ℕ) (xs : List Item) → ((m : ℕ) → m < (end_from c xs).0 → b m ≡ d m) → steps_from b c xs ≡ steps_from d c xs
steps_from-same b d c [] h = refl
steps_from-same b d c (x ∷ xs) h =
    let g = end_from-grows (end_after c x) xs in
    let first = steps_of-same b d c x (λ m k. h m (omega (arith, g, k))) in
    let rest = steps_from-same b d (end_after c x) xs h in
    cc (first, rest)

-- one item more leaves the blocks before the last one as they are
block-before : (xs : List Item) (y : Item) (m : ℕ) → m < (end_of (xs ++ y ∷ [])).0 → block (xs ++ y ∷ []) m ≡ block xs m
block-before xs y m h =
    let e = block_from-snoc m (0, 0) xs y in
    let n = share-before m (end_of xs) y (rw end_from-snoc at h) in
    omega (arith, e, n)

-- so the steps after one item more are those before it, and its own
steps-snoc : (xs : List Item) (y : Item) → steps true (xs ++ y ∷ []) ≡ steps true xs ++ steps_of (block xs) (end_of xs) y
unfolding steps
steps-snoc xs y =
    steps_from-same (block (xs ++ y ∷ [])) (block xs) (0, 0) (xs ++ y ∷ []) (block-before xs y) ∙ steps_from-snoc (block xs) (0, 0) xs y

-- and so is the seed
seed_after-snoc : (options : Options) (s : List ℕ) (start : ℕ) (xs : List Item) (y : Item)
    → seed_after options true s start (xs ++ y ∷ []) ≡ fold (step options s) (seed_after options true s start xs) (steps_of (block xs) (end_of xs) y)
unfolding seed_after
seed_after-snoc options s start xs y =
    ap (λ (l : List Item). fold (step options s) start l) (steps-snoc xs y)
    ∙ fold-append (step options s) start (steps true xs) (steps_of (block xs) (end_of xs) y)

-- the pending number after one item more
pending-snoc : (xs : List Item) (y : Item)
    → pending true (xs ++ y ∷ []) ≡ block xs (end_after (end_of xs) y).0 + share (end_after (end_of xs) y).0 (end_of xs) y
pending-snoc xs y =
    ap (λ (c : ℕ × ℕ). block (xs ++ y ∷ []) c.0) (end_from-snoc (0, 0) xs y) ∙ block_from-snoc (end_after (end_of xs) y).0 (0, 0) xs y

-- and its width
width-snoc : (xs : List Item) (y : Item) → width true (xs ++ y ∷ []) ≡ (end_after (end_of xs) y).1
width-snoc xs y = ap (λ (c : ℕ × ℕ). c.1) (end_from-snoc (0, 0) xs y)

-- the items stay in range
items-snoc : (xs : List Item) (y : Item) → All IsItem xs → IsItem y → All IsItem (xs ++ y ∷ [])
items-snoc xs y h i = All-append IsItem xs (y ∷ []) h (All-cons IsItem y [] i (All-nil IsItem))

-- with a sponge: one more item, by its effect on the seed and the last block
represents-snoc : (options : Options) (s : List ℕ) (seed v w start : ℕ) (xs : List Item) (y : Item) (seed' v' w' : ℕ) → IsItem y
    → seed' ≡ fold (step options s) seed (steps_of (block xs) (end_of xs) y)
    → w' ≡ (end_after (end_of xs) y).1
    → v' ≡ block xs (end_after (end_of xs) y).0 + share (end_after (end_of xs) y).0 (end_of xs) y
    → NumbersRepresent options true s seed v w start xs → NumbersRepresent options true s seed' v' w' start (xs ++ y ∷ [])
represents-snoc options s seed v w start xs y seed' v' w' i e f g h = record {
  start_fits = h.start_fits;
  items_fit = items-snoc xs y h.items_fit i;
  seed_is = e ∙ ap (λ (n : ℕ). fold (step options s) n (steps_of (block xs) (end_of xs) y)) h.seed_is ∙ sym (seed_after-snoc options s start xs y);
  number_is = g ∙ sym (pending-snoc xs y);
  bits_are = f ∙ sym (width-snoc xs y);
}

-- without a sponge each item is a step
represents-step : (options : Options) (s : List ℕ) (seed v w start : ℕ) (xs : List Item) (y : Item) → IsItem y
    → NumbersRepresent options false s seed v w start xs → NumbersRepresent options false s (step options s seed y) v w start (xs ++ y ∷ [])
unfolding seed_after steps
represents-step options s seed v w start xs y i h = record {
  start_fits = h.start_fits;
  items_fit = items-snoc xs y h.items_fit i;
  seed_is = ap (λ (n : ℕ). step options s n y) h.seed_is ∙ sym (fold-append (step options s) start xs (y ∷ []));
  number_is = h.number_is;
  bits_are = h.bits_are;
}

-- an integer that the last block has room for
pub represents-behind : (options : Options) (sponge : Bool) (s : List ℕ) (seed v w start : ℕ) (xs : List Item) (k n v' w' : ℕ) → sponge ≡ true
    → IsItem (Num k n) → w + k ≤ 128 → v' ≡ v + n * 2 ^ w → w' ≡ w + k
    → NumbersRepresent options sponge s seed v w start xs → NumbersRepresent options sponge s seed v' w' start (xs ++ Num k n ∷ [])
represents-behind options false s seed v w start xs k n v' w' t i room e f h = absurd (cc)
represents-behind options true s seed v w start xs k n v' w' t i room e f h =
    let we : w ≡ (end_of xs).1 = h.bits_are in
    let ve : v ≡ block xs (end_of xs).0 = h.number_is in
    let fits : nat_le ((end_of xs).1 + k) 128 ≡ true = le-leb _ _ (rw (← we) room) in
    represents-snoc options s seed v w start xs (Num k n) seed v' w' i (rw fits refl) (f ∙ rw (fits, we) refl) (e ∙ rw (fits, own_block, we, ve) refl) h

-- an integer that opens a block, where the last one becomes a step
pub represents-opening : (options : Options) (sponge : Bool) (s : List ℕ) (seed v w start : ℕ) (xs : List Item) (k n seed' v' w' : ℕ) → sponge ≡ true
    → IsItem (Num k n) → 128 < w + k → seed' ≡ step options s seed (Wide v) → v' ≡ n → w' ≡ k
    → NumbersRepresent options sponge s seed v w start xs → NumbersRepresent options sponge s seed' v' w' start (xs ++ Num k n ∷ [])
represents-opening options false s seed v w start xs k n seed' v' w' t i full d e f h = absurd (cc)
represents-opening options true s seed v w start xs k n seed' v' w' t i full d e f h =
    let we : w ≡ (end_of xs).1 = h.bits_are in
    let ve : v ≡ block xs (end_of xs).0 = h.number_is in
    let opens : nat_le ((end_of xs).1 + k) 128 ≡ false = lt-leb _ _ (rw (← we) full) in
    let none : block xs ((end_of xs).0 + 1) ≡ 0 = block_from-behind _ (0, 0) xs (omega arith) in
    represents-snoc options s seed v w start xs (Num k n) seed' v' w' i (d ∙ rw (opens, ve) refl) (f ∙ rw opens (omega arith)) (e ∙ rw (opens, own_block, none) (omega arith)) h

-- an integer with no sponge
pub represents-number : (options : Options) (sponge : Bool) (s : List ℕ) (seed v w start : ℕ) (xs : List Item) (k n seed' : ℕ) → sponge ≡ false
    → IsItem (Num k n) → seed' ≡ step options s seed (Num k n)
    → NumbersRepresent options sponge s seed v w start xs → NumbersRepresent options sponge s seed' v w start (xs ++ Num k n ∷ [])
represents-number options true s seed v w start xs k n seed' t i d h = absurd (cc)
represents-number options false s seed v w start xs k n seed' t i d h = rw d (represents-step options s seed v w start xs (Num k n) i h)

-- bytes, which are a step at once
pub represents-bytes : (options : Options) (sponge : Bool) (s : List ℕ) (seed v w start : ℕ) (xs : List Item) (x : List ℕ) (seed' : ℕ) → IsItem (Bytes x)
    → seed' ≡ core_hash options x seed s
    → NumbersRepresent options sponge s seed v w start xs → NumbersRepresent options sponge s seed' v w start (xs ++ Bytes x ∷ [])
represents-bytes options true s seed v w start xs x seed' i d h =
    represents-snoc options s seed v w start xs (Bytes x) seed' v w i d h.bits_are (omega (arith, h.number_is)) h
represents-bytes options false s seed v w start xs x seed' i d h = rw d (represents-step options s seed v w start xs (Bytes x) i h)

-- a number of 128 bits, which is a step at once
pub represents-wide : (options : Options) (sponge : Bool) (s : List ℕ) (seed v w start : ℕ) (xs : List Item) (n seed' : ℕ) → IsItem (Wide n)
    → seed' ≡ step options s seed (Wide n)
    → NumbersRepresent options sponge s seed v w start xs → NumbersRepresent options sponge s seed' v w start (xs ++ Wide n ∷ [])
represents-wide options true s seed v w start xs n seed' i d h =
    represents-snoc options s seed v w start xs (Wide n) seed' v w i d h.bits_are (omega (arith, h.number_is)) h
represents-wide options false s seed v w start xs n seed' i d h = rw d (represents-step options s seed v w start xs (Wide n) i h)

-- the hash of a hasher that represents a start and a list
pub represents-finish : (options : Options) (sponge : Bool) (s : List ℕ) (seed v w start : ℕ) (xs : List Item)
    → NumbersRepresent options sponge s seed v w start xs → closed options s seed v w ≡ finished options sponge s start xs
unfolding finished
represents-finish options sponge s seed v w start xs h i = closed options s (h.seed_is i) (h.number_is i) (h.bits_are i)

-- a new hasher represents its start and no item
pub represents-new : (options : Options) (sponge : Bool) (s : List ℕ) (start : ℕ) → start < 2 ^ 64 → NumbersRepresent options sponge s start 0 0 start []
unfolding seed_after steps
represents-new options true s start h = record { start_fits = h; items_fit = All-nil IsItem; seed_is = refl; number_is = refl; bits_are = refl }
represents-new options false s start h = record { start_fits = h; items_fit = All-nil IsItem; seed_is = refl; number_is = refl; bits_are = refl }

-- the bytes of a slice are an item in range
pub bytes_fit : (xs : List ℕ) → ((i : ℕ) → Fits w8 (get_or xs i 0)) → IsItem (Bytes xs)
bytes_fit xs h k d l = rw (get_or_default xs k d 0 l) (let f = h k in omega (arith, f))
