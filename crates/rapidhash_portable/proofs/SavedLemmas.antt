-- Lemmas on the bytes of a saved stream.
use borrow.Rule.Slice.PartMut.{put_mid}
use mir.Val.{bool_byte}
use Rattle.std.proofs.Common.{◌≡◌, ℕ, ◌-◌, ◌*◌, ◌<◌, ◌≤◌, ◌^◌, ◌∷◌, [], map, nat_eq, bit_xor, All, flat_map, length-append, length-drop, slice_index, get_or, get_or-drop, ◌+◌, ⊎_elim, arith, Bool, true, false, if◌then◌else◌, refl, List, ◌++◌, length, take, drop, replicate, sym, ap, ◌∙◌, append_assoc}
use Rattle.std.specs.Int.{w64, from_le_bytes, to_le_bytes}
use Rattle.std.specs.Int.Bits.{xor_assoc, xor_self, xor_zero_r}
use Rattle.std.proofs.lemmas.Bool.{cases_lt, lt-ltb, ltb-false}
use Rattle.std.proofs.lemmas.Grind.{same_number_lists}
use Rattle.std.proofs.lemmas.List.{drop-replicate, drop_at, get_or-replicate, length-replicate, length-take-le, take_at}
use Rattle.std.proofs.lemmas.Nat.{from_le_bytes-to_le_bytes_8, xor_lt}
use Rattle.rapidhash_portable.specs.declared.secrets.RapidSecrets.{RapidSecrets}
use Rattle.rapidhash_portable.specs.declared.v3.stream.parts.Parts.{Parts}
use Rattle.rapidhash_portable.specs.Lanes.{IsLaneCount, lane_of, pair_of, pairs_of}
use Rattle.rapidhash_portable.specs.Saved.{AreIn, IsSaved, UnusedHoldSeed, checked, option_byte, restored_lane, saved_body, saved_carried, saved_head, saved_check, saved_lane, saved_parts}
use Rattle.rapidhash_portable.specs.Stream.{PartsRepresent, chunk_count}
use Rattle.rapidhash_portable.proofs.StreamLemmas.{chunk-below, chunk_count-low, length-buffered}

-- a piece behind the bytes so far, over the zeros after them
pub put-next : (l front piece : List ℕ) (at k zeros : ℕ) → at ≡ length front → k ≡ length piece → l ≡ front ++ replicate zeros 0 →
    put_mid at k l piece ≡ (front ++ piece) ++ replicate (zeros - length piece) 0
put-next l front piece at k zeros here size e =
    let head : take at l ≡ front = rw e (take_at front (replicate zeros 0) at (sym here)) in
    let tail : drop at l ≡ replicate zeros 0 = rw e (drop_at front (replicate zeros 0) at (sym here)) in
    let rest : drop k (drop at l) ≡ replicate (zeros - length piece) 0 = ap (drop k) tail ∙ drop-replicate k zeros 0 ∙ ap (λ n. replicate (zeros - n) 0) size in
    ap (λ front'. front' ++ (piece ++ drop k (drop at l))) head
    ∙ ap (λ rest'. front ++ (piece ++ rest')) rest
    ∙ sym (append_assoc front piece (replicate (zeros - length piece) 0))

-- the flag as a byte
pub flag-byte : (any : Bool) → bool_byte any ≡ (if any then 1 else 0)
flag-byte true = refl
flag-byte false = refl

-- the zeros behind the buffered bytes, and the order of the parts
pub body-is : (head lanes carried buffered : List ℕ) (zeros : ℕ) →
    (((head ++ lanes) ++ carried) ++ buffered) ++ replicate zeros 0 ≡ head ++ (lanes ++ (carried ++ (buffered ++ replicate zeros 0)))
body-is head lanes carried buffered zeros =
    append_assoc ((head ++ lanes) ++ carried) buffered (replicate zeros 0)
    ∙ append_assoc (head ++ lanes) carried (buffered ++ replicate zeros 0)
    ∙ append_assoc head lanes (carried ++ (buffered ++ replicate zeros 0))

-- eight bytes a lane
pub length-saved_lanes : (seed : ℕ) (lanes : List ℕ) → length (flat_map (saved_lane seed) lanes) ≡ 8 * length lanes
length-saved_lanes seed [] = refl
length-saved_lanes seed (lane ∷ lanes) =
    let more = length-saved_lanes seed lanes in
    omega (arith, more, length-append (saved_lane seed lane) (flat_map (saved_lane seed) lanes))

-- the flag of a byte
pub flag-back : (any : Bool) → nat_eq (if any then 1 else 0) 1 ≡ any
flag-back true = refl
flag-back false = refl

carried-twice : (any : Bool) (l z : List ℕ) → (if any then (if any then l else z) else z) ≡ (if any then l else z)
carried-twice true l z = refl
carried-twice false l z = refl

carried-size : (any : Bool) (l : List ℕ) → 16 ≤ length l → length (if any then take 16 l else replicate 16 0) ≡ 16
carried-size true l long = length-take-le 16 l long
carried-size false l long = refl

flag-below : (any : Bool) (n : ℕ) → (any ≡ true → 1 ≤ n) → bool_byte any ≤ n
flag-below true n some = some refl
flag-below false n some = omega arith

-- a lane that was mixed with the seed twice
lane-back : (seed lane : ℕ) → seed < 2 ^ 64 → lane < 2 ^ 64 → bit_xor (from_le_bytes w64 (saved_lane seed lane)) seed ≡ lane
lane-back seed lane s l =
    ap (λ n. bit_xor n seed) (from_le_bytes-to_le_bytes_8 (bit_xor lane seed) (xor_lt 64 lane seed l s))
    ∙ xor_assoc lane seed seed
    ∙ ap (bit_xor lane) (xor_self seed)
    ∙ xor_zero_r lane

-- the seven lanes
lanes-back : (lanes options : ℕ) (any : Bool) (len seed : ℕ) (held tail : List ℕ) → length held ≡ 7 → seed < 2 ^ 64 → All (λ lane. lane < 2 ^ 64) held →
    map (restored_lane (saved_head lanes options any len ++ (flat_map (saved_lane seed) held ++ tail)) seed) (16 ∷ 24 ∷ 32 ∷ 40 ∷ 48 ∷ 56 ∷ 64 ∷ []) ≡ held
lanes-back lanes options any len seed (a ∷ b ∷ c ∷ d ∷ e ∷ f ∷ g ∷ []) tail size fits words = λ i.
    (lane-back seed a fits (words 0 0 (omega arith))) i ∷ (lane-back seed b fits (words 1 0 (omega arith))) i
    ∷ (lane-back seed c fits (words 2 0 (omega arith))) i ∷ (lane-back seed d fits (words 3 0 (omega arith))) i
    ∷ (lane-back seed e fits (words 4 0 (omega arith))) i ∷ (lane-back seed f fits (words 5 0 (omega arith))) i
    ∷ (lane-back seed g fits (words 6 0 (omega arith))) i ∷ []
lanes-back lanes options any len seed held tail size fits words = absurd (omega (arith, size))

-- a lane that has folded no row
lane-none : (protected : Bool) (secret start width rows place : ℕ) (x : List ℕ) → rows ≡ 0 →
    lane_of protected secret (pairs_of (pair_of x) 0 width rows place) start ≡ start
unfolding lane_of pairs_of
lane-none protected secret start width rows place x none = ap (λ r. lane_of protected secret (pairs_of (pair_of x) 0 width r place) start) none

-- the lanes behind those that have folded rows hold the seed, and without rows all do
unused-hold : {protected : Bool} {lanes earlier : ℕ} {p : Parts} {x : List ℕ} → PartsRepresent protected lanes earlier p x → (any : Bool) → p.any ≡ any →
    (i : ℕ) → i < 7 → (if any then lanes else 0) ≤ i → get_or p.folded.lanes i 0 ≡ p.secrets.now.seed
unused-hold {p = p} r true is i fits behind = r.folded.kept i behind ∙ get_or-replicate 7 i p.secrets.now.seed 0 fits
unused-hold {protected} {lanes} {p = p} {x = x} r false is i fits behind =
    let none : chunk_count lanes (length x) ≡ 0 = omega (arith, ltb-false 0 (chunk_count lanes (length x)) (sym r.any ∙ is)) in
    ⊎_elim
    (λ l. r.folded.folded i l
    ∙ lane-none protected (slice_index p.secrets.now.secrets i) (slice_index (replicate 7 p.secrets.now.seed) i) lanes (chunk_count lanes (length x)) i x none
    ∙ get_or-replicate 7 i p.secrets.now.seed 0 fits)
    (λ l. r.folded.kept i l ∙ get_or-replicate 7 i p.secrets.now.seed 0 fits)
    (cases_lt i lanes)

pub unused-seed : {protected : Bool} {lanes earlier : ℕ} {p : Parts} {x : List ℕ} → PartsRepresent protected lanes earlier p x → UnusedHoldSeed lanes p
unused-seed {lanes = lanes} {p = p} r =
    let used : ℕ = if p.any then lanes else 0 in
    let size = r.folded.whole in
    same_number_lists (drop used p.folded.lanes) (drop used (replicate 7 p.secrets.now.seed))
    (length-drop used p.folded.lanes ∙ ap (λ n. n - used) size ∙ sym (length-drop used (replicate 7 p.secrets.now.seed)))
    (λ k l.
    let fits : used + k < 7 = omega (arith, l, size, length-drop used p.folded.lanes) in
    get_or-drop used p.folded.lanes k 0
    ∙ unused-hold r p.any refl (used + k) fits (omega arith)
    ∙ sym (get_or-drop used (replicate 7 p.secrets.now.seed) k 0 ∙ get_or-replicate 7 (used + k) p.secrets.now.seed 0 fits))

-- ---- the data in the bytes of a saved stream

module _ {avalanche protected : Bool} {lanes : ℕ} {secrets : RapidSecrets} {x bytes : List ℕ}
    (h : IsSaved avalanche protected lanes secrets x bytes) (count : IsLaneCount lanes) where
  abbrev g : Parts
  g = h.parts

  abbrev options : ℕ
  options = option_byte avalanche protected

  abbrev held : List ℕ
  held = flat_map (saved_lane g.secrets.now.seed) g.folded.lanes

  abbrev buffered : List ℕ
  buffered = take g.len (drop 16 g.kept)

  abbrev kept : List ℕ
  kept = saved_carried g ++ (buffered ++ replicate (112 - g.len) 0)

  abbrev check : List ℕ
  check = to_le_bytes w64 (saved_check g.secrets.now (saved_body lanes options g))

  -- the head, the lanes, the kept bytes and the check
  bytes_are : saved_head lanes options g.any g.len ++ (held ++ (kept ++ check)) ≡ bytes
  unfolding saved_body
  bytes_are = ap (λ l. saved_head lanes options g.any g.len ++ l) (sym (append_assoc held kept check)) ∙ h.bytes_are

  seven : length g.folded.lanes ≡ 7
  seven = h.represents.folded.whole

  size-carried : length (saved_carried g) ≡ 16
  size-carried = carried-size g.any g.kept (omega (arith, h.size))

  size-buffered : length buffered ≡ g.len
  size-buffered = length-take-le g.len (drop 16 g.kept) (omega (arith, h.fits, count.most, h.size, length-drop 16 g.kept))

  size-kept : length kept ≡ 128
  size-kept =
      let zeros : List ℕ = replicate (112 - g.len) 0 in
      omega (
        arith,
        h.fits,
        count.most,
        size-carried,
        size-buffered,
        length-append (saved_carried g) (buffered ++ zeros),
        length-append buffered zeros,
        length-replicate {A = ℕ} (112 - g.len) 0,
      )

  abbrev front : List ℕ
  front = saved_head lanes options g.any g.len ++ held

  size-front : length front ≡ 72
  size-front = omega (arith, seven, length-append (saved_head lanes options g.any g.len) held, length-saved_lanes g.secrets.now.seed g.folded.lanes)

  -- there are 208
  pub size-saved : length bytes ≡ 208
  size-saved =
      ap length (sym bytes_are)
      ∙ omega (
        arith,
        size-front,
        size-kept,
        length-append (saved_head lanes options g.any g.len) held,
        length-append (saved_head lanes options g.any g.len) (held ++ (kept ++ check)),
        length-append held (kept ++ check),
        length-append kept check,
      )

  module _ {p : Parts} (is : AreIn bytes p) (same : p.secrets.now ≡ secrets) (seed_fits : secrets.seed < 2 ^ 64) where
    any_is : p.any ≡ g.any
    any_is = is.any ∙ ap (λ b. nat_eq (slice_index b 10) 1) (sym bytes_are) ∙ flag-back g.any

    len_is : p.len ≡ g.len
    len_is = is.len ∙ ap (λ b. slice_index b 11) (sym bytes_are)

    secrets_is : p.secrets.now ≡ g.secrets.now
    secrets_is = same ∙ sym h.secrets_are

    lanes_is : p.folded.lanes ≡ g.folded.lanes
    lanes_is =
        let fits : g.secrets.now.seed < 2 ^ 64 = omega (arith, seed_fits, ap (λ s. s.seed) h.secrets_are) in
        is.lanes
        ∙ ap (λ (s : RapidSecrets). map (restored_lane bytes s.seed) (16 ∷ 24 ∷ 32 ∷ 40 ∷ 48 ∷ 56 ∷ 64 ∷ [])) secrets_is
        ∙ ap (λ b. map (restored_lane b g.secrets.now.seed) (16 ∷ 24 ∷ 32 ∷ 40 ∷ 48 ∷ 56 ∷ 64 ∷ [])) (sym bytes_are)
        ∙ lanes-back lanes options g.any g.len g.secrets.now.seed g.folded.lanes (kept ++ check) seven fits h.words

    kept_is : p.kept ≡ kept
    kept_is =
        is.kept
        ∙ ap (λ b. take 128 (drop 72 b)) (sym bytes_are ∙ sym (append_assoc (saved_head lanes options g.any g.len) held (kept ++ check)))
        ∙ ap (take 128) (drop_at front (kept ++ check) 72 size-front)
        ∙ take_at kept check 128 size-kept

    carried_is : take 16 p.kept ≡ saved_carried g
    carried_is = ap (take 16) kept_is ∙ take_at (saved_carried g) (buffered ++ replicate (112 - g.len) 0) 16 size-carried

    buffered_is : take p.len (drop 16 p.kept) ≡ buffered
    buffered_is =
        let zeros : List ℕ = replicate (112 - g.len) 0 in
        ap (λ k. take p.len (drop 16 k)) kept_is
        ∙ ap (take p.len) (drop_at (saved_carried g) (buffered ++ zeros) 16 size-carried)
        ∙ ap (λ n. take n (buffered ++ zeros)) len_is
        ∙ take_at buffered zeros g.len size-buffered

    carried_same : saved_carried p ≡ saved_carried g
    carried_same =
        ap (λ any. if any then take 16 p.kept else replicate 16 0) any_is
        ∙ ap (λ l. if g.any then l else replicate 16 0) carried_is
        ∙ carried-twice g.any (take 16 g.kept) (replicate 16 0)

    body_is : saved_body lanes options p ≡ saved_body lanes options g
    unfolding saved_body
    body_is = λ i. saved_head lanes options (any_is i) (len_is i) ++ (flat_map (saved_lane (secrets_is i).seed) (lanes_is i)
        ++ (carried_same i ++ (buffered_is i ++ replicate (112 - len_is i) 0)))

    -- they would be saved as the same bytes
    pub restored-bytes : saved_parts lanes options p ≡ bytes
    restored-bytes = (λ i. checked (secrets_is i) (body_is i)) ∙ h.bytes_are

    -- they fit
    pub restored-fits : p.len ≤ 16 * lanes
    restored-fits = rw len_is h.fits

    pub restored-least : bool_byte p.any ≤ p.len
    restored-least =
        rw (any_is, len_is) (flag-below g.any g.len (λ on.
        let low = chunk_count-low lanes (length x) (omega (arith, count.least)) in
        omega (arith, low, chunk-below count h.represents h.size h.fits on, length-buffered count h.represents h.size h.fits)))

    -- they represent the same message, all of whose chunks were folded before
    pub restored-represents : PartsRepresent protected lanes (chunk_count lanes (length x)) p x
    restored-represents = record {
      folded = rw (secrets_is, lanes_is) h.represents.folded;
      steps = omega (arith, is.none);
      any = any_is ∙ h.represents.any;
      buffered = buffered_is ∙ h.represents.buffered;
      carried = λ some.
          carried_is
          ∙ ap (λ any. if any then take 16 g.kept else replicate 16 0) (h.represents.any ∙ lt-ltb 0 (chunk_count lanes (length x)) some)
          ∙ h.represents.carried some;
    }

    -- the unused lanes hold the seed
    pub restored-unused : UnusedHoldSeed lanes p
    restored-unused = unused-seed restored-represents
