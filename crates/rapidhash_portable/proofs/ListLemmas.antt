-- Buffers as plain lists: bytes that are put behind others, and the 16 bytes before a place.
use borrow.Rule.Slice.PartMut.{put_mid, post_of}
use lib.Seq.{take-add, take-append-le}
use Rattle.std.proofs.Common.{◌≡◌, ℕ, ◌+◌, ◌-◌, ◌≤◌, List, ◌++◌, length, take, drop, refl, sym, ap, ◌∙◌, arith, drop_at, le_refl, length-append, length-drop}
use Rattle.std.proofs.Math.Seq.{drop-append-add}
use Rattle.std.proofs.lemmas.List.{drop-append-le, drop-drop, drop-take, length-take-le}
use Rattle.std.proofs.lemmas.Slice.{take-put_mid, take-put_mid_below}

-- the filled front, and the bytes of a read behind it
pub filled_more : (at n : ℕ) (buf part : List ℕ) → at ≤ length buf → n ≤ length part →
    take at buf ++ take n part ≡ take (at + n) (put_mid at (length buf - at) buf part)
filled_more at n buf part within fits =
    let m = put_mid at (length buf - at) buf part in
    let front : take at m ≡ take at buf = take-put_mid_below _ _ _ _ _ (le_refl _) within in
    let after = post_of at (length buf - at) buf in
    let back : take n (drop at m) ≡ take n part =
    ap (take n) (drop_at (take at buf) (part ++ after) at (length-take-le at buf within)) ∙ take-append-le n part after fits in
    ap (λ l. l ++ take n part) (sym front) ∙ ap (λ l. take at m ++ l) (sym back) ∙ sym (take-add at n m)

-- a buffer whose front was replaced keeps its length
pub refilled_room : (piece buffer : List ℕ) (room : ℕ) → length piece ≡ room → room ≤ length buffer →
    length (piece ++ post_of 0 room buffer) ≡ length buffer
refilled_room piece buffer room size fits = simp (length-append, length-drop) (omega arith)

-- new bytes behind the buffered ones
pub buffered-more : (j len : ℕ) (kept d kept' : List ℕ) → 16 + len ≤ length kept → kept' ≡ put_mid (16 + len) j kept d →
    take (len + length d) (drop 16 kept') ≡ take len (drop 16 kept) ++ d
buffered-more j len kept d kept' fits e =
    let whole : take (16 + (len + length d)) kept' ≡ take (16 + len) kept ++ d =
    rw e (take-put_mid (16 + len) j kept d (16 + (len + length d)) (omega arith) fits) in
    let front : length (take (16 + len) kept) ≡ 16 + len = length-take-le (16 + len) kept fits in
    let cut : drop 16 (take (16 + (len + length d)) kept') ≡ drop 16 (take (16 + len) kept) ++ d =
    ap (λ (l : List ℕ). drop 16 l) whole ∙ drop-append-le 16 (take (16 + len) kept) d (omega arith) in
    sym (drop-take 16 (len + length d) kept') ∙ cut ∙ ap (λ (l : List ℕ). l ++ d) (drop-take 16 len kept)

-- the carried bytes stay
pub carried-same : (j len : ℕ) (kept d kept' : List ℕ) → 16 + len ≤ length kept → kept' ≡ put_mid (16 + len) j kept d → take 16 kept' ≡ take 16 kept
carried-same j len kept d kept' fits e = rw e (take-put_mid_below (16 + len) j kept d 16 (omega arith) fits)

-- behind the message's first bytes
pub drop-behind : (x d : List ℕ) (k n : ℕ) → k ≡ length x + n → drop k (x ++ d) ≡ drop n d
drop-behind x d k n e = rw e (drop-append-add x d n)

-- the 16 bytes before an edge, in the message's first part
pub before-append : (x d : List ℕ) (edge : ℕ) → 16 ≤ edge → edge ≤ length x → take 16 (drop (edge - 16) (x ++ d)) ≡ take 16 (drop (edge - 16) x)
before-append x d edge some low =
    rw (drop-append-le (edge - 16) x d (omega arith)) (take-append-le 16 (drop (edge - 16) x) d (omega (arith, length-drop (edge - 16) x)))

-- those before an edge in the piece
pub before-piece : (x d : List ℕ) (edge at : ℕ) → edge ≡ length x + at → 16 ≤ at → take 16 (drop (at - 16) d) ≡ take 16 (drop (edge - 16) (x ++ d))
before-piece x d edge at e far = ap (λ (l : List ℕ). take 16 l) (sym (drop-behind x d (edge - 16) (at - 16) (omega arith)))

-- those before the end of a chunk in the buffer
pub before-chunk : (size : ℕ) (kept y : List ℕ) (start : ℕ) → 16 ≤ size → take size (drop 16 kept) ≡ take size (drop start y) →
    take 16 (drop size kept) ≡ take 16 (drop (start + size - 16) y)
before-chunk size kept y start wide e =
    let back : size - 16 + 16 ≡ size = omega arith in
    let e' : take (size - 16 + 16) (drop 16 kept) ≡ take (size - 16 + 16) (drop start y) = rw back e in
    let cut : take 16 (drop (size - 16) (drop 16 kept)) ≡ take 16 (drop (size - 16) (drop start y)) =
    sym (drop-take (size - 16) 16 (drop 16 kept)) ∙ ap (λ (l : List ℕ). drop (size - 16) l) e' ∙ drop-take (size - 16) 16 (drop start y) in
    let at : 16 + (size - 16) ≡ size = omega arith in
    let at' : start + (size - 16) ≡ start + size - 16 = omega arith in
    let left : drop (size - 16) (drop 16 kept) ≡ drop size kept = drop-drop (size - 16) 16 kept ∙ ap (λ (k : ℕ). drop k kept) at in
    let right : drop (size - 16) (drop start y) ≡ drop (start + size - 16) y = drop-drop (size - 16) start y ∙ ap (λ (k : ℕ). drop k y) at' in
    rw (← left, cut, right) refl
