-- A buffer that a read fills further.
use borrow.Rule.Slice.PartMut.{put_mid, post_of}
use lib.Seq.{take-add, take-append-le}
use Rattle.std.proofs.Common.{◌≡◌, ℕ, ◌+◌, ◌-◌, ◌≤◌, List, ◌++◌, length, take, drop, sym, ap, ◌∙◌, drop_at, le_refl}
use Rattle.std.proofs.lemmas.List.{length-take-le}
use Rattle.std.proofs.lemmas.Slice.{take-put_mid_below}

-- the filled front, and the bytes of a read behind it
pub filled_more : (at n : ℕ) (buf part : List ℕ) → at ≤ length buf → n ≤ length part →
    take at buf ++ take n part ≡ take (at + n) (put_mid at (length buf - at) buf part)
filled_more at n buf part within fits =
    let m = put_mid at (length buf - at) buf part in
    let front : take at m ≡ take at buf = take-put_mid_below _ _ _ _ _ (le_refl _) within in
    let after = post_of at (length buf - at) buf in
    let back : take n (drop at m) ≡ take n part =
    ap (take n) (drop_at (take at buf) (part ++ after) at (length-take-le at buf within)) ∙ take-append-le n part after fits in
    ap (λ l. l ++ take n part) (sym front) ∙ ap (λ l. take at m ++ l) (sym back) ∙ sym (take-add at n m)
