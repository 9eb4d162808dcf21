-- How the data of a stream hasher follow a message: none of it, a piece that fits, a piece that does not, and the end.
use borrow.Rule.Slice.PartMut.{put_mid}
use Rattle.std.proofs.Common.{◌≡◌, ℕ, zero, suc, ◌+◌, ◌-◌, ◌*◌, ◌/◌, ◌<◌, ◌≤◌, Bool, true, false, List, [], ◌++◌, length, take, drop, replicate, refl, sym, ap, ◌∙◌, arith, length-append, length-drop, zero-add}
use Rattle.std.proofs.Math.Nat.{zero-div}
use Rattle.std.proofs.Math.Seq.{take-add, take-append-add}
use Rattle.std.proofs.lemmas.Bool.{lt-ltb, ltb-true}
use Rattle.std.proofs.lemmas.List.{drop-append-le, drop-drop, length-take-le, take-append-drop}
use Rattle.std.proofs.lemmas.Nat.{div-mul-add}
use Rattle.std.proofs.lemmas.Slice.{take-put_mid}
use Rattle.rapidhash_portable.specs.declared.form.Form.TheVariants.{V3}
use Rattle.rapidhash_portable.specs.declared.v3.stream.parts.Parts.{Parts}
use Rattle.rapidhash_portable.specs.Folded.{AfterRows, HaveFolded, PrefixIsFolded, Running}
use Rattle.rapidhash_portable.specs.Form.{shape_of}
use Rattle.rapidhash_portable.specs.Lanes.{IsLaneCount, joined}
use Rattle.rapidhash_portable.specs.Stream.{PartsRepresent, chunk_count, folded_bytes}
use Rattle.rapidhash_portable.specs.Words.{last_16}
use Rattle.rapidhash_portable.proofs.BytesLemmas.{word64-drop}
use Rattle.rapidhash_portable.proofs.FoldedLemmas.{AfterRows-wide, HaveFolded-append, HaveFolded-none, HaveFolded-take, PrefixIsFolded-all, PrefixIsFolded-left, PrefixIsFolded-more}
use Rattle.rapidhash_portable.proofs.ListLemmas.{before-append, buffered-more, carried-same, drop-behind}

-- ---- how many chunks there are

-- they end before the last byte
pub chunk_count-low : (lanes n : ℕ) → 0 < lanes → folded_bytes lanes n ≤ n - 1
chunk_count-low lanes n some =
    let c : ℕ = 16 * lanes in
    let whole : c * ((n - 1) / c) ≤ n - 1 = omega arith in
    omega (arith, whole)

-- further bytes that end in the same chunk
pub chunk_count-same : (lanes n m : ℕ) → 0 < lanes → n ≤ m → m ≤ folded_bytes lanes n + 16 * lanes → chunk_count lanes m ≡ chunk_count lanes n
chunk_count-same lanes n m some more top =
    let k : ℕ = chunk_count lanes n in
    let low = chunk_count-low lanes n some in
    let split : m - 1 ≡ k * (16 * lanes) + (m - 1 - k * (16 * lanes)) = omega arith in
    ap (λ b. b / (16 * lanes)) split ∙ div-mul-add k (16 * lanes) (m - 1 - k * (16 * lanes)) (omega arith)

-- some rows, where not all bytes are left
some_rows : (lanes rows left n : ℕ) → 16 * (lanes * rows) + left ≡ n → left < n → 0 < rows
some_rows lanes zero left n e less = absurd (omega arith)
some_rows lanes (suc rows) left n e less = omega arith

-- and those are a chunk or more
pub mul_some : (lanes rows : ℕ) → 0 < rows → lanes ≤ lanes * rows
mul_some lanes zero some = absurd (omega arith)
mul_some lanes (suc rows) some = omega arith

-- ---- a message

-- no bytes
pub PartsRepresent-none : (protected : Bool) (lanes : ℕ) (s : Parts) → s.folded.lanes ≡ replicate 7 s.secrets.now.seed →
    s.folded.count.steps ≡ 0 → s.any ≡ false → s.len ≡ 0 → PartsRepresent protected lanes 0 s []
PartsRepresent-none protected lanes s held steps any len =
    let none : chunk_count lanes 0 ≡ 0 = zero-div (16 * lanes) in
    let z : 16 * (lanes * 0) ≡ 0 = omega arith in
    record {
      folded = rw (none, held) HaveFolded-none;
      steps = omega (arith, none, steps);
      any = rw none any;
      buffered = rw (len, none, z) refl;
      carried = λ some. absurd (omega (arith, none));
    }

-- ---- amid a piece

-- `more` chunks of `n` bytes, at the head of the rest
pub Running-more : {protected : Bool} {secrets x : List ℕ} {lanes seed : ℕ} {held : List ℕ} {steps : ℕ} {rest : List ℕ} →
    Running protected secrets x lanes seed held steps rest → (held' rest' : List ℕ) (steps' more n : ℕ) →
    HaveFolded protected secrets rest lanes held held' more → steps' ≡ steps + more → n ≡ 16 * (lanes * more) → n < length rest →
    rest' ≡ drop n rest → Running protected secrets x lanes seed held' steps' rest'
unfolding PrefixIsFolded-more
Running-more r held' rest' steps' more n folded counted size room next = record {
  prefix = PrefixIsFolded-more r.prefix held' rest' more n folded size (omega arith) next;
  counted = counted ∙ ap (λ k. k + more) r.counted;
}

-- the bytes behind the last whole chunk are buffered
pub PartsRepresent-rest : (protected : Bool) {lanes earlier : ℕ} (s : Parts) (y carried tail kept' kept'' : List ℕ) (i j : ℕ) → IsLaneCount lanes →
    (r : Running protected s.secrets.now.secrets y lanes s.secrets.now.seed s.folded.lanes (earlier + s.folded.count.steps) tail) → length tail ≤ 16 * lanes → length tail < length y →
    s.any ≡ true → length s.kept ≡ 128 → length carried ≡ 16 → carried ≡ take 16 (drop (length y - length tail - 16) y) →
    kept' ≡ put_mid 0 i s.kept carried → length kept' ≡ 128 → kept'' ≡ put_mid 16 j kept' tail →
    PartsRepresent protected lanes earlier (record s { kept = kept''; len = length tail }) y
PartsRepresent-rest protected {lanes} {earlier} s y carried tail kept' kept'' i j count r few less flag size sixteen before e size' e' =
    let rows = PrefixIsFolded-all r.prefix (omega arith) in
    let left = PrefixIsFolded-left r.prefix in
    let some = some_rows lanes r.prefix.rows (length tail) (length y) left less in
    let edge : length y - length tail ≡ 16 * (lanes * r.prefix.rows) = omega arith in
    let front : take 16 kept' ≡ carried = rw e (take-put_mid 0 i s.kept carried 16 (omega arith) (omega arith)) in
    let more : take (0 + length tail) (drop 16 kept'') ≡ take 0 (drop 16 kept') ++ tail = buffered-more j 0 kept' tail kept'' (omega arith) e' in
    let whole : take (length tail) (drop 16 kept'') ≡ tail = rw zero-add at more in
    record {
      folded = rw rows r.prefix.lanes;
      steps = rw rows r.counted;
      any = rw rows (flag ∙ sym (lt-ltb 0 r.prefix.rows some));
      buffered = rw rows (whole ∙ r.prefix.rest_is);
      carried = rw rows (λ _. carried-same j 0 kept' tail kept'' (omega arith) e' ∙ front ∙ before ∙ ap (λ n. take 16 (drop (n - 16) y)) edge);
    }

-- ---- the data of a message

module _ {protected : Bool} {lanes earlier : ℕ} {s : Parts} {x : List ℕ}
    (count : IsLaneCount lanes) (h : PartsRepresent protected lanes earlier s x) (size : length s.kept ≡ 128) (fits : s.len ≤ 16 * lanes) where
  low : folded_bytes lanes (length x) ≤ length x - 1
  low = chunk_count-low lanes (length x) (omega arith)

  length-kept : length (take s.len (drop 16 s.kept)) ≡ s.len
  length-kept = length-take-le s.len (drop 16 s.kept) (omega (arith, length-drop 16 s.kept))

  -- the buffered bytes and the folded ones are all
  pub length-buffered : folded_bytes lanes (length x) + s.len ≡ length x
  length-buffered = omega (arith, low, length-drop (folded_bytes lanes (length x)) x, ap length h.buffered, length-kept)

  -- the buffered bytes and a piece follow the chunks
  pub buffered-append : (d : List ℕ) → take s.len (drop 16 s.kept) ++ d ≡ drop (folded_bytes lanes (length x)) (x ++ d)
  buffered-append d = ap (λ (l : List ℕ). l ++ d) h.buffered ∙ sym (drop-append-le (folded_bytes lanes (length x)) x d (omega (arith, low)))

  -- a piece that fits into the buffer
  pub PartsRepresent-fits : (d kept' : List ℕ) (j : ℕ) → s.len + length d ≤ 16 * lanes → kept' ≡ put_mid (16 + s.len) j s.kept d →
      PartsRepresent protected lanes earlier (record s { kept = kept'; len = s.len + length d }) (x ++ d)
  PartsRepresent-fits d kept' j room e =
      let whole = length-buffered in
      let edge = low in
      let same : chunk_count lanes (length (x ++ d)) ≡ chunk_count lanes (length x) =
      chunk_count-same lanes (length x) (length (x ++ d)) (omega arith) (omega (arith, length-append x d)) (omega (arith, length-append x d)) in
      let far = mul_some lanes (chunk_count lanes (length x)) in
      record {
        folded = rw same (HaveFolded-append h.folded d (omega arith));
        steps = rw same h.steps;
        any = rw same h.any;
        buffered = rw same (buffered-more j s.len s.kept d kept' (omega arith) e ∙ buffered-append d);
        carried = rw same (λ some. carried-same j s.len s.kept d kept' (omega arith) e ∙ h.carried some
            ∙ sym (before-append x d (folded_bytes lanes (length x)) (omega (arith, far some)) (omega arith)));
      }

  -- a piece that does not fit: the buffer, filled with the piece's first bytes, is the next chunk
  pub filled_chunk : (d kept' : List ℕ) (j : ℕ) → 16 * lanes - s.len < length d → kept' ≡ put_mid (16 + s.len) j s.kept (take (16 * lanes - s.len) d) →
      take (16 * lanes) (drop 16 kept') ≡ take (16 * lanes) (take s.len (drop 16 s.kept) ++ d)
  filled_chunk d kept' j enough e =
      let room : ℕ = 16 * lanes - s.len in
      let head : List ℕ = take room d in
      let old : List ℕ = take s.len (drop 16 s.kept) in
      let sized : length head ≡ room = length-take-le room d (omega arith) in
      let here : take (s.len + length head) (drop 16 kept') ≡ old ++ head = buffered-more j s.len s.kept head kept' (omega arith) e in
      let width : s.len + length head ≡ 16 * lanes = omega arith in
      let whole : length old + room ≡ 16 * lanes = omega (arith, length-kept) in
      let left : take (16 * lanes) (drop 16 kept') ≡ old ++ head = rw width at here in
      let right : take (16 * lanes) (old ++ d) ≡ old ++ head = rw whole at (take-append-add old d room) in
      left ∙ sym right

  -- once that chunk is folded
  pub Running-filled : (d kept' chunk held' : List ℕ) (j steps' : ℕ) → 16 * lanes - s.len < length d →
      kept' ≡ put_mid (16 + s.len) j s.kept (take (16 * lanes - s.len) d) → chunk ≡ take (16 * lanes) (drop 16 kept') →
      HaveFolded protected s.secrets.now.secrets chunk lanes s.folded.lanes held' 1 → steps' ≡ s.folded.count.steps + 1 →
      Running protected s.secrets.now.secrets (x ++ d) lanes s.secrets.now.seed held' (earlier + steps') (drop (16 * lanes - s.len) d)
  Running-filled d kept' chunk held' j steps' enough e is folded one =
      let old : List ℕ = take s.len (drop 16 s.kept) in
      let sized : length old ≡ s.len = length-kept in
      let edge = low in
      let more = length-append old d in
      let total = length-append x d in
      let whole = length-buffered in
      let start : Running protected s.secrets.now.secrets (x ++ d) lanes s.secrets.now.seed s.folded.lanes (earlier + s.folded.count.steps) (old ++ d) = record {
        prefix = record { rows = chunk_count lanes (length x); lanes = HaveFolded-append h.folded d (omega arith); rest_is = buffered-append d; left = omega arith };
        counted = h.steps;
      } in
      let head = HaveFolded-take (16 * lanes) (old ++ d) (rw (is ∙ filled_chunk d kept' j enough e) at folded) (omega arith) (omega arith) in
      Running-more start held' (drop (16 * lanes - s.len) d) (earlier + steps') 1 (16 * lanes) head (omega (arith, one)) (omega arith) (omega arith)
      (sym (drop-behind old d (16 * lanes) (16 * lanes - s.len) (omega arith)))

  -- with a chunk the message is longer than that
  pub chunk-below : s.any ≡ true → 16 * lanes < length x
  chunk-below on =
      let some = mul_some lanes (chunk_count lanes (length x)) (ltb-true 0 (chunk_count lanes (length x)) (sym h.any ∙ on)) in
      omega (arith, low)

  -- its rows are in the lanes, and its tail is buffered
  pub AfterRows-represents : s.any ≡ true → (all : ℕ) → all ≡ joined (take lanes s.folded.lanes) →
      AfterRows protected s.secrets.now.secrets x (shape_of (V3 lanes) (length x)) s.secrets.now.seed all (take s.len (drop 16 s.kept))
  unfolding shape_of
  AfterRows-represents on all is =
      let long = chunk-below on in
      let prefix : PrefixIsFolded protected s.secrets.now.secrets x lanes 1 (replicate 7 s.secrets.now.seed) s.folded.lanes (take s.len (drop 16 s.kept)) =
      record { rows = chunk_count lanes (length x); lanes = h.folded; rest_is = h.buffered; left = omega (arith, low) } in
      AfterRows-wide 7 s.secrets.now.seed all prefix count.most (omega (arith, length-kept)) is

  -- the kept bytes are its last ones
  pub last_16-kept : s.any ≡ true → last_16 (take (16 + s.len) s.kept) ≡ last_16 x
  last_16-kept on =
      let chunk = ltb-true 0 (chunk_count lanes (length x)) (sym h.any ∙ on) in
      let some = mul_some lanes (chunk_count lanes (length x)) chunk in
      let edge = low in
      let before = folded_bytes lanes (length x) - 16 in
      let at : before + 16 ≡ folded_bytes lanes (length x) = omega arith in
      let behind : drop (folded_bytes lanes (length x)) x ≡ drop 16 (drop before x) = ap (λ n. drop n x) (sym at) ∙ sym (drop-drop 16 before x) in
      let kept-end : take (16 + s.len) s.kept ≡ drop before x =
      take-add 16 s.len s.kept
      ∙ ap (λ l. l ++ take s.len (drop 16 s.kept)) (h.carried chunk)
      ∙ ap (λ l. take 16 (drop before x) ++ l) (h.buffered ∙ behind)
      ∙ take-append-drop 16 (drop before x) in
      let n = length-drop before x in
      let first : before + (length (drop before x) - 16) ≡ length x - 16 = omega arith in
      let second : before + (length (drop before x) - 8) ≡ length x - 8 = omega arith in
      ap last_16 kept-end ∙ cc (word64-drop x before (length (drop before x) - 16), word64-drop x before (length (drop before x) - 8), first, second)
