use Rattle.std.proofs.Common.{rules, ◌≡◌, ◌<◌, ◌≤◌, ℕ, ◌+◌, ◌*◌, ◌++◌, List, length, ◌-◌, take, drop, true, refl, ap, ◌∙◌, arith, length-append}
use borrow.Rule.Slice.PartMut.{put_mid}
use Rattle.std.proofs.lemmas.List.{take_rest}
use Rattle.std.proofs.lemmas.Slice.{overwrites}
use Rattle.rapidhash_portable.specs.Stream.{folded_bytes}
use Rattle.rapidhash_portable.proofs.FoldedLemmas.{PrefixIsFolded-left}
use Rattle.rapidhash_portable.proofs.ListLemmas.{before-chunk, before-piece}
use Rattle.rapidhash_portable.proofs.StreamLemmas.{PartsRepresent-rest, Running-filled, buffered-append, filled_chunk, length-buffered}
use Rattle.rapidhash_portable.proofs.v3.stream.parts.Parts.write_past.Goals as goal
use Rattle.rapidhash_portable.proofs.v3.stream.parts.Parts.write_past.Goals.{then-end-ge16, else-end-ge16}

pub returns-clause-adds : goal.returns-clause-adds
returns-clause-adds g c = λ earlier x h.
    let s = c.args.self.now in
    let d = c.args.piece.now in
    let sixteen : length c.if-end-ge16.carried ≡ 16 = omega arith in
    let size : ℕ = 16 * g.row.LANES in
    let room : ℕ = size - s.len in
    let j : ℕ = 16 + size - (16 + s.len) in
    let kept : List ℕ = put_mid (16 + s.len) j s.kept c.copy_from_slice.new.self in
    let width : 16 + size - 16 ≡ size = omega arith in
    let is : take (16 + size - 16) (drop 16 kept) ≡ take size (drop 16 kept) = ap (λ (k : ℕ). take k (drop 16 kept)) width in
    let after : kept ≡ put_mid (16 + s.len) j s.kept (take room d) = ap (λ (l : List ℕ). put_mid (16 + s.len) j s.kept l) c.copy_from_slice.ensures.after in
    let filled = Running-filled c.requires.lanes h (omega arith) c.requires.fits d kept _ _ j _ c.requires.past after is c.step.ensures.folded c.step.ensures.one in
    let running = c.fold_chunks-rest.ensures.on (x ++ d) s.secrets.now.seed earlier (rw (← take_rest d room) at filled) in
    let tail : List ℕ = c.fold_chunks-rest.result.now in
    let end : ℕ = length d - length tail in
    let left = PrefixIsFolded-left running.prefix in
    let whole = length-buffered c.requires.lanes h (omega arith) c.requires.fits in
    let total = length-append x d in
    let fewer : length tail ≤ length d - room = omega (arith, c.fold_chunks-rest.ensures.fewer) in
    let edge : length (x ++ d) - length tail ≡ length x + end = omega (arith, total, fewer) in
    let carried : c.if-end-ge16.carried ≡ take 16 (drop (length (x ++ d) - length tail - 16) (x ++ d)) = elim c.if-end-ge16.branch [
      | then-end-ge16 w ↦ w.carried-is ∙ w.sixteen-carried.ensures ∙ before-piece x d (length (x ++ d) - length tail) end edge w.if-end-ge16.true
      | else-end-ge16 w ↦ (
          let few = w.if-end-ge16.false in
          let at : folded_bytes g.row.LANES (length x) + size ≡ length (x ++ d) - length tail = omega (arith, left, whole, edge, fewer, few) in
          let first = filled_chunk c.requires.lanes h (omega arith) c.requires.fits d kept j c.requires.past after in
          w.carried-is ∙ w.sixteen-carried-else-end-ge16.ensures ∙ before-chunk size kept (x ++ d) (folded_bytes g.row.LANES (length x)) (omega arith)
          (first ∙ ap (λ (l : List ℕ). take size l) (buffered-append c.requires.lanes h (omega arith) c.requires.fits d))
          ∙ ap (λ (k : ℕ). take 16 (drop (k - 16) (x ++ d))) at
          )
    ] in
    let less : length tail < length (x ++ d) = omega (arith, total, fewer, whole) in
    let kept' : List ℕ = put_mid 0 16 kept c.copy_from_slice-2.new.self in
    let ec : kept' ≡ put_mid 0 16 kept c.if-end-ge16.carried = ap (λ (l : List ℕ). put_mid 0 16 kept l) c.copy_from_slice-2.ensures.after in
    let et : put_mid 16 (16 + length tail - 16) kept' c.copy_from_slice-3.new.self ≡ put_mid 16 (16 + length tail - 16) kept' tail = ap (λ (l : List ℕ). put_mid 16 (16 + length tail - 16) kept' l) c.copy_from_slice-3.ensures.after in
    let lk : length kept ≡ 128 = search (rules, overwrites) in
    let lk' : length kept' ≡ 128 = search (rules, overwrites) in
    PartsRepresent-rest _ (record s { folded = _; any = true; kept = kept }) (x ++ d) c.if-end-ge16.carried tail kept' _ 16 (16 + length tail - 16) c.requires.lanes running c.fold_chunks-rest.ensures.all less refl lk sixteen carried ec lk' et
