use Rattle.std.proofs.Common.{◌≡◌, ◌-◌, ◌*◌, ◌++◌, length, take, drop, sym, ◌∙◌, arith, length-take-le}
use Rattle.std.proofs.lemmas.List.{take-append-le, take_all}
use Rattle.std.proofs.lemmas.Result.{err_from_is_err_and}
use Rattle.rapidhash_portable.specs.Lanes.{rows_in}
use Rattle.rapidhash_portable.proofs.FoldedLemmas.{PrefixIsFolded-append}
use Rattle.rapidhash_portable.proofs.ListLemmas.{refilled_room}
use Rattle.rapidhash_portable.proofs.ReadingLemmas.{FellShort-front, FrontIsFolded-last, FrontIsFolded-more}
use Rattle.rapidhash_portable.proofs.known_length.fold_front.Goals as goal

pub returns-in_err-fill-clause-short : goal.returns-in_err-fill-clause-short
returns-in_err-fill-clause-short g c =
    let cut = length-take-le (length c.args.buffer.now - 16) c.loop-left.buffer (omega arith) in
    let p = err_from_is_err_and c.from_residual.result c.from_residual.ensures.1 in
    rw (p.1, p.2) (FellShort-front c.loop-left.invariant.front c.in_err-fill.ensures.short (omega arith))

pub loop-left-preserved : goal.loop-left-preserved
loop-left-preserved g c =
    let inv = c.loop-left.invariant in
    let piece = c.fill.new.buf in
    let k = length c.args.buffer.now - 16 in
    let cut : length (take k c.loop-left.buffer) ≡ k = length-take-le k c.loop-left.buffer (omega arith) in
    let size : length piece ≡ length c.args.buffer.now - 16 = omega arith in
    let rows : length piece ≡ 16 * (g.row.LANES * rows_in g.row.LANES 0 (length piece)) = rw size (sym c.requires.whole_rows) in
    let on = c.fold_rows.ensures.on _ _ (PrefixIsFolded-append inv.front.prefix piece) in
    record {
      room = refilled_room piece c.loop-left.buffer (length c.args.buffer.now - 16) size (omega arith) ∙ inv.room;
      some = omega arith;
      most = omega arith;
      front =
          FrontIsFolded-more inv.front _ piece c.fold_rows.new.lanes _ (rows_in g.row.LANES 0 (length piece)) _ c.in_ok-fill.ensures.ok rows
          (omega arith) (omega (arith, c.fold_rows.ensures.all)) on;
    }

pub returns-in_err-fill-2-clause-short : goal.returns-in_err-fill-2-clause-short
returns-in_err-fill-2-clause-short g c =
    let cut = length-take-le c.loop-left.left c.loop-left.buffer (omega arith) in
    let p = err_from_is_err_and c.from_residual-in_err-fill-2.result c.from_residual-in_err-fill-2.ensures.1 in
    rw (p.1, p.2) (FellShort-front c.loop-left.invariant.front c.in_err-fill-2.ensures.short (omega arith))

pub returns-clause-ok : goal.returns-clause-ok
returns-clause-ok g c =
    let inv = c.loop-left.invariant in
    let n = c.loop-left.left in
    let room = inv.room in
    let buf = c.fill-2.new.buf in
    let cut : length (take n c.loop-left.buffer) ≡ n = length-take-le n c.loop-left.buffer (omega arith) in
    let size : length buf ≡ n = omega arith in
    let whole : take n (buf ++ drop n c.loop-left.buffer) ≡ buf = take-append-le n buf (drop n c.loop-left.buffer) (omega arith) ∙ take_all n buf (omega arith) in
    rw whole (FrontIsFolded-last inv.front _ buf _ (c.in_ok-fill-2.ensures.ok) (omega arith))
