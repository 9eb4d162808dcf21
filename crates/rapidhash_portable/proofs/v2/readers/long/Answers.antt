use Rattle.std.proofs.Common.{◌<◌, length, arith, length-take-le}
use Rattle.rapidhash_portable.specs.declared.form.Form.TheVariants.{V2}
use Rattle.rapidhash_portable.specs.Form.{longest_rowless}
use Rattle.rapidhash_portable.proofs.Cases.{tests}
use Rattle.rapidhash_portable.proofs.FormLemmas.{shape_of-v2-some}
use Rattle.rapidhash_portable.proofs.ReadingLemmas.{last_16-front}
use Rattle.rapidhash_portable.proofs.v2.readers.long.Goals as goal

pub returns : goal.returns
returns g c =
    let f = c.in_ok-lanes.ensures.ok in
    let size = f.count in
    let last = length-take-le c.in_ok-lanes.n c.fold_front.new.buffer c.in_ok-lanes.ensures.last.1 in
    let rows = c.join_mixed-joined.ensures f.bytes _ f.prefix in
    let above : longest_rowless (V2 g.row.MINOR) < length f.bytes = grind (arith, tests) in
    let shape = shape_of-v2-some g.row.MINOR (length f.bytes) above in
    let words = last_16-front f (omega (arith, last, c.in_ok-lanes.ensures.last.0)) in
    let value = c.close_tail.ensures g.row.MINOR c.args.seed f.bytes above size words (record { joined = cc (rows.joined, shape, size); rest = cc (rows.rest, shape) }) in
    record { ok = record { bytes = f.bytes; taken = f.taken; count = size; value = value }; short = tt }
