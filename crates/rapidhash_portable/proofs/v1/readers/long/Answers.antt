use Rattle.std.proofs.Common.{false, length, arith, length-take-le}
use Rattle.rapidhash_portable.proofs.FormLemmas.{shape_of-v1-some}
use Rattle.rapidhash_portable.proofs.ReadingLemmas.{last_16-front}
use Rattle.rapidhash_portable.proofs.v1.readers.long.Goals as goal

pub returns : goal.returns
returns g c =
    let f = c.in_ok-lanes.ensures.ok in
    let size = f.count in
    let last = length-take-le c.in_ok-lanes.n c.fold_front.new.buffer c.in_ok-lanes.ensures.last.1 in
    let rows = c.join_wide-joined.ensures f.bytes _ f.prefix in
    let shape = shape_of-v1-some false (length f.bytes) (omega arith) in
    let words = last_16-front f (omega (arith, last, c.in_ok-lanes.ensures.last.0)) in
    let value = c.close_tail.ensures false c.args.seed f.bytes (omega arith) size words (record { joined = cc (rows.joined, shape, size); rest = cc (rows.rest, shape) }) in
    record { ok = record { bytes = f.bytes; taken = f.taken; count = size; value = value }; short = tt }
