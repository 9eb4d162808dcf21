use Rattle.std.proofs.Common.{[], zero-add, ◌∙◌, ap}
use Rattle.std.proofs.lemmas.List.{length-append}
use Rattle.rapidhash_portable.specs.Stream.{chunk_count}
use Rattle.test_portable.proofs.counts.after_two_pieces.Goals as goal

pub returns : goal.returns
returns g c =
    let one = c.write.ensures.adds 0 [] c.new-hasher.ensures.empty in
    let represents = c.write-2.ensures.adds 0 _ one in
    let both = length-append c.args.first.now c.args.second.now in
    record { represents = represents; steps = (rw zero-add at (c.write-2.ensures.count 0 _ represents)) ∙ ap (chunk_count g.row.LANES) both }
