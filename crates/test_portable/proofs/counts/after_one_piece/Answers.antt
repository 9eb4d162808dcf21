use Rattle.std.proofs.Common.{[], zero-add}
use Rattle.test_portable.proofs.counts.after_one_piece.Goals as goal

pub returns : goal.returns
returns g c =
    let represents = c.write.ensures.adds 0 [] c.new-hasher.ensures.empty in
    record { represents = represents; steps = rw zero-add at (c.write.ensures.count 0 _ represents) }
