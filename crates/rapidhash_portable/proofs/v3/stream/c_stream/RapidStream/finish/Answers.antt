use Rattle.std.proofs.Common.{◌≡◌, arith}
use Rattle.rapidhash_portable.proofs.v3.stream.c_stream.RapidStream.finish.Goals as goal

pub returns-in-7 : goal.returns-in-7
returns-in-7 c = λ earlier x h. rw c.in-7.is (c.finish.ensures earlier x (rw c.in-7.is at h))

pub returns-in-5 : goal.returns-in-5
returns-in-5 c = λ earlier x h. rw c.in-5.is (c.finish-in-5.ensures earlier x (rw c.in-5.is at h))

pub returns-in_default : goal.returns-in_default
returns-in_default c = λ earlier x h.
    let three : c.args.self.now.lanes ≡ 3 = omega (arith, c.args.self.now.count.least, c.args.self.now.count.most, c.args.self.now.count.odd, c.in_default) in
    rw three (c.finish-in_default.ensures earlier x (rw three at h))
