use Rattle.std.proofs.Common.{◌≡◌, arith}
use Rattle.rapidhash_portable.proofs.v3.stream.c_stream.RapidStream.write.Goals as goal

pub returns-in-7-clause-adds : goal.returns-in-7-clause-adds
returns-in-7-clause-adds c = λ earlier x h. rw c.in-7.is (c.write.ensures.adds earlier x (rw c.in-7.is at h))

pub returns-in-5-clause-adds : goal.returns-in-5-clause-adds
returns-in-5-clause-adds c = λ earlier x h. rw c.in-5.is (c.write-in-5.ensures.adds earlier x (rw c.in-5.is at h))

pub returns-in_default-clause-adds : goal.returns-in_default-clause-adds
returns-in_default-clause-adds c = λ earlier x h.
    let three : c.args.self.now.lanes ≡ 3 = omega (arith, c.args.self.now.count.least, c.args.self.now.count.most, c.args.self.now.count.odd, c.in_default) in
    rw three (c.write-in_default.ensures.adds earlier x (rw three at h))
