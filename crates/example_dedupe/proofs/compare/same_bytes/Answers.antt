use Rattle.example_dedupe.proofs.Fronts.{behind_front, longer_front}
use Rattle.example_dedupe.proofs.compare.same_bytes.Goals as goal

pub returns-in-Some : goal.returns-in-Some
returns-in-Some g c = behind_front _ _ _ _ c.in-Some.same c.loop.invariant (rw c.in-Some.is at c.in_ok-same.ensures.decided)

pub loop-preserved : goal.loop-preserved
loop-preserved g c = longer_front _ _ _ _ _ _ c.loop.invariant (rw c.in_default.is at c.in_ok-same.ensures.more)
