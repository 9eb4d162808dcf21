use Rattle.std.proofs.Common.{◌≡◌, take}
use Rattle.rapidhash_portable.specs.Lanes.{joined}
use Rattle.rapidhash_portable.proofs.lanes.join.Given as goal

abbrev pub invariant-loop-i : goal.invariant-loop-i
invariant-loop-i g l = l.all ≡ joined (take l.i l.lanes)
