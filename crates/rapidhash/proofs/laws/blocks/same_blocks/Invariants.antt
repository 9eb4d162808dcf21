use Rattle.std.proofs.Common.{◌≡◌, take}
use Rattle.rapidhash.proofs.laws.blocks.same_blocks.Given as goal

abbrev pub invariant-loop-i : goal.invariant-loop-i
invariant-loop-i l = take l.i l.x ≡ take l.i l.y
