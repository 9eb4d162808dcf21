use Rattle.std.proofs.Common.{◌-◌, ◌≤◌, length}
use Rattle.example_perfect.proofs.displace.groups.Given as goal

abbrev pub invariant-loop-start : goal.invariant-loop-start
invariant-loop-start l = l.start ≤ length l.members

abbrev pub decreases-loop-start : goal.decreases-loop-start
decreases-loop-start l = length l.members - l.start
