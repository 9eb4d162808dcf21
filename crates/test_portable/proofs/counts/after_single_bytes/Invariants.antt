use Rattle.std.proofs.Common.{false, take}
use Rattle.rapidhash_portable.specs.Stream.{StreamRepresents}
use Rattle.test_portable.proofs.counts.after_single_bytes.Given as goal

abbrev pub invariant-loop-at : goal.invariant-loop-at
invariant-loop-at g l = StreamRepresents false l.hasher (take l.at l.bytes)
