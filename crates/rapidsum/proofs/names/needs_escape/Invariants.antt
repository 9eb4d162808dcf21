use Rattle.std.proofs.Common.{◌≡◌, drop}
use Rattle.rapidsum.specs.Line.{needs_escape}
use Rattle.rapidsum.proofs.names.needs_escape.Given as goal

abbrev pub invariant-loop-byte : goal.invariant-loop-byte
invariant-loop-byte l = needs_escape (drop l.byte-index l.name) ≡ needs_escape l.name
