use Rattle.std.proofs.Common.{◌≡◌, ◌++◌, drop}
use Rattle.rapidsum.specs.Line.{escaped}
use Rattle.rapidsum.proofs.names.push_escaped.Given as goal

abbrev pub invariant-loop-byte : goal.invariant-loop-byte
invariant-loop-byte g l = l.text.items ++ escaped (drop l.byte-index l.name) ≡ l.fn.text.items ++ escaped l.name
