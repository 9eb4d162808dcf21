use Rattle.std.proofs.Common.{◌≡◌, ◌++◌, drop, map}
use Rattle.std.specs.Char.{to_ascii_uppercase}
use Rattle.rapidsum.specs.Line.{version_text}
use Rattle.rapidsum.proofs.line.push_version.Given as goal

abbrev pub invariant-loop-byte : goal.invariant-loop-byte
invariant-loop-byte g l = l.text.items ++ map to_ascii_uppercase (drop l.byte-index l.byte-items) ≡ l.fn.text.items ++ version_text l.fn.version
