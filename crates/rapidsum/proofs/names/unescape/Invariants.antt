use Rattle.std.proofs.Common.{◌≡◌, [], false, drop}
use Rattle.rapidsum.specs.Line.{unescape_from}
use Rattle.rapidsum.proofs.names.unescape.Given as goal

abbrev pub invariant-loop-byte : goal.invariant-loop-byte
invariant-loop-byte g l = unescape_from l.name.items l.pending (drop l.byte-index l.text) ≡ unescape_from [] false l.text
