use Rattle.std.proofs.Common.{◌≡◌, drop}
use Rattle.std.specs.List.{find}
use Rattle.rapidsum.specs.Line.{is_tagged, version_tagged}
use Rattle.rapidsum.proofs.tag.version_tagged.Given as goal

-- the versions that are left decide
abbrev pub invariant-loop-version : goal.invariant-loop-version
invariant-loop-version l = version_tagged l.text ≡ find (is_tagged l.text) (drop l.version-index l.version-items)
