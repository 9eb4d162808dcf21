use Rattle.std.proofs.Common.{◌≡◌, drop}
use Rattle.std.specs.List.{find}
use Rattle.rapidsum.specs.Algorithm.{is_version, version_named}
use Rattle.rapidsum.proofs.algorithm.version_named.Given as goal

-- the versions that are left decide
abbrev pub invariant-loop-version : goal.invariant-loop-version
invariant-loop-version l = version_named l.name ≡ find (is_version l.name) (drop l.version-index l.version-items)
