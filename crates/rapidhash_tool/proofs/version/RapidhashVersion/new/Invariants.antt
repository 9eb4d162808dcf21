use Rattle.std.proofs.Common.{◌≡◌, map, string_bytes, take}
use Rattle.rapidhash_tool.specs.CommandLine.{named}
use Rattle.rapidhash_tool.proofs.Versions.{list_of}
use Rattle.rapidhash_tool.proofs.version.RapidhashVersion.new.Given as goal

-- the versions before this one of which the arguments name one
abbrev pub invariant-loop-version : goal.invariant-loop-version
invariant-loop-version l = named (map string_bytes l.args) (take l.version-index l.version-items) ≡ list_of l.chosen
