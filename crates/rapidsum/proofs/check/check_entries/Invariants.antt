use Rattle.std.proofs.Common.{◌≡◌, take}
use Rattle.std.specs.List.{list_all}
use Rattle.rapidsum.specs.Check.{EachIsRight, passes}
use Rattle.rapidsum.proofs.check.check_entries.Given as goal

abbrev pub invariant-loop-entry : goal.invariant-loop-entry
invariant-loop-entry g l = record {
  right : EachIsRight l.ignore_missing l.given (g.S.Store.told l.store) (take l.entry-index l.entries) l.verdicts.items;
  passed : l.passed ≡ list_all passes l.verdicts.items;
}
