use Rattle.std.proofs.Common.{◌≡◌, [], length, List}
use Rattle.rapidsum.proofs.Lists.{IsReadTo}
use Rattle.rapidsum.specs.List.{AllFit, Printed, list_of}
use Rattle.rapidsum.proofs.list.read_list.Given as goal

abbrev pub invariant-loop-rest : goal.invariant-loop-rest
invariant-loop-rest l = (lines : List Printed) → AllFit lines → l.text ≡ list_of lines
    → (l.list.malformed.items ≡ []) × IsReadTo l.list.entries.items l.rest lines

abbrev pub decreases-loop-rest : goal.decreases-loop-rest
decreases-loop-rest l = length l.rest
