use Rattle.std.proofs.Common.{map, vec_items}
use Rattle.rapidsum.proofs.Meaning.{Leads, size}
use Rattle.rapidsum.specs.Options.{values_of}
use Rattle.rapidsum.proofs.parse.read.Given as goal

-- what is left means what all words mean
abbrev pub invariant-loop-place : goal.invariant-loop-place
invariant-loop-place g l =
    Leads l.rows (map vec_items l.words) (values_of l.options) (map (λ file. file.now) l.files.items) l.letters (map vec_items l.left)

abbrev pub decreases-loop-place : goal.decreases-loop-place
decreases-loop-place g l = size l.letters (map vec_items l.left)
