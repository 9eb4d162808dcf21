use Rattle.example_bloom.specs.Filter.{KeepsAll}
use Rattle.example_bloom.proofs.lookup.insert_lines.Given as goal

abbrev pub invariant-loop-line : goal.invariant-loop-line
invariant-loop-line l =
    (goal.iterator-loop-line).can_next l.line-iterator ×
    (goal.iterator-loop-line).is_finite l.line-iterator ×
    KeepsAll l.initial.filter l.filter
