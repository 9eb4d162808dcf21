use Rattle.example_bloom.specs.Filter.{HasMarks}
use Rattle.example_bloom.proofs.filter.Filter.contains.Given as goal

abbrev pub invariant-loop-i : goal.invariant-loop-i
invariant-loop-i l = HasMarks l.self.words.items l.i l.hash
