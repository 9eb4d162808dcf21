use Rattle.std.proofs.Common.{◌≡◌, ◌⊎◌, ℕ, length}
use Rattle.example_bloom.specs.Filter.{HasBit, HasMarks, IsMark}
use Rattle.example_bloom.proofs.filter.mark.Given as goal

abbrev pub invariant-loop-i : goal.invariant-loop-i
invariant-loop-i l = record {
  added : HasMarks l.words l.i l.hash;
  kept : (step : ℕ) → HasBit l.initial.words step → HasBit l.words step;
  only : (step : ℕ) → HasBit l.words step → HasBit l.initial.words step ⊎ IsMark (length l.initial.words) l.i l.hash step;
  same : length l.words ≡ length l.initial.words;
}
