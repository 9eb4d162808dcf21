use Rattle.std.proofs.Common.{◌≡◌, ◌<◌, ◌≤◌, ℕ, slice_index}
use Rattle.std.specs.Int.RustNames.{bit_or}
use Rattle.example_bloom.specs.Filter.{HasSameShape}
use Rattle.example_bloom.proofs.filter.Filter.unite.Given as goal

abbrev pub invariant-loop-i : goal.invariant-loop-i
invariant-loop-i l = record {
  shape : HasSameShape l.initial.self l.self;
  joined : (k : ℕ) → k < l.i → slice_index l.self.words.items k ≡ bit_or (slice_index l.initial.self.words.items k) (slice_index l.other.words.items k);
  others : (k : ℕ) → l.i ≤ k → slice_index l.self.words.items k ≡ slice_index l.initial.self.words.items k;
}
