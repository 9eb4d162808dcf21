use Rattle.std.proofs.Common.{◌≡◌, ◌<◌, ℕ, length, slice_index}
use Rattle.rapidhash_portable.proofs.v3.stream.saved.counted.Given as goal

abbrev pub invariant-loop-i : goal.invariant-loop-i
invariant-loop-i l = record {
  size : length l.bytes ≡ 240;
  counted : (k : ℕ) → k < l.i → slice_index l.bytes k ≡ k;
}
