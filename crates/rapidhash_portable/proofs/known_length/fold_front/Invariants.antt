use Rattle.std.proofs.Common.{◌≡◌, ◌-◌, ◌≤◌, [], length, not, nat_eq}
use Rattle.rapidhash_portable.specs.Reading.{FrontIsFolded}
use Rattle.rapidhash_portable.proofs.known_length.fold_front.Given as goal

abbrev pub invariant-loop-left : goal.invariant-loop-left
invariant-loop-left g l = record {
  room : length l.buffer ≡ length l.fn.buffer;
  some : 16 ≤ l.left;
  most : l.left ≤ l.len;
  front : FrontIsFolded (not (nat_eq g.row.PROTECTED 0)) l.secrets (g.R.Read.remaining l.fn.reader) (g.R.Read.remaining l.reader) (l.len - l.left) g.row.LANES l.seed l.lanes [];
}

abbrev pub decreases-loop-left : goal.decreases-loop-left
decreases-loop-left g l = l.left
