use Rattle.std.proofs.Common.{◌+◌, ◌≤◌, ℕ, List, length, not, nat_eq}
use Rattle.rapidhash_portable.specs.Folded.{Running}
use Rattle.rapidhash_portable.proofs.v3.stream.folded.Folded.fold_chunks.Given as goal

abbrev pub invariant-loop-rest : goal.invariant-loop-rest
invariant-loop-rest g l = record {
  on : (x : List ℕ) (seed earlier : ℕ) → Running (not (nat_eq g.row.PROTECTED 0)) l.secrets x g.row.LANES seed l.fn.self.lanes (earlier + l.fn.self.count.steps) l.bytes →
      Running (not (nat_eq g.row.PROTECTED 0)) l.secrets x g.row.LANES seed l.self.lanes (earlier + l.self.count.steps) l.rest;
  fewer : length l.rest ≤ length l.bytes;
}

abbrev pub decreases-loop-rest : goal.decreases-loop-rest
decreases-loop-rest g l = length l.rest
