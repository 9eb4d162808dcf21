use Rattle.std.proofs.Common.{ℕ, List, length, not, nat_eq}
use Rattle.rapidhash_portable.specs.Folded.{PrefixIsFolded}
use Rattle.rapidhash_portable.proofs.lanes.fold_rows.Given as goal

abbrev pub invariant-loop-rest : goal.invariant-loop-rest
invariant-loop-rest g l = record {
  on : (x starts : List ℕ) → PrefixIsFolded (not (nat_eq g.row.PROTECTED 0)) l.secrets x g.row.WIDTH g.row.LEAST starts l.fn.lanes l.bytes →
      PrefixIsFolded (not (nat_eq g.row.PROTECTED 0)) l.secrets x g.row.WIDTH g.row.LEAST starts l.lanes l.rest;
}

abbrev pub decreases-loop-rest : goal.decreases-loop-rest
decreases-loop-rest g l = length l.rest

abbrev pub invariant-loop-rest-2 : goal.invariant-loop-rest-2
invariant-loop-rest-2 g l = record {
  on : (x starts : List ℕ) → PrefixIsFolded (not (nat_eq g.row.PROTECTED 0)) l.secrets x g.row.WIDTH g.row.LEAST starts l.fn.lanes l.bytes →
      PrefixIsFolded (not (nat_eq g.row.PROTECTED 0)) l.secrets x g.row.WIDTH g.row.LEAST starts l.lanes l.rest;
}

abbrev pub decreases-loop-rest-2 : goal.decreases-loop-rest-2
decreases-loop-rest-2 g l = length l.rest
