use Rattle.std.proofs.Common.{◌≡◌, ◌+◌, ◌*◌, ◌≤◌, ◌<◌, ℕ, length, get_or, not, nat_eq}
use Rattle.rapidhash_portable.specs.Lanes.{pair_at, step}
use Rattle.rapidhash_portable.proofs.lanes.fold_two_rows_by_lane.Given as goal

abbrev pub invariant-loop-i : goal.invariant-loop-i
invariant-loop-i g l = record {
  whole : length l.lanes ≡ g.row.LANES;
  done : (k : ℕ) → k < l.i → get_or l.lanes k 0
      ≡ step (not (nat_eq g.row.PROTECTED 0)) (get_or l.secrets k 0)
      (step (not (nat_eq g.row.PROTECTED 0)) (get_or l.secrets k 0) (get_or l.fn.lanes k 0) (pair_at l.rows (16 * k)))
      (pair_at l.rows (16 * (g.row.WIDTH + k)));
  ahead : (k : ℕ) → l.i ≤ k → get_or l.lanes k 0 ≡ get_or l.fn.lanes k 0;
}
