use Rattle.std.proofs.Common.{◌≡◌, ◌+◌, ◌-◌, ◌*◌, ◌++◌, ℕ, List, length, replicate, take, flat_map}
use Rattle.rapidhash_portable.specs.Saved.{saved_lane}
use Rattle.rapidhash_portable.proofs.v3.stream.saved.put_lanes.Given as goal

abbrev pub invariant-loop-lane : goal.invariant-loop-lane
invariant-loop-lane l = record {
  at : l.at ≡ l.from + 8 * l.lane-index;
  size : length l.out ≡ length l.fn.out;
  put : (front : List ℕ) (zeros : ℕ) → l.from ≡ length front → l.fn.out ≡ front ++ replicate zeros 0 →
      (l.at ≡ length (front ++ flat_map (saved_lane l.seed) (take l.lane-index l.lanes)))
      × (l.out ≡ (front ++ flat_map (saved_lane l.seed) (take l.lane-index l.lanes)) ++ replicate (zeros - 8 * l.lane-index) 0);
}
