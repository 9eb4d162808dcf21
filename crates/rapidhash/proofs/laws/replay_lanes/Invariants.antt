use Rattle.std.proofs.Common.{◌≡◌, ◌++◌, ℕ, List, not, nat_eq, drop}
use Rattle.rapidhash_portable.specs.Form.{options}
use Rattle.rapidhash_portable.specs.Stream.{StreamRepresents, secrets_of_stream}
use Rattle.rapidhash.specs.Replay.{finishes, finishes_from}
use Rattle.rapidhash.proofs.laws.replay_lanes.Given as goal

abbrev pub invariant-loop-op : goal.invariant-loop-op
invariant-loop-op g l =
    let protected = not (nat_eq g.row.PROTECTED 0) in
    let chosen = options (not (nat_eq g.row.AVALANCHE 0)) protected in
    record {
      kept : secrets_of_stream l.hasher ≡ l.secrets;
      message : (x : List ℕ) × StreamRepresents protected l.hasher x
          × (finishes g.row.LANES chosen l.secrets l.ops
          ≡ l.answers.items ++ finishes_from g.row.LANES chosen l.secrets x (drop l.op-index l.ops));
    }
