use Rattle.std.proofs.Common.{arith}
use Rattle.rapidhash_portable.proofs.FoldedLemmas.{PrefixIsFolded-none}
use Rattle.rapidhash_portable.proofs.lanes.mixed_lanes.Goals as goal

pub returns : goal.returns
returns g c = c.join_mixed.ensures c.args.bytes.now c.args.seed (PrefixIsFolded-none (omega arith))
