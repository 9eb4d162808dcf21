use Rattle.std.proofs.Common.{rules}
use Rattle.rand_core.proofs.StepsLemmas.{meets_next_u64}
use Rattle.rapidhash.proofs.rng.RapidRngRng.next_u64.Goals as goal

pub returns-clause-stream : goal.returns-clause-stream
returns-clause-stream c = meets_next_u64 _ _ _ _ (search rules)
