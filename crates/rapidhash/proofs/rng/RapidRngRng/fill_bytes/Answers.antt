use Rattle.std.proofs.Common.{rules}
use Rattle.rand_core.proofs.StepsLemmas.{meets_fill_bytes}
use Rattle.rapidhash.proofs.GeneratorLemmas.{drawn}
use Rattle.rapidhash.proofs.rng.RapidRngRng.fill_bytes.Goals as goal

pub returns-clause-stream : goal.returns-clause-stream
returns-clause-stream c = meets_fill_bytes _ _ _ _ _ (search rules)

pub returns-clause-bytes : goal.returns-clause-bytes
returns-clause-bytes c = (drawn _ _ _ _ (search rules) c.fill_bytes_via_u64.ensures).0

pub returns-clause-state : goal.returns-clause-state
returns-clause-state c = (drawn _ _ _ _ (search rules) c.fill_bytes_via_u64.ensures).1
