use Rattle.std.proofs.Common.{subst}
use Rattle.rapidhash_portable.specs.Secrets.{IsGood, repaired}
use Rattle.rapidhash_portable.proofs.SecretsLemmas.{IsGood-repaired}
use Rattle.rapidhash_portable.proofs.secrets.repair.Goals as goal

pub returns-clause-good : goal.returns-clause-good
unfolding repaired
returns-clause-good c = subst IsGood {x = repaired c.args.word} (cc) (IsGood-repaired c.args.word)
