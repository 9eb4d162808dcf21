use Rattle.std.proofs.Common.{◌+◌, arith}
use Rattle.std.proofs.lemmas.List.FromFn.{fill_by_all}
use Rattle.rapidhash_portable.specs.Secrets.{made_secrets, made_state}
use Rattle.rapidhash_portable.proofs.SecretsLemmas.{AreFilled-good, IsGood-made_state}
use Rattle.rapidhash_portable.proofs.secrets.made_secrets.Goals as goal

pub returns-clause-value : goal.returns-clause-value
unfolding made_secrets
returns-clause-value c =
    let filled = c.loop-place.invariant.filled in
    fill_by_all (λ k. made_state c.args.random (k + 1)) c.loop-place.secrets 7 0 filled.whole (λ k l. filled.made k (omega arith))

pub returns-clause-good : goal.returns-clause-good
returns-clause-good c = AreFilled-good c.loop-place.invariant.filled (omega arith) (IsGood-made_state c.args.random)
