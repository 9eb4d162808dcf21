use Rattle.std.proofs.Common.{◌+◌, arith}
use Rattle.std.proofs.lemmas.List.FromFn.{fill_by_all}
use Rattle.rapidhash_portable.specs.Secrets.{chained, chained_secrets}
use Rattle.rapidhash_portable.proofs.SecretsLemmas.{AreFilled-good, IsGood-chained}
use Rattle.rapidhash_portable.proofs.secrets.chain.Goals as goal

pub returns-clause-value : goal.returns-clause-value
unfolding chained_secrets
returns-clause-value g c =
    let filled = c.loop-place.invariant.filled in
    fill_by_all (λ k. chained c.args.seed (k + 1)) c.loop-place.secrets g.row.COUNT 0 filled.whole (λ k l. filled.made k (omega arith))

pub returns-clause-good : goal.returns-clause-good
returns-clause-good g c = AreFilled-good c.loop-place.invariant.filled (omega arith) (IsGood-chained c.args.seed)
