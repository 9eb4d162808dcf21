use Rattle.std.proofs.Common.{◌≡◌, ◌+◌, ◌-◌, ◌≤◌}
use Rattle.rapidhash_portable.specs.Secrets.{chained}
use Rattle.rapidhash_portable.proofs.SecretsLemmas.{AreFilled}
use Rattle.rapidhash_portable.proofs.secrets.chain.Given as goal

abbrev pub invariant-loop-place : goal.invariant-loop-place
invariant-loop-place g l = record {
  last_is : l.last ≡ chained l.seed l.place;
  filled : AreFilled (λ k. chained l.seed (k + 1)) l.secrets g.row.COUNT l.place;
  most : l.place ≤ g.row.COUNT;
}

abbrev pub decreases-loop-place : goal.decreases-loop-place
decreases-loop-place g l = g.row.COUNT - l.place
