use Rattle.std.proofs.Common.{◌≡◌, ◌+◌}
use Rattle.rapidhash_portable.specs.Secrets.{made_state}
use Rattle.rapidhash_portable.proofs.SecretsLemmas.{AreFilled}
use Rattle.rapidhash_portable.proofs.secrets.made_secrets.Given as goal

abbrev pub invariant-loop-place : goal.invariant-loop-place
invariant-loop-place l = record {
  state_is : l.state ≡ made_state l.random l.place;
  filled : AreFilled (λ k. made_state l.random (k + 1)) l.secrets 7 l.place;
}
