use Rattle.std.proofs.Common.{arith}
use Rattle.std.proofs.lemmas.Grind.{common_steps}
use Rattle.example_dedupe.proofs.Places.{grouped}
use Rattle.example_dedupe.proofs.groups.groups.Goals as goal

pub loop-file-preserved : goal.loop-file-preserved
loop-file-preserved g c = record {
  count = grind (arith, common_steps);
  placed = λ bytes told. rw c.in_ok-push.ensures.items (c.in_ok-place.ensures bytes c.args.count told c.loop-file-test.true _ c.loop-file.invariant.count (c.loop-file.invariant.placed bytes told));
}

pub returns-clause-groups : goal.returns-clause-groups
returns-clause-groups g c = λ bytes told. grouped _ bytes _ _ (c.loop-file.invariant.placed bytes told)
