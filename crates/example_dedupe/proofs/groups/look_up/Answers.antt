use Rattle.std.proofs.Common.{◌≡◌, arith}
use Rattle.std.proofs.lemmas.Grind.{common_steps}
use Rattle.example_dedupe.specs.Groups.{leaders_of}
use Rattle.example_dedupe.proofs.groups.look_up.Goals.{in-Some, in-None}
use Rattle.example_dedupe.proofs.groups.look_up.Goals as goal

pub returns-clause-same : goal.returns-clause-same
returns-clause-same g c = λ bytes count told inside within.
    let leaders : leaders_of c.args.by_key.now c.args.key ≡ c.as_slice.result.now = elim c.match-remove.branch [
      | in-Some w ↦ grind (arith, common_steps)
      | in-None w ↦ grind (arith, common_steps)
    ] in
    rw leaders (c.find_equal-found.ensures.same bytes count told inside (rw leaders at within))
