use Rattle.rapidhash.proofs.KeyLemmas.{Agree}
use Rattle.rapidhash.proofs.laws.keys.same_keys.Given as goal

abbrev pub invariant-loop-i : goal.invariant-loop-i
invariant-loop-i l = Agree l.x l.y l.i
