use Rattle.example_dedupe.specs.Bytes.{SharesFront}
use Rattle.example_dedupe.proofs.compare.same_bytes.Given as goal

abbrev pub invariant-loop : goal.invariant-loop
invariant-loop g l = SharesFront (g.A.Read.remaining l.fn.first) (g.A.Read.remaining l.first) (g.B.Read.remaining l.fn.second) (g.B.Read.remaining l.second)
