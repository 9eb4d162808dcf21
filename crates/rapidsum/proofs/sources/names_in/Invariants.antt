use Rattle.std.proofs.Common.{◌≡◌, ◌++◌, ℕ, List, length}
use Rattle.rapidsum.proofs.Named.{IsNamedTo}
use Rattle.rapidsum.specs.Sources.{AreNames, IsName, ended}
use Rattle.rapidsum.proofs.sources.names_in.Given as goal

abbrev pub invariant-loop-rest : goal.invariant-loop-rest
invariant-loop-rest l = (names : List (List ℕ)) (last : List ℕ) → AreNames names → IsName last
    → l.text ≡ ended names ++ last → IsNamedTo last l.names.items l.rest names

abbrev pub decreases-loop-rest : goal.decreases-loop-rest
decreases-loop-rest l = length l.rest
