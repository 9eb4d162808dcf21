use Rattle.std.proofs.Common.{◌≢◌, ◌<◌, ℕ, List, take}
use Rattle.std.specs.Prelude.{All}
use Rattle.example_dedupe.specs.Groups.{Tells}
use Rattle.example_dedupe.proofs.groups.find_equal.Given as goal

abbrev pub invariant-loop-at : goal.invariant-loop-at
invariant-loop-at g l = (bytes : ℕ → List ℕ) → (count : ℕ) → Tells (g.S.Store.bytes l.store) count bytes → l.file < count → All (λ leader. leader < count) l.leaders → All (λ leader. bytes leader ≢ bytes l.file) (take l.at l.leaders)
