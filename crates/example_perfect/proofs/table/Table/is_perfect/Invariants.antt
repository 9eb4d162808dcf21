use Rattle.std.proofs.Common.{◌≡◌, ◌<◌, ℕ, List, slice_index}
use Rattle.example_perfect.specs.Table.{IsKeyAt, place_in}
use Rattle.example_perfect.proofs.table.Table.is_perfect.Given as goal

abbrev pub invariant-loop-i : goal.invariant-loop-i
invariant-loop-i l =
    (i : ℕ) (key : List ℕ) → i < l.i → IsKeyAt l.self i key → slice_index l.self.places.items (place_in l.self key) ≡ i
