use Rattle.std.proofs.Common.{◌≡◌, ℕ, List, length}
use Rattle.example_dedupe.specs.Groups.{ArePlaced, key_of, leaders_of, Tells}
use Rattle.example_dedupe.proofs.groups.groups.Given as goal

abbrev pub invariant-loop-file : goal.invariant-loop-file
invariant-loop-file g l = record {
  count : length l.places.items ≡ l.file;
  placed : (bytes : ℕ → List ℕ) → Tells (g.S.Store.bytes l.store) l.count bytes → ArePlaced (key_of (g.F.Fingerprint.number l.fingerprint) l.sizes) bytes (leaders_of l.by_key) l.places.items;
}
