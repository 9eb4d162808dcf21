use Rattle.std.proofs.Common.{rules, ◌≡◌, ◌<◌, ℕ, length, List, inl, inr, ⊎_elim, ◌⊎◌, slice_index}
use Rattle.std.specs.Int.RustNames.{bit_or}
use Rattle.example_bloom.specs.Filter.{Finds, hash_of, step_of}
use Rattle.example_bloom.proofs.Bits.{joined_has, joined_only}
use Rattle.example_bloom.proofs.filter.Filter.unite.Goals as goal

-- src/filter.rt:99:5
pub returns : goal.returns
returns c =
    let words : List ℕ = c.args.self.now.words.items in
    let others : List ℕ = c.args.other.now.words.items in
    let joined : List ℕ = c.loop-i.self.words.items in
    let same : length joined ≡ length words = c.loop-i.invariant.shape.words in
    let each : (k : ℕ) → k < length words → slice_index joined k ≡ bit_or (slice_index words k) (slice_index others k) =
    λ k inside. c.loop-i.invariant.joined k (search rules) in
    record {
      found = λ (key : List ℕ) (either : Finds c.args.self.now key ⊎ Finds c.args.other.now key) (i : ℕ) inside.
          joined_has words others joined c.requires.shape.words same each c.requires.words (step_of (hash_of key) i)
          (⊎_elim (λ (has : Finds c.args.self.now key). inl (has i (search rules))) (λ (has : Finds c.args.other.now key). inr (has i (search rules))) either);
      only = λ step has. joined_only words others joined c.requires.shape.words same each c.requires.words step has;
      shape = c.loop-i.invariant.shape;
    }
