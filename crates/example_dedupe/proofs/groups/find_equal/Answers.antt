use Rattle.std.proofs.Common.{◌≡◌, ◌≢◌, ◌<◌, ℕ, Bool, Option, Some, List, subst, sym, ◌∙◌}
use Rattle.std.specs.Prelude.{All, ◌↔◌, IsTrue, IfSome, slice_index_or}
use Rattle.std.proofs.lemmas.Bool.{true≢false}
use Rattle.std.proofs.lemmas.List.Elements.{All-more}
use Rattle.std.proofs.lemmas.List.{take_all}
use Rattle.example_dedupe.proofs.groups.find_equal.Goals as goal

-- whether two files are the same, by their known bytes
told_apart : (same : Bool) (left right : Option (List ℕ)) (xs ys : List ℕ) → IfSome left (λ x. IfSome right (λ y. IsTrue same ↔ (x ≡ y))) → left ≡ Some xs → right ≡ Some ys → IsTrue same ↔ (xs ≡ ys)
told_apart same left right xs ys answer is also = rw also at (rw is at answer)

pub loop-at-preserved : goal.loop-at-preserved
loop-at-preserved g c = λ bytes count told inside within.
    let here : slice_index_or c.args.leaders.now c.loop-at.at 0 < count = within c.loop-at.at 0 c.loop-at-test.true in
    let answer = told_apart _ _ _ _ _ c.in_ok-same_files.ensures (told _ here) (told _ inside) in
    let other = λ (same : _ ≡ _). true≢false (sym (answer.1 same) ∙ c.if-branch.false) in
    All-more (λ (leader : ℕ). bytes leader ≢ bytes c.args.file) c.args.leaders.now c.loop-at.at 0 c.loop-at-test.true (c.loop-at.invariant bytes count told inside within) other

pub returns-clause-same : goal.returns-clause-same
returns-clause-same g c = λ bytes count told inside within.
    subst (λ (xs : List ℕ). All (λ (leader : ℕ). bytes leader ≢ bytes c.args.file) xs) (take_all c.loop-at.at c.args.leaders.now c.loop-at-test.false) (c.loop-at.invariant bytes count told inside within)
