use Rattle.std.proofs.Common.{◌≡◌, [], length, refl, ◌∙◌, arith, rules}
use Rattle.std.proofs.Math.Nat.{eq-or-lt_of_le}
use Rattle.std.proofs.lemmas.List.{append-nil}
use Rattle.rapidhash.specs.Key.{key_bytes}
use Rattle.rapidhash.proofs.KeyLemmas.{agree-all, agree-here, agree-here-contents, agree-lengths, agree-more, agree-none, no-rest}
use Rattle.rapidhash.proofs.laws.keys.same_keys.Goals as goal

pub loop-i-init : goal.loop-i-init
loop-i-init c = agree-none _ _

pub loop-i-preserved : goal.loop-i-preserved
loop-i-preserved c =
    agree-more c.args.x.now c.args.y.now c.loop-i.i _ _ (omega arith) (omega arith)
    (c.if-not-is_same.ensures.same.0 refl) c.loop-i.invariant

pub returns-then-not-is_same-clause-encodings : goal.returns-then-not-is_same-clause-encodings
returns-then-not-is_same-clause-encodings c = (
  λ f. cc,
  λ same. c.if-not-is_same.ensures.same.1 (agree-here c.args.x.now c.args.y.now c.loop-i.i _ _ (omega arith) (omega arith)
      c.is_same.ensures.left c.is_same.ensures.right c.loop-i.invariant [] (append-nil (key_bytes c.args.x.now) ∙ same)),
)

pub returns-then-not-is_same-clause-fields : goal.returns-then-not-is_same-clause-fields
returns-then-not-is_same-clause-fields c = (
  λ f. cc,
  λ same. c.if-not-is_same.ensures.same.1
      (agree-here-contents c.args.x.now c.args.y.now c.loop-i.i _ _ (omega arith) (omega arith) c.loop-i.invariant same),
)

pub returns-then-not-is_same-clause-ends : goal.returns-then-not-is_same-clause-ends
returns-then-not-is_same-clause-ends c = λ rest size same.
    let never = c.if-not-is_same.ensures.same.1 (agree-here c.args.x.now c.args.y.now c.loop-i.i _ _ (omega arith) (omega arith)
    c.is_same.ensures.left c.is_same.ensures.right c.loop-i.invariant rest same) in
    absurd (cc never)

pub returns-clause-encodings : goal.returns-clause-encodings
returns-clause-encodings c = (
  λ sized.
      let size : length c.args.x.now ≡ length c.args.y.now = search (rules, sized) in
      (agree-all c.args.x.now c.args.y.now c.loop-i.i (omega (arith, size)) (omega (arith, size)) c.loop-i.invariant).0,
  λ same.
      let size = agree-lengths c.args.x.now c.args.y.now c.loop-i.i (eq-or-lt_of_le (omega arith)) (λ more. omega (arith, more)) (omega arith) c.loop-i.invariant same in
      search (rules, size),
)

pub returns-clause-ends : goal.returns-clause-ends
returns-clause-ends c = λ rest size same.
    no-rest _ _ rest (agree-all c.args.x.now c.args.y.now c.loop-i.i (omega (arith, size)) (omega (arith, size)) c.loop-i.invariant).0 same
