use Rattle.std.proofs.Common.{rules, ◌∙◌, sym}
use Rattle.rapidhash.proofs.LawsLemmas.{AgreeBefore, same_at_from, same_front}
use Rattle.rapidhash.proofs.laws.blocks.same_blocks.Goals as goal

pub returns-then-value-clause-blocks : goal.returns-then-value-clause-blocks
returns-then-value-clause-blocks c = (
  λ f. cc,
  λ h.
      let agree : AgreeBefore c.args.x.now c.args.y.now c.loop-i.i _ = search rules in
      absurd (c.if-value.true (c.value.ensures.value ∙ same_at_from (0, 0) _ _ _ _ agree h ∙ sym c.value-in-loop-i.ensures.value)),
)

pub loop-i-preserved : goal.loop-i-preserved
loop-i-preserved c = same_front _ _ _ _ (search rules) (sym c.value.ensures.value ∙ c.if-value.false ∙ c.value-in-loop-i.ensures.value)
