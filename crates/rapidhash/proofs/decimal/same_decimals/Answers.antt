use Rattle.rapidhash.proofs.DecimalLemmas.{agrees, of_numbers, of_texts, same-shape, to_numbers, to_texts}
use Rattle.rapidhash.proofs.decimal.same_decimals.Goals as goal

pub returns-clause-numbers : goal.returns-clause-numbers
returns-clause-numbers c = (
  λ t. to_numbers _ _ (agrees _ _ _ _ c.shortest.ensures c.shortest-2.ensures (c.same_shape.ensures.0 t)),
  λ s. c.same_shape.ensures.1 (same-shape _ _ _ _ c.shortest.ensures c.shortest-2.ensures (of_numbers _ _ c.requires.left c.requires.right s)),
)

pub returns-clause-texts : goal.returns-clause-texts
returns-clause-texts c = (
  λ t. to_texts _ _ (agrees _ _ _ _ c.shortest.ensures c.shortest-2.ensures (c.same_shape.ensures.0 t)),
  λ s. c.same_shape.ensures.1 (same-shape _ _ _ _ c.shortest.ensures c.shortest-2.ensures (of_texts _ _ c.requires.left c.requires.right s)),
)
