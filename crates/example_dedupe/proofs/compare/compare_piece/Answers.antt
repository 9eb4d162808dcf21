use Rattle.std.proofs.Common.{◌∙◌, sym, arith}
use Rattle.std.proofs.lemmas.Bool.{not-false}
use Rattle.std.proofs.lemmas.Bool.Decides.{Decides-not}
use Rattle.std.proofs.lemmas.Slice.Eq.{bytes_eq-Decides}
use Rattle.example_dedupe.proofs.Fronts.{read_differ, read_end}
use Rattle.example_dedupe.proofs.compare.compare_piece.Goals as goal

pub returns-then-ne-clause-decided : goal.returns-then-ne-clause-decided
returns-then-ne-clause-decided g c =
    let left = c.in_ok-left_count.ensures in
    let right = c.in_ok-right_count.ensures in
    read_differ _ _ _ _ c.fill.new.buf c.fill-2.new.buf c.in_ok-left_count.left_count c.in_ok-right_count.right_count left.taken right.taken left.within right.within (omega arith) left.end right.end ((Decides-not _ (bytes_eq-Decides _ _)).0 (sym c.ne.ensures ∙ c.if-ne.true))

pub returns-then-left_count-left-clause-decided : goal.returns-then-left_count-left-clause-decided
returns-then-left_count-left-clause-decided g c =
    let left = c.in_ok-left_count.ensures in
    let right = c.in_ok-right_count.ensures in
    read_end _ _ _ _ c.fill.new.buf c.fill-2.new.buf c.in_ok-left_count.left_count c.in_ok-right_count.right_count left.taken right.taken left.within right.within (omega arith) left.end right.end c.if-left_count-left.true ((bytes_eq-Decides _ _).0 (not-false _ (sym c.ne.ensures ∙ c.if-ne.false)))
