use Rattle.std.proofs.Common.{sym, ◌∙◌, None, Some, arith}
use Rattle.std.proofs.lemmas.Grind.{common_steps}
use Rattle.std.proofs.lemmas.List.{nil_from_length}
use Rattle.rapidsum.specs.Command.{apart, missing, named, no_name, no_value}
use Rattle.rapidsum.proofs.reading.named.Goals as goal

pub returns-in_default-clause-begins : goal.returns-in_default-clause-begins
returns-in_default-clause-begins g c =
    rw c.requires.is (no_name _ _ _ _ c.name_and_value.ensures (sym c.place_named.ensures.place ∙ c.in_default.is))

pub returns-in-true-Some-clause-begins : goal.returns-in-true-Some-clause-begins
returns-in-true-Some-clause-begins g c =
    rw c.requires.is (named _ _ (Some c.in-true-Some.value.now) _ _ (rw c.in-true-Some.is-1 at c.name_and_value.ensures) (record { is = sym c.in-Some.ensures.place; takes = grind (arith, common_steps) }))

pub returns-in-Some-split_first-clause-begins : goal.returns-in-Some-split_first-clause-begins
returns-in-Some-split_first-clause-begins g c =
    rw (c.requires.is, c.in-Some-split_first.ensures.cases.0, c.as_slice.ensures.value)
    (apart _ _ _ _ _ (rw c.in-true-None.is-1 at c.name_and_value.ensures) (record { is = sym c.in-Some.ensures.place; takes = grind (arith, common_steps) }))

pub returns-in-None-clause-begins : goal.returns-in-None-clause-begins
returns-in-None-clause-begins g c =
    rw (c.requires.is, nil_from_length c.args.words.now (grind (arith, common_steps)))
    (missing _ _ _ (rw c.in-true-None.is-1 at c.name_and_value.ensures) (record { is = sym c.in-Some.ensures.place; takes = grind (arith, common_steps) }))

pub returns-in-false-None-clause-begins : goal.returns-in-false-None-clause-begins
returns-in-false-None-clause-begins g c =
    rw c.requires.is (named _ _ None _ _ (rw c.in-false-None.is-1 at c.name_and_value.ensures) (record { is = sym c.in-Some.ensures.place; takes = grind (arith, common_steps) }))

pub returns-in-false-Some-clause-begins : goal.returns-in-false-Some-clause-begins
returns-in-false-Some-clause-begins g c =
    rw c.requires.is (no_value _ _ _ _ _ (rw c.in-false-Some.is-1 at c.name_and_value.ensures) (record { is = sym c.in-Some.ensures.place; takes = grind (arith, common_steps) }))
