use Rattle.std.proofs.Common.{sym, ◌∙◌, arith}
use Rattle.std.proofs.lemmas.Grind.{common_steps}
use Rattle.std.proofs.lemmas.List.{nil_from_length}
use Rattle.rapidsum.specs.Command.{behind, joined, letter, missing_behind, no_letter}
use Rattle.rapidsum.proofs.reading.lettered.Goals as goal

pub returns-in_default-place_lettered-clause-begins : goal.returns-in_default-place_lettered-clause-begins
returns-in_default-place_lettered-clause-begins g c =
    rw c.in-Some.ensures.cases.0 (no_letter _ _ _ (sym c.place_lettered.ensures.place ∙ c.in_default-place_lettered.is))

pub returns-then-not-takes_value-clause-begins : goal.returns-then-not-takes_value-clause-begins
returns-then-not-takes_value-clause-begins g c =
    rw c.in-Some.ensures.cases.0 (letter _ _ _ _ (record { is = sym c.in-Some-place_lettered.ensures.place; takes = grind (arith, common_steps) }))

pub returns-then-not-is_empty-clause-begins : goal.returns-then-not-is_empty-clause-begins
returns-then-not-is_empty-clause-begins g c =
    rw c.in-Some.ensures.cases.0 (joined _ c.in-Some.behind.now _ _ (grind (arith, common_steps)) (record { is = sym c.in-Some-place_lettered.ensures.place; takes = grind (arith, common_steps) }))

pub returns-in-Some-split_first-clause-begins : goal.returns-in-Some-split_first-clause-begins
returns-in-Some-split_first-clause-begins g c =
    let none = nil_from_length c.in-Some.behind.now (grind (arith, common_steps)) in
    rw (c.in-Some.ensures.cases.0, none, c.in-Some-split_first.ensures.cases.0, c.as_slice.ensures.value) (behind _ _ _ _ (record { is = sym c.in-Some-place_lettered.ensures.place; takes = grind (arith, common_steps) }))

pub returns-in-None-clause-begins : goal.returns-in-None-clause-begins
returns-in-None-clause-begins g c =
    let none = nil_from_length c.in-Some.behind.now (grind (arith, common_steps)) in
    let end = nil_from_length c.args.words.now (grind (arith, common_steps)) in
    rw (c.in-Some.ensures.cases.0, none, end) (missing_behind _ _ (record { is = sym c.in-Some-place_lettered.ensures.place; takes = grind (arith, common_steps) }))
