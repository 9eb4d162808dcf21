use Rattle.std.proofs.Common.{sym, arith}
use Rattle.std.proofs.lemmas.Grind.{common_steps}
use Rattle.std.proofs.lemmas.List.{nil_from_length}
use Rattle.rapidsum.specs.Command.{bare, hyphen, hyphens, letters, nothing}
use Rattle.rapidsum.proofs.reading.next.Goals as goal

pub returns-in_default-clause-begins : goal.returns-in_default-clause-begins
returns-in_default-clause-begins g c =
    rw (nil_from_length c.args.letters.now (grind (arith, common_steps)), nil_from_length c.args.words.now (grind (arith, common_steps))) nothing

pub returns-in_default-behind-clause-begins : goal.returns-in_default-behind-clause-begins
returns-in_default-behind-clause-begins g c =
    rw (nil_from_length c.args.letters.now (grind (arith, common_steps)), c.in-Some.ensures.cases.0, sym c.as_slice-word.ensures.value)
    (bare _ _ c.in_default-behind.ensures)

pub returns-then-is_empty-clause-begins : goal.returns-then-is_empty-clause-begins
returns-then-is_empty-clause-begins g c =
    rw (
      nil_from_length c.args.letters.now (grind (arith, common_steps)),
      c.in-Some.ensures.cases.0,
      sym c.as_slice-word.ensures.value,
      c.in-Some-behind.ensures,
      nil_from_length c.in-Some-behind.text.now (grind (arith, common_steps)),
    ) (hyphen _)

pub returns-in_default-behind-2-clause-begins : goal.returns-in_default-behind-2-clause-begins
returns-in_default-behind-2-clause-begins g c =
    rw (nil_from_length c.args.letters.now (grind (arith, common_steps)), c.in-Some.ensures.cases.0, sym c.as_slice-word.ensures.value, c.in-Some-behind.ensures)
    (letters c.in-Some-behind.text.now _ _ (grind (arith, common_steps)) c.in_default-behind-2.ensures c.lettered-in_default-behind-2.ensures.begins)

pub returns-then-is_empty-2-clause-begins : goal.returns-then-is_empty-2-clause-begins
returns-then-is_empty-2-clause-begins g c =
    rw (
      nil_from_length c.args.letters.now (grind (arith, common_steps)),
      c.in-Some.ensures.cases.0,
      sym c.as_slice-word.ensures.value,
      c.in-Some-behind.ensures,
      c.in-Some-behind-2.ensures,
      nil_from_length c.in-Some-behind-2.name.now (grind (arith, common_steps)),
    ) (hyphens _)
