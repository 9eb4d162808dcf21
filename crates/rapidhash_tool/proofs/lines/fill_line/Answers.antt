use Rattle.std.proofs.Common.{◌∙◌, ◌++◌, ◌∷◌, ap, arith, length-set}
use Rattle.std.proofs.lemmas.Fmt.{length-decimal-le}
use Rattle.std.proofs.lemmas.List.{drop-set, drop_all}
use Rattle.std.specs.Fmt.{decimal}
use Rattle.rapidhash_tool.proofs.lines.fill_line.Goals as goal

pub write_digits-requires : goal.write_digits-requires
write_digits-requires c = (length-decimal-le 20 c.args.number (omega arith) (omega arith) c.ranges.number.fits, simp length-set (omega arith))

pub returns-clause-written : goal.returns-clause-written
returns-clause-written c =
    c.write_digits.ensures.written
    ∙ ap (λ t. decimal c.args.number ++ t) (drop-set c.args.line.now 20 10 (omega arith) ∙ ap (λ t. 10 ∷ t) (drop_all 21 c.args.line.now (omega arith)))
