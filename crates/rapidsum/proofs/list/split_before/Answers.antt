use Rattle.std.proofs.Common.{◌∙◌}
use Rattle.rapidsum.proofs.Lists.{line_parts}
use Rattle.rapidsum.proofs.list.split_before.Goals as goal

pub returns-clause-found : goal.returns-clause-found
returns-clause-found c = λ front rest none is.
    let parts = line_parts c.args.end front rest c.args.text.now c.line_length.result none is c.line_length.ensures.before c.line_length.ensures.found in
    (c.split_at.ensures.front ∙ parts.0, c.split_at.ensures.back ∙ parts.1)
