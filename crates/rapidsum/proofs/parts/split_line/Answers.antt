use Rattle.std.proofs.Common.{◌∙◌, sym}
use Rattle.rapidsum.proofs.Lines.{of_plain_line, of_tagged_line}
use Rattle.rapidsum.proofs.parts.split_line.Goals as goal

pub returns-then-begins_as_tag : goal.returns-then-begins_as_tag
returns-then-begins_as_tag c = λ layout algorithm hash name fits is.
    of_tagged_line layout algorithm hash name c.args.line.now c.split_tagged.result
    (sym c.begins_as_tag.ensures ∙ c.if-begins_as_tag.true) c.split_tagged.ensures fits is

pub returns-else-begins_as_tag : goal.returns-else-begins_as_tag
returns-else-begins_as_tag c = λ layout algorithm hash name fits is.
    of_plain_line layout algorithm hash name c.args.line.now c.split_plain.result
    (sym c.begins_as_tag.ensures ∙ c.if-begins_as_tag.false) c.split_plain.ensures.text c.split_plain.ensures.binary fits is
