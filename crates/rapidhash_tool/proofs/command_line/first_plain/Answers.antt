use Rattle.std.proofs.Common.{rules, tests, ◌∙◌, not, string_bytes}
use Rattle.std.proofs.lemmas.Iterator.{YieldsList-from_slice}
use Rattle.std.proofs.lemmas.Iterator.Search.{position_from_yields_List}
use Rattle.rapidhash_tool.proofs.Mapped.{position-map}
use Rattle.rapidhash_tool.specs.CommandLine.{is_option}
use Rattle.rapidhash_tool.proofs.command_line.first_plain.Goals as goal

pub returns : goal.returns
returns c =
    position_from_yields_List (λ s. not (is_option (string_bytes s))) _ _ c.position.result c.position.ensures.ran
    (YieldsList-from_slice c.args.args.now cc) (λ x b q k. search (rules, tests))
    ∙ position-map (λ x. not (is_option x)) string_bytes c.args.args.now
