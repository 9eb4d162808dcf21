use Rattle.std.proofs.Common.{rules, tests, ◌∙◌, string_bytes, bytes_eq}
use Rattle.std.proofs.lemmas.Iterator.{YieldsList-from_slice}
use Rattle.std.proofs.lemmas.Iterator.Search.{any_from_yields_List}
use Rattle.rapidhash_tool.proofs.Mapped.{list_any-map}
use Rattle.rapidhash_tool.specs.CommandLine.{option_of}
use Rattle.rapidhash_tool.proofs.command_line.has_name.Goals as goal

pub returns : goal.returns
returns c =
    any_from_yields_List (λ s. bytes_eq (string_bytes s) (option_of c.args.version)) _ _ c.any.result c.any.ensures.ran
    (YieldsList-from_slice c.args.args.now cc) (λ x b q k. search (rules, tests))
    ∙ list_any-map (λ x. bytes_eq x (option_of c.args.version)) string_bytes c.args.args.now
