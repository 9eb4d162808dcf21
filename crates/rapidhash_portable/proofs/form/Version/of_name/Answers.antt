use Rattle.std.proofs.Common.{rules, tests, ◌≡◌, ◌↔◌, ◌∙◌, sym, subst, bytes_eq, Option, Some}
use Rattle.std.proofs.lemmas.Iterator.{YieldsList-from_slice}
use Rattle.std.proofs.lemmas.Iterator.Search.{find_from_yields_List}
use Rattle.rapidhash_portable.specs.declared.form.Version.{Version}
use Rattle.rapidhash_portable.specs.Version.{name_of, versions}
use Rattle.rapidhash_portable.proofs.VersionLemmas.{named-is}
use Rattle.rapidhash_portable.proofs.form.Version.of_name.Goals as goal

pub returns : goal.returns
returns c version =
    let found = find_from_yields_List (λ v. bytes_eq (name_of v) c.args.name.now) _ _ c.find.result c.find.ensures.ran
    (YieldsList-from_slice versions cc) (λ x b q k. search (rules, tests)) in
    subst (λ (o : Option Version). (o ≡ Some version) ↔ (name_of version ≡ c.args.name.now)) (sym (c.copied.ensures ∙ found)) (named-is c.args.name.now version)
