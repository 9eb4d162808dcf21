use Rattle.std.proofs.Common.{◌≡◌, IsSomeAnd, drop, sym, ap, ◌∙◌, refl}
use Rattle.rapidsum.specs.Line.{version_tagged}
use Rattle.rapidsum.proofs.Lists.{version_read}
use Rattle.rapidsum.proofs.Tags.{tag_split}
use Rattle.rapidsum.proofs.tag.split_tag.Goals as goal

pub returns-in_err-version : goal.returns-in_err-version
returns-in_err-version c = λ algorithm rest is fits.
    let parts = tag_split algorithm rest c.in_ok-behind.behind.now c.split_before.result.0.now c.split_before.result.1.now
    c.split_before-2.result.0.now c.split_before-2.result.1.now c.split_before.ensures.found c.split_before-2.ensures.found
    c.split_before-2.ensures.whole (c.in_ok-behind.ensures.cases.1 ∙ ap (drop 10) is) in
    absurd (cc (sym c.in_err-version.was ∙ c.version_tagged.ensures ∙ ap version_tagged parts.0 ∙ (version_read algorithm.version).0))

pub returns-in_err-seed : goal.returns-in_err-seed
returns-in_err-seed c = λ algorithm rest is fits.
    let parts = tag_split algorithm rest c.in_ok-behind.behind.now c.split_before.result.0.now c.split_before.result.1.now
    c.split_before-2.result.0.now c.split_before-2.result.1.now c.split_before.ensures.found c.split_before-2.ensures.found
    c.split_before-2.ensures.whole (c.in_ok-behind.ensures.cases.1 ∙ ap (drop 10) is) in
    absurd (rw c.in_err-seed.was at c.read_seed.ensures algorithm.seed parts.1 fits)

pub returns : goal.returns
returns c = λ algorithm rest is fits.
    let parts = tag_split algorithm rest c.in_ok-behind.behind.now c.split_before.result.0.now c.split_before.result.1.now
    c.split_before-2.result.0.now c.split_before-2.result.1.now c.split_before.ensures.found c.split_before-2.ensures.found
    c.split_before-2.ensures.whole (c.in_ok-behind.ensures.cases.1 ∙ ap (drop 10) is) in
    let tagged = c.version_tagged.ensures ∙ ap version_tagged parts.0 ∙ (version_read algorithm.version).0 in
    let version : IsSomeAnd c.version_tagged.result (λ version. version ≡ algorithm.version) = rw tagged refl in
    let seed = rw c.in_ok-seed.was at c.read_seed.ensures algorithm.seed parts.1 fits in
    (rw (rw c.in_ok-version.was at version, seed) refl, parts.2)
