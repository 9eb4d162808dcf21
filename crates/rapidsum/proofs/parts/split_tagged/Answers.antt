use Rattle.std.proofs.Common.{◌++◌, ◌∷◌, [], Some, ap}
use Rattle.rapidsum.specs.Line.{digits_of}
use Rattle.rapidsum.proofs.parts.split_tagged.Goals as goal

pub returns-in_err-algorithm : goal.returns-in_err-algorithm
returns-in_err-algorithm c = λ algorithm hash text fits is.
    let rest = 40 ∷ (text ++ 41 ∷ 32 ∷ 61 ∷ 32 ∷ [] ++ digits_of hash) in
    absurd (rw c.in_err-algorithm.was at c.split_tag.ensures algorithm rest is fits.1)

pub returns-in_err-text : goal.returns-in_err-text
returns-in_err-text c = λ algorithm hash text fits is.
    let rest = 40 ∷ (text ++ 41 ∷ 32 ∷ 61 ∷ 32 ∷ [] ++ digits_of hash) in
    let tag = rw c.in_ok-algorithm.was at c.split_tag.ensures algorithm rest is fits.1 in
    absurd (rw c.in_err-text.was at c.split_value.ensures hash text fits.0 tag.1)

pub returns : goal.returns
returns c = λ algorithm hash text fits is.
    let rest = 40 ∷ (text ++ 41 ∷ 32 ∷ 61 ∷ 32 ∷ [] ++ digits_of hash) in
    let tag = rw c.in_ok-algorithm.was at c.split_tag.ensures algorithm rest is fits.1 in
    let value = rw c.in_ok-text.was at c.split_value.ensures hash text fits.0 tag.1 in
    (ap Some tag.0, value.1, value.0)
