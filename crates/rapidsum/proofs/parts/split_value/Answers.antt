use Rattle.std.proofs.Common.{◌++◌, ◌∷◌, [], ◌∙◌, sym}
use Rattle.rapidsum.specs.Line.{digits_of}
use Rattle.rapidsum.proofs.Lines.{digits-length}
use Rattle.rapidsum.proofs.parts.split_value.Goals as goal

pub returns-in_err-front : goal.returns-in_err-front
returns-in_err-front c = λ hash text fits is.
    let front = (32 ∷ 40 ∷ text) ++ 41 ∷ 32 ∷ 61 ∷ 32 ∷ [] in
    let same = c.without_return.ensures.digits front hash is in
    absurd (rw c.in_err-front.was at c.split_end.ensures front (digits_of hash) (same ∙ is) (digits-length hash))

pub returns-in_err-text : goal.returns-in_err-text
returns-in_err-text c = λ hash text fits is.
    let front = (32 ∷ 40 ∷ text) ++ 41 ∷ 32 ∷ 61 ∷ 32 ∷ [] in
    let same = c.without_return.ensures.digits front hash is in
    let parts = rw c.in_ok-front.was at c.split_end.ensures front (digits_of hash) (same ∙ is) (digits-length hash) in
    absurd (rw c.in_err-text.was at c.within_parentheses.ensures text parts.0)

pub returns-in_err-hash : goal.returns-in_err-hash
returns-in_err-hash c = λ hash text fits is.
    let front = (32 ∷ 40 ∷ text) ++ 41 ∷ 32 ∷ 61 ∷ 32 ∷ [] in
    let same = c.without_return.ensures.digits front hash is in
    let parts = rw c.in_ok-front.was at c.split_end.ensures front (digits_of hash) (same ∙ is) (digits-length hash) in
    cc (sym c.in_err-hash.was ∙ c.number_of.ensures hash fits parts.1)

pub returns : goal.returns
returns c = λ hash text fits is.
    let front = (32 ∷ 40 ∷ text) ++ 41 ∷ 32 ∷ 61 ∷ 32 ∷ [] in
    let same = c.without_return.ensures.digits front hash is in
    let parts = rw c.in_ok-front.was at c.split_end.ensures front (digits_of hash) (same ∙ is) (digits-length hash) in
    let within = rw c.in_ok-text.was at c.within_parentheses.ensures text parts.0 in
    (within, cc (sym c.in_ok-hash.was ∙ c.number_of.ensures hash fits parts.1))
