use Rattle.std.proofs.Common.{◌∷◌, [], ◌∙◌, refl, sym}
use Rattle.rapidsum.proofs.parts.within_parentheses.Goals as goal

pub returns-in_err-start : goal.returns-in_err-start
returns-in_err-start c = λ name is.
    absurd (rw c.in_err-start.was at c.split_end.ensures (32 ∷ 40 ∷ name) (41 ∷ 32 ∷ 61 ∷ 32 ∷ []) is refl)

pub returns-then-not-is_equals_sign : goal.returns-then-not-is_equals_sign
returns-then-not-is_equals_sign c = λ name is.
    let parts = rw c.in_ok-start.was at c.split_end.ensures (32 ∷ 40 ∷ name) (41 ∷ 32 ∷ 61 ∷ 32 ∷ []) is refl in
    cc (sym (c.is_equals_sign.ensures parts.1) ∙ c.if-not-is_equals_sign.true)

pub returns-in_err-name : goal.returns-in_err-name
returns-in_err-name c = λ name is.
    let parts = rw c.in_ok-start.was at c.split_end.ensures (32 ∷ 40 ∷ name) (41 ∷ 32 ∷ 61 ∷ 32 ∷ []) is refl in
    absurd (rw c.in_err-name.was at c.behind_parenthesis.ensures name parts.0)

pub returns : goal.returns
returns c = λ name is.
    let parts = rw c.in_ok-start.was at c.split_end.ensures (32 ∷ 40 ∷ name) (41 ∷ 32 ∷ 61 ∷ 32 ∷ []) is refl in
    rw c.in_ok-name.was at c.behind_parenthesis.ensures name parts.0
