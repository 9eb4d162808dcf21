use Rattle.std.proofs.Common.{◌≡◌, ℕ, ◌<◌, List, length, get_or, ap, Bool, IsTrue, ◌↔◌, rules}
use Rattle.rapidhash_portable.specs.Absorbed.{absorbed_words}
use Rattle.rapidhash_portable.proofs.AbsorbedLemmas.{hash-absorbed, same_from_words}
use Rattle.rapidhash_portable.specs.declared.form.Form.{Form}
use Rattle.rapidhash.specs.Laws.{SameWords}
use Rattle.rapidhash.proofs.laws.words.same_words.Goals as goal

-- a test of the messages is a test of their lengths and words
words_or_bytes : (form : Form) (x y : List ℕ) → ((k : ℕ) → get_or x k 0 < 256) → ((k : ℕ) → get_or y k 0 < 256)
    → (same : Bool) → (IsTrue same ↔ (x ≡ y)) → (IsTrue same ↔ SameWords form x y)
words_or_bytes form x y x_bytes y_bytes same h =
    (λ t. let e = h.0 t in (ap length e, ap (absorbed_words form) e), λ w. h.1 (same_from_words x y x_bytes y_bytes w.0 form w.1))

pub returns-clause-words : goal.returns-clause-words
returns-clause-words c = λ form. words_or_bytes form c.args.x.now c.args.y.now (search rules) (search rules) c.eq.result (search rules)

pub returns-clause-first : goal.returns-clause-first
returns-clause-first c = λ form options seed secrets _ _. hash-absorbed form options seed secrets c.args.x.now

pub returns-clause-second : goal.returns-clause-second
returns-clause-second c = λ form options seed secrets _ _. hash-absorbed form options seed secrets c.args.y.now
