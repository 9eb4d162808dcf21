-- The answers of a run of writes, finishes and resets, one step after the other.
use Rattle.std.proofs.Common.{◌≡◌, ℕ, ◌+◌, ◌<◌, List, ◌∷◌, length, get_or, drop, refl, ap, add-one, drop-cons}
use Rattle.rapidhash_portable.specs.declared.form.Options.{Options}
use Rattle.rapidhash_portable.specs.declared.secrets.RapidSecrets.{RapidSecrets}
use Rattle.rapidhash.specs.declared.laws.StreamOp.{StreamOp}
use Rattle.rapidhash.specs.Replay.{finishes_from}

-- the steps from `i` on are step `i` and those behind it
drop-step : (ops : List StreamOp) (i : ℕ) (d op : StreamOp) → i < length ops → get_or ops i d ≡ op → drop i ops ≡ op ∷ drop (i + 1) ops
drop-step ops i d op h e = rw (add-one, drop-cons ops i d h, e) refl

-- so the answers from step `i` on begin with what that step answers
pub finishes_from-step : (lanes : ℕ) (options : Options) (secrets : RapidSecrets) (x : List ℕ) (ops : List StreamOp) (i : ℕ) (d op : StreamOp)
    → i < length ops → get_or ops i d ≡ op
    → finishes_from lanes options secrets x (drop i ops) ≡ finishes_from lanes options secrets x (op ∷ drop (i + 1) ops)
finishes_from-step lanes options secrets x ops i d op h e = ap (finishes_from lanes options secrets x) (drop-step ops i d op h e)
