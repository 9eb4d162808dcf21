-- The results of a run of writes, finishes and resets.
use Rattle.std.specs.Prelude.{ℕ, List, [], ◌∷◌, ◌++◌}
use Rattle.rapidhash_portable.specs.declared.form.Form.TheVariants.{V3}
use Rattle.rapidhash_portable.specs.declared.form.Options.{Options}
use Rattle.rapidhash_portable.specs.declared.secrets.RapidSecrets.{RapidSecrets}
use Rattle.rapidhash_portable.specs.Hash.{seeded_hash}
use Rattle.rapidhash.specs.declared.laws.StreamOp.{StreamOp}
use Rattle.rapidhash.specs.declared.laws.StreamOp.TheVariants.{Write, Finish, Reset}

-- the results from a message `x` on: each finish returns the hash of the bytes written since the last reset
unfoldable pub finishes_from : ℕ → Options → RapidSecrets → List ℕ → List StreamOp → List ℕ
finishes_from lanes options secrets x [] = []
finishes_from lanes options secrets x (Write piece ∷ ops) = finishes_from lanes options secrets (x ++ piece.now) ops
finishes_from lanes options secrets x (Finish ∷ ops) = seeded_hash (V3 lanes) options secrets x ∷ finishes_from lanes options secrets x ops
finishes_from lanes options secrets x (Reset ∷ ops) = finishes_from lanes options secrets [] ops

-- the results of a whole run
abbrev pub finishes : ℕ → Options → RapidSecrets → List StreamOp → List ℕ
finishes lanes options secrets ops = finishes_from lanes options secrets [] ops
