use Rattle.std.proofs.Common.{◌∷◌, [], not, nat_eq, subst}
use Rattle.rapidhash.specs.Key.{Appends}
use Rattle.rapidhash.proofs.KeyLemmas.{appends-join}
use Rattle.rapidhash.proofs.key.write_integer.Goals as goal

pub returns : goal.returns
returns g c =
    let protected = not (nat_eq g.row.PROTECTED 0) in
    let tag : Appends protected c.args.hasher.now c.write.new.self (1 ∷ []) = record { adds = c.write.ensures.adds; count = c.write.ensures.count; secrets = c.write.ensures.secrets } in
    let number : Appends protected c.write.new.self c.write-2.new.self c.to_le_bytes.result = record { adds = c.write-2.ensures.adds; count = c.write-2.ensures.count; secrets = c.write-2.ensures.secrets } in
    subst (λ bytes. Appends protected c.args.hasher.now c.write-2.new.self (1 ∷ bytes)) c.to_le_bytes.ensures (appends-join protected _ _ _ _ _ tag number)
