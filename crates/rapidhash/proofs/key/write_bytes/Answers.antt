use Rattle.std.proofs.Common.{◌∷◌, [], ◌++◌, not, nat_eq, subst}
use Rattle.rapidhash.specs.Key.{Appends}
use Rattle.rapidhash.proofs.KeyLemmas.{appends-join}
use Rattle.rapidhash.proofs.key.write_bytes.Goals as goal

pub returns : goal.returns
returns g c =
    let protected = not (nat_eq g.row.PROTECTED 0) in
    let tag : Appends protected c.args.hasher.now c.write.new.self (2 ∷ []) = record { adds = c.write.ensures.adds; count = c.write.ensures.count; secrets = c.write.ensures.secrets } in
    let size : Appends protected c.write.new.self c.write-2.new.self c.to_le_bytes.result = record { adds = c.write-2.ensures.adds; count = c.write-2.ensures.count; secrets = c.write-2.ensures.secrets } in
    let bytes : Appends protected c.write-2.new.self c.write-3.new.self c.args.bytes.now = record { adds = c.write-3.ensures.adds; count = c.write-3.ensures.count; secrets = c.write-3.ensures.secrets } in
    subst (λ size. Appends protected c.args.hasher.now c.write-3.new.self (2 ∷ (size ++ c.args.bytes.now))) c.to_le_bytes.ensures
    (appends-join protected _ _ _ _ _ tag (appends-join protected _ _ _ _ _ size bytes))
