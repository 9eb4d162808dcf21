use Rattle.std.proofs.Common.{◌≡◌, ◌<◌, All, IsNone, arith, get_or}
use Rattle.std.proofs.lemmas.List.{get_or_default}
use Rattle.rapidhash.proofs.laws.damage.refuses_damage.Goals as goal

pub returns : goal.returns
returns g c = λ lanes avalanche protected x h damage.
    let bytes : All (λ byte. byte < 256) c.args.saved.now = λ i d low.
    let read : get_or c.args.saved.now i d ≡ get_or c.args.saved.now i 0 = get_or_default c.args.saved.now i d 0 low in
    let byte = c.type_inv.saved i in
    omega (arith, read, byte) in
    let none : IsNone c.restore.result = c.restore.ensures.damage lanes avalanche protected x c.args.saved.now h bytes damage in
    grind (arith, c.is_none.ensures, none)
