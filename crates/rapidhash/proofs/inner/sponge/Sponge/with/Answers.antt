use Rattle.std.proofs.Common.{◌≡◌, ℕ, ◌+◌, ◌*◌, ◌^◌, ◌%◌, ◌<◌, ◌≤◌, bit_or, arith, lit<}
use Rattle.std.proofs.lemmas.Nat.{pow-add, or_comm, or_shifted, mul-le}
use Rattle.std.proofs.Math.Nat.{mod-eq_of_lt, pow-le-pow_right}
use Rattle.rapidhash.proofs.inner.sponge.Sponge.with.Goals as goal

-- a number of k bits behind w bits
behind_lt : (b v w k : ℕ) → b < 2 ^ w → v < 2 ^ k → b + v * 2 ^ w < 2 ^ (w + k)
behind_lt b v w k h i =
    let m : (v + 1) * 2 ^ w ≤ 2 ^ k * 2 ^ w = mul-le (v + 1) (2 ^ w) (2 ^ k) (2 ^ w) (omega arith) (omega arith) in
    let p : 2 ^ (w + k) ≡ 2 ^ w * 2 ^ k = pow-add 2 w k in
    grind (arith, m, p)

-- bits that are written behind other bits are their sum
or_behind : (b v w k : ℕ) → b < 2 ^ w → v < 2 ^ k → w + k ≤ 128 → bit_or b (v * 2 ^ w % 2 ^ 128) ≡ b + v * 2 ^ w
or_behind b v w k h i room =
    let l : b + v * 2 ^ w < 2 ^ (w + k) = behind_lt b v w k h i in
    let p : 2 ^ (w + k) ≤ 2 ^ 128 = pow-le-pow_right (lit< tt) room in
    let small : v * 2 ^ w < 2 ^ 128 = omega (arith, l, p) in
    rw (mod-eq_of_lt small, or_comm, or_shifted v w b h) (omega arith)

pub invariant_of-result : goal.invariant_of-result
invariant_of-result c =
    let e = or_behind c.args.self.bits c.args.value c.args.self.width c.args.width c.args.self.fits c.requires.fits c.requires.room in
    let l = behind_lt c.args.self.bits c.args.value c.args.self.width c.args.width c.args.self.fits c.requires.fits in
    record { small = omega arith; fits = omega (arith, e, l) }

pub returns-clause-bits : goal.returns-clause-bits
returns-clause-bits c = or_behind _ _ _ _ c.args.self.fits c.requires.fits c.requires.room
