use Rattle.std.proofs.Common.{◌≡◌, ℕ, Bool, true, false, bit_xor, cond, ◌∙◌, arith}
use Rattle.std.specs.Int.Bits.{xor_self, xor_zero_l, xor_zero_r}
use Rattle.rapidhash_portable.specs.Multiply.{mix, multiply}
use Rattle.rapidhash.proofs.laws.lane.lane_after_its_secret.Goals as goal

-- a mix whose first number is mixed with itself is 0, and with its factors the other number
mix-secret : (protected : Bool) (secret number : ℕ) → mix protected (bit_xor secret secret) number ≡ cond protected number 0
unfolding mix multiply
mix-secret true secret number = grind (arith, xor_self, xor_zero_l, xor_zero_r)
mix-secret false secret number = grind (arith, xor_self)

pub returns-clause-value : goal.returns-clause-value
returns-clause-value g c = c.rapid_mix.ensures ∙ mix-secret _ c.args.secret (bit_xor c.args.second c.args.lane)
