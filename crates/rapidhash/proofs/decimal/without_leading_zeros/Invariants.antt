use Rattle.std.proofs.Common.{◌≡◌, length}
use Rattle.rapidhash.specs.Decimal.{skip_zeros}
use Rattle.rapidhash.proofs.decimal.without_leading_zeros.Given as goal

abbrev pub invariant-loop-digits : goal.invariant-loop-digits
invariant-loop-digits l = skip_zeros l.digits ≡ skip_zeros l.fn.digits

abbrev pub decreases-loop-digits : goal.decreases-loop-digits
decreases-loop-digits l = length l.digits
