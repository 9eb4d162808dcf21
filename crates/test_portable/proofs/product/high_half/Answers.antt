use Rattle.std.proofs.Common.{◌*◌, ◌/◌, ◌%◌, ◌^◌, ℕ, ap₂, ◌∙◌, arith}
use Rattle.test_portable.proofs.ProductLemmas.{high-by-halves}
use Rattle.test_portable.proofs.product.high_half.Goals as goal

pub returns : goal.returns
returns c =
    let m : ℕ = c.args.first in
    let n : ℕ = c.args.second in
    high-by-halves (m / 2 ^ 32) (m % 2 ^ 32) (n / 2 ^ 32) (n % 2 ^ 32)
    ∙ ap₂ (λ one two. one * two / 2 ^ 64) (omega arith) (omega arith)
