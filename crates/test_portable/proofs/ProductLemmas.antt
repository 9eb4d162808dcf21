-- The high half of a product by the halves of its factors.
use Rattle.std.proofs.Common.{◌≡◌, ◌<◌, ℕ, ◌+◌, ◌*◌, ◌/◌, ◌%◌, ◌^◌, sym, ap, ◌∙◌, arith}
use Rattle.std.proofs.lemmas.Nat.{div-mul-add}

pub high-by-halves : (a b c d : ℕ) →
    a * c + a * d / 2 ^ 32 + (b * d / 2 ^ 32 + a * d % 2 ^ 32 + b * c) / 2 ^ 32 ≡ (a * 2 ^ 32 + b) * (c * 2 ^ 32 + d) / 2 ^ 64
high-by-halves a b c d =
    let middle : ℕ = b * d / 2 ^ 32 + a * d % 2 ^ 32 + b * c in
    let high : ℕ = a * c + a * d / 2 ^ 32 + middle / 2 ^ 32 in
    let rest : ℕ = middle % 2 ^ 32 * 2 ^ 32 + b * d % 2 ^ 32 in
    let product : (a * 2 ^ 32 + b) * (c * 2 ^ 32 + d) ≡ high * 2 ^ 64 + rest = omega arith in
    let below : rest < 2 ^ 64 = omega arith in
    sym (ap (λ n. n / 2 ^ 64) product ∙ div-mul-add high (2 ^ 64) rest below)
