use Rattle.std.proofs.Common.{◌≡◌, ◌∙◌, sym, arith, get_or}
use Rattle.std.specs.List.{range_with_len}
use Rattle.std.proofs.lemmas.Grind.{same_number_lists}
use Rattle.std.proofs.lemmas.List.FromFn.{get_or-range_with_len, length-range_with_len}
use Rattle.rapidhash_portable.proofs.v3.stream.saved.counted.Goals as goal

pub returns : goal.returns
returns c =
    let all = c.loop-i.invariant in
    same_number_lists c.loop-i.bytes (range_with_len 0 240) (all.size ∙ sym (length-range_with_len 0 240)) (λ k low.
    let place : get_or (range_with_len 0 240) k 0 ≡ k = omega (arith, all.size, low, get_or-range_with_len 0 240 k 0) in
    all.counted k (omega (arith, all.size, low)) ∙ sym place)
