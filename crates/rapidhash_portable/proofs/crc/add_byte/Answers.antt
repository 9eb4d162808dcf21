use Rattle.std.proofs.Common.{◌≡◌, ℕ, ◌-◌, ◌+◌, sym, ap, ◌∙◌, arith}
use Rattle.rapidhash_portable.specs.Crc.{crc_byte, crc_shifts}
use Rattle.rapidhash_portable.proofs.CrcLemmas.{shifts-first}
use Rattle.rapidhash_portable.proofs.crc.add_byte.Goals as goal

pub loop-preserved : goal.loop-preserved
loop-preserved c =
    let left : ℕ = 8 - (c.loop.counter + 1) in
    ap (crc_shifts left) c.shift-shifted.ensures
    ∙ sym (shifts-first (8 - c.loop.counter) left c.loop.shifted (omega arith))
    ∙ c.loop.invariant

pub returns : goal.returns
unfolding crc_byte crc_shifts
returns c = let none : 8 - c.loop.counter ≡ 0 = omega arith in ap (λ count. crc_shifts count c.loop.shifted) (sym none) ∙ c.loop.invariant
