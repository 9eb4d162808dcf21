use Rattle.std.proofs.Common.{◌≡◌, ◌-◌, bit_xor}
use Rattle.rapidhash_portable.specs.Crc.{crc_shifts}
use Rattle.rapidhash_portable.proofs.crc.add_byte.Given as goal

-- the shifts that are left lead to the result
abbrev pub invariant-loop : goal.invariant-loop
invariant-loop l = crc_shifts (8 - l.counter) l.shifted ≡ crc_shifts 8 (bit_xor l.register l.byte)
