-- CRC-64/XZ: a message enters a register of 64 bits, from the lowest bit of its first byte on.
use Rattle.std.specs.Prelude.{ℕ, zero, suc, ◌/◌, ◌%◌, List, bit_xor, fold, nat_eq, if◌then◌else◌}

-- the polynomial, with its highest power in the lowest bit
abbrev pub polynomial : ℕ
polynomial = 0xc96c5795d7870f42

-- the register before a message, which is also mixed in behind it
abbrev pub ones : ℕ
ones = 0xffffffffffffffff

-- the register after a shift: a one that falls out mixes in the polynomial
unfoldable pub crc_shift : ℕ → ℕ
crc_shift register = if nat_eq (register % 2) 1 then bit_xor (register / 2) polynomial else register / 2

unfoldable pub crc_shifts : ℕ → ℕ → ℕ
crc_shifts zero register = register
crc_shifts (suc count) register = crc_shifts count (crc_shift register)

-- the register after a byte
unfoldable pub crc_byte : ℕ → ℕ → ℕ
crc_byte register byte = crc_shifts 8 (bit_xor register byte)

unfoldable pub crc64 : List ℕ → ℕ
crc64 bytes = bit_xor (fold crc_byte ones bytes) ones
