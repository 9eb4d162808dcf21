use Rattle.std.proofs.Common.{◌≡◌, bytes_eq, drop, map}
use Rattle.std.specs.Char.{to_ascii_uppercase}
use Rattle.rapidsum.proofs.tag.is_upper_case.Given as goal

-- the bytes that are left decide
abbrev pub invariant-loop-byte : goal.invariant-loop-byte
invariant-loop-byte l =
    bytes_eq (map to_ascii_uppercase l.name) l.text ≡ bytes_eq (map to_ascii_uppercase (drop l.byte-index l.name)) l.rest
