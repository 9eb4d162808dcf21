use Rattle.std.proofs.Common.{◌≡◌, drop}
use Rattle.rapidsum.specs.Seed.{number_from}
use Rattle.rapidsum.proofs.seed.number_of.Given as goal

-- the digits that are left follow those of the number
abbrev pub invariant-loop-byte : goal.invariant-loop-byte
invariant-loop-byte l = number_from 0 l.digits ≡ number_from l.number (drop l.byte-index l.digits)
