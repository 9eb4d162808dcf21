use Rattle.std.proofs.Common.{◌≡◌, bytes_eq, drop}
use Rattle.std.specs.List.{position_from}
use Rattle.rapidsum.specs.Options.{place_named}
use Rattle.rapidsum.proofs.options.place_named.Given as goal

-- the rows that are left decide
abbrev pub invariant-loop-place : goal.invariant-loop-place
invariant-loop-place l = place_named l.rows l.name ≡ position_from (λ row. bytes_eq row.name.now l.name) l.place (drop l.place l.rows)
