use Rattle.std.proofs.Common.{◌≡◌, ◌==◌, false, drop}
use Rattle.std.specs.List.{position_from}
use Rattle.std.specs.Option.{option_map_or}
use Rattle.rapidsum.specs.Options.{place_lettered}
use Rattle.rapidsum.proofs.options.place_lettered.Given as goal

-- the rows that are left decide
abbrev pub invariant-loop-place : goal.invariant-loop-place
invariant-loop-place l = place_lettered l.rows l.letter ≡ position_from (λ row. option_map_or (λ own. own == l.letter) row.letter false) l.place (drop l.place l.rows)
