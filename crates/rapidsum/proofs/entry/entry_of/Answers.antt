use Rattle.rapidsum.proofs.Lines.{behind_backslash}
use Rattle.rapidsum.proofs.entry.entry_of.Goals as goal

pub returns-in-Some : goal.returns-in-Some
returns-in-Some g c = λ layout algorithm hash name fits is.
    c.escaped_entry.ensures layout algorithm hash name fits
    (behind_backslash layout algorithm hash name c.args.line.now c.in-Some.body.now is c.in-Some.ensures)
