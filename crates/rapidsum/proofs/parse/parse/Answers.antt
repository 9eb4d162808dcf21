use Rattle.rapidsum.proofs.Meaning.{only-meaning}
use Rattle.rapidsum.proofs.parse.parse.Goals as goal

pub returns-clause-only : goal.returns-clause-only
returns-clause-only g c = λ other is. only-meaning _ _ other c.read.result c.read.ensures is
