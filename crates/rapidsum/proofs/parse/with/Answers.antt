use Rattle.std.proofs.lemmas.List.{map-set}
use Rattle.rapidsum.proofs.parse.with.Goals as goal

pub returns : goal.returns
returns c = simp (c.rival.ensures.is, map-set)
