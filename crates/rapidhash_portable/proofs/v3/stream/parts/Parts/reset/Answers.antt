use Rattle.std.proofs.Common.{refl}
use Rattle.rapidhash_portable.proofs.StreamLemmas.{PartsRepresent-none}
use Rattle.rapidhash_portable.proofs.v3.stream.parts.Parts.reset.Goals as goal

pub returns-clause-empty : goal.returns-clause-empty
returns-clause-empty g c = PartsRepresent-none _ g.row.LANES _ c.clear.ensures.lanes c.clear.ensures.none refl refl
