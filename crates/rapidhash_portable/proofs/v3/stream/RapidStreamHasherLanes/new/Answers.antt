use Rattle.std.proofs.Common.{refl}
use Rattle.rapidhash_portable.proofs.StreamLemmas.{PartsRepresent-none}
use Rattle.rapidhash_portable.proofs.v3.stream.RapidStreamHasherLanes.new.Goals as goal

pub returns-clause-empty : goal.returns-clause-empty
returns-clause-empty g c = PartsRepresent-none _ g.row.LANES _ c.new.ensures.lanes c.new.ensures.none refl refl
