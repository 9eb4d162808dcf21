use Rattle.std.proofs.Common.{rules}
use Rattle.rapidhash.proofs.HasherLemmas.{represents-new}
use Rattle.rapidhash.proofs.inner.hasher.RapidHasher.from_parts.Goals as goal

pub returns-clause-represents : goal.returns-clause-represents
returns-clause-represents g c = rw c.empty.ensures (represents-new _ _ _ _ (search rules))
