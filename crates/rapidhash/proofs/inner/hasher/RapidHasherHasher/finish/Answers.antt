use Rattle.std.proofs.Common.{rules, ◌∙◌}
use Rattle.rapidhash.proofs.HasherLemmas.{represents-finish}
use Rattle.rapidhash.proofs.inner.hasher.RapidHasherHasher.finish.Goals as goal

pub returns-then-this-ne0-clause-represents : goal.returns-then-this-ne0-clause-represents
returns-then-this-ne0-clause-represents g c start list h = search rules ∙ represents-finish _ _ _ _ _ _ _ _ h

pub returns-else-this-ne0-clause-represents : goal.returns-else-this-ne0-clause-represents
returns-else-this-ne0-clause-represents g c start list h = search rules ∙ represents-finish _ _ _ _ _ _ _ _ h
