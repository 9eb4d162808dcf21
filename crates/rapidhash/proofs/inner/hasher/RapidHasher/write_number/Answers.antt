use Rattle.std.proofs.Common.{rules}
use Rattle.rapidhash.proofs.HasherLemmas.{represents-behind, represents-opening, represents-number}
use Rattle.rapidhash.proofs.inner.hasher.RapidHasher.write_number.Goals as goal

pub returns-then-self-width : goal.returns-then-self-width
returns-then-self-width g c = record {
  secrets = search rules;
  represents = λ start items h. represents-behind _ _ _ _ _ _ _ _ _ _ _ _ (search rules) (c.requires.width, c.requires.fits) (search rules) (search rules) (search rules) h;
}

pub returns-else-self-width : goal.returns-else-self-width
returns-else-self-width g c = record {
  secrets = search rules;
  represents = λ start items h. represents-opening _ _ _ _ _ _ _ _ _ _ _ _ _ (search rules) (c.requires.width, c.requires.fits) (search rules) (search rules) (search rules) (search rules) h;
}

pub returns-else-this-ne0 : goal.returns-else-this-ne0
returns-else-this-ne0 g c = record {
  secrets = search rules;
  represents = λ start items h. represents-number _ _ _ _ _ _ _ _ _ _ _ (search rules) (c.requires.width, c.requires.fits) (search rules) h;
}
