use Rattle.std.proofs.Common.{rules}
use Rattle.rapidhash.proofs.HasherLemmas.{represents-wide}
use Rattle.rapidhash.proofs.inner.hasher.RapidHasher.write_u128.Goals as goal

pub returns : goal.returns
returns g c = record {
  secrets = search rules;
  represents = λ start items h. represents-wide _ _ _ _ _ _ _ _ _ _ (search rules) (search rules) h;
}
