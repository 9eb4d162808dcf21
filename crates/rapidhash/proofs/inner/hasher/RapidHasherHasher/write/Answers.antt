use Rattle.std.proofs.Common.{rules}
use Rattle.rapidhash.proofs.HasherLemmas.{represents-bytes, bytes_fit}
use Rattle.rapidhash.proofs.inner.hasher.RapidHasherHasher.write.Goals as goal

pub returns-clause-item : goal.returns-clause-item
returns-clause-item g c = record {
  secrets = search rules;
  represents = λ start items h. represents-bytes _ _ _ _ _ _ _ _ _ _ (bytes_fit _ c.type_inv.bytes) (search rules) h;
}
