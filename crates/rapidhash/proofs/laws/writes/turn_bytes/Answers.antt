use Rattle.std.proofs.Common.{true, refl}
use Rattle.rapidhash.specs.Sponge.{Bytes}
use Rattle.rapidhash.proofs.HasherLemmas.{represents-bytes, bytes_fit}
use Rattle.rapidhash.proofs.WritesLemmas.{turns-writes}
use Rattle.rapidhash.proofs.laws.writes.turn_bytes.Goals as goal

pub returns : goal.returns
returns g c =
    turns-writes (Bytes _) c.args.number (λ start bits width items h. represents-bytes _ true _ _ bits width _ items _ _ (bytes_fit _ c.type_inv.bytes) refl h)
    c.write_num.ensures.fits c.write.ensures.item c.write_num.ensures.absorbs
