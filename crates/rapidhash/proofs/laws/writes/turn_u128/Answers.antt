use Rattle.std.proofs.Common.{true, refl}
use Rattle.rapidhash.specs.Sponge.{Wide}
use Rattle.rapidhash.proofs.HasherLemmas.{represents-wide}
use Rattle.rapidhash.proofs.WritesLemmas.{turns-writes}
use Rattle.rapidhash.proofs.laws.writes.turn_u128.Goals as goal

pub returns : goal.returns
returns g c =
    turns-writes (Wide _) c.args.number (λ start bits width items h. represents-wide _ true _ _ bits width _ items _ _ c.ranges.wide.fits refl h)
    c.write_num.ensures.fits c.write_u128.ensures c.write_num.ensures.absorbs
