use Rattle.std.proofs.Common.{subst, arith}
use Rattle.std.proofs.lemmas.Grind.{common_steps}
use Rattle.std.specs.Io.KnownBytes.{Consumes}
use Rattle.std.proofs.KnownBytes.{Consumes-trans}
use Rattle.rapidhash_portable.proofs.ListLemmas.{filled_more}
use Rattle.rapidhash_portable.proofs.known_length.fill.Goals as goal

pub loop-at-preserved : goal.loop-at-preserved
loop-at-preserved g c =
    let i = c.loop-at.invariant in
    let read = c.in-Ok.ensures in
    record {
      size = grind (arith, common_steps);
      within = grind (arith, common_steps);
      taken = subst (Consumes _ _) (filled_more c.loop-at.at c.in-Ok.n c.loop-at.buf c.read_once.new.buf i.within read.bound.0) (Consumes-trans _ _ _ _ _ i.taken read.bytes.0);
    }
