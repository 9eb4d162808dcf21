use Rattle.std.proofs.Common.{subst, arith}
use Rattle.std.proofs.lemmas.Grind.{common_steps}
use Rattle.std.specs.Io.KnownBytes.{Consumes}
use Rattle.std.proofs.KnownBytes.{Consumes-trans}
use Rattle.example_dedupe.proofs.Filled.{filled_more}
use Rattle.example_dedupe.proofs.compare.fill.Goals as goal

pub reads-preserved : goal.reads-preserved
reads-preserved g c =
    let i = c.reads.invariant in
    let read = c.in-Ok.ensures in
    record {
      size = grind (arith, common_steps);
      within = grind (arith, common_steps);
      taken = subst (Consumes _ _) (filled_more c.reads.at c.in-Ok.n c.reads.buf c.read.new.buf i.within read.bound.0) (Consumes-trans _ _ _ _ _ i.taken read.bytes.0);
    }
