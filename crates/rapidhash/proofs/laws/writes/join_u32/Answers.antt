use Rattle.std.proofs.Common.{inl, inr, refl, arith}
use Rattle.rapidhash.proofs.WritesLemmas.{joins-writes}
use Rattle.rapidhash.proofs.laws.writes.join_u32.Goals as goal

pub returns : goal.returns
returns g c =
    joins-writes 32 _ _ (inr (inr (inl refl)), omega arith) (inr (inr (inl refl)), omega arith) (inr (inr (inr refl)), omega arith) c.write_u32.ensures c.write_u32-2.ensures
