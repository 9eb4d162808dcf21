use Rattle.std.proofs.Common.{inl, inr, refl, arith}
use Rattle.rapidhash.proofs.WritesLemmas.{joins-writes}
use Rattle.rapidhash.proofs.laws.writes.join_u16.Goals as goal

pub returns : goal.returns
returns g c =
    joins-writes 16 _ _ (inr (inl refl), omega arith) (inr (inl refl), omega arith) (inr (inr (inl refl)), omega arith) c.write_u16.ensures c.write_u16-2.ensures
