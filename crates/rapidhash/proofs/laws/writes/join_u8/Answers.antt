use Rattle.std.proofs.Common.{inl, inr, refl, arith}
use Rattle.rapidhash.proofs.WritesLemmas.{joins-writes}
use Rattle.rapidhash.proofs.laws.writes.join_u8.Goals as goal

pub returns : goal.returns
returns g c =
    joins-writes 8 _ _ (inl refl, omega arith) (inl refl, omega arith) (inr (inl refl), omega arith) c.write_u8.ensures c.write_u8-2.ensures
