use Rattle.std.proofs.Common.{◌+◌, ◌-◌, List, ℕ, length, ap, arith}
use borrow.Rule.Slice.PartMut.{put_mid}
use Rattle.rapidhash_portable.proofs.StreamLemmas.{PartsRepresent-fits}
use Rattle.rapidhash_portable.proofs.v3.stream.parts.Parts.write.Goals as goal

pub returns-then-piece-self-clause-adds : goal.returns-then-piece-self-clause-adds
returns-then-piece-self-clause-adds g c = λ earlier x h.
    let s = c.args.self.now in
    let d = c.args.piece.now in
    let j : ℕ = 16 + s.len + length d - (16 + s.len) in
    let after = ap (λ (l : List ℕ). put_mid (16 + s.len) j s.kept l) c.copy_piece.ensures in
    PartsRepresent-fits c.requires.lanes h (omega arith) c.requires.fits d _ j (omega arith) after
