use Rattle.std.proofs.Common.{ap, ◌∙◌, arith}
use borrow.Rule.Slice.PartMut.{put_mid}
use Rattle.rapidhash_portable.proofs.SavedLemmas.{put-next}
use Rattle.rapidhash_portable.proofs.v3.stream.saved.put.Goals as goal

pub returns-clause-put : goal.returns-clause-put
returns-clause-put c = λ front zeros here e.
    ap (put_mid c.args.at _ c.args.out.now) c.copy_from_slice.ensures.after
    ∙ put-next c.args.out.now front c.args.piece.now c.args.at _ zeros here (omega arith) e
