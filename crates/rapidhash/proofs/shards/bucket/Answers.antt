use Rattle.rapidhash.proofs.BucketLemmas.{bucket-moves, walks-end}
use Rattle.rapidhash.proofs.shards.bucket.Goals as goal

pub returns-clause-moves : goal.returns-clause-moves
returns-clause-moves c = λ more other few is.
    bucket-moves _ c.args.count _ _ _ few (walks-end _ _ _ _ _ c.loop-next.invariant.walks c.loop-next.invariant.below c.loop-next-test.false) is
