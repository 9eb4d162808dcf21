use Rattle.example_shards.proofs.moves.bucket_move.Goals as goal

-- each of the two buckets has the law of the other
pub returns : goal.returns
returns c = record {
  before = c.bucket.ensures.is;
  after = c.bucket-2.ensures.is;
  grown = λ more. c.bucket.ensures.moves c.args.new c.bucket-2.result more c.bucket-2.ensures.is;
  shrunk = λ fewer. c.bucket-2.ensures.moves c.args.count c.bucket.result fewer c.bucket.ensures.is;
}
