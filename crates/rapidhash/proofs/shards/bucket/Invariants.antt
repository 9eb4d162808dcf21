use Rattle.std.proofs.Common.{◌<◌, ◌-◌}
use Rattle.rapidhash.proofs.BucketLemmas.{Walks}
use Rattle.rapidhash.proofs.shards.bucket.Given as goal

abbrev pub invariant-loop-next : goal.invariant-loop-next
invariant-loop-next l = record {
  walks : Walks l.hash l.at l.state l.next;
  below : l.at < l.count;
  past : l.at < l.next;
}

abbrev pub decreases-loop-next : goal.decreases-loop-next
decreases-loop-next l = l.count - l.at
