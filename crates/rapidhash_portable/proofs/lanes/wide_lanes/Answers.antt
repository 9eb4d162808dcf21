use Rattle.rapidhash_portable.proofs.FoldedLemmas.{PrefixIsFolded-none}
use Rattle.rapidhash_portable.proofs.lanes.wide_lanes.Goals as goal

pub returns : goal.returns
returns g c = c.join_wide.ensures _ _ (PrefixIsFolded-none c.requires.keeps)
