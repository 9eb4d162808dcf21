use Rattle.example_bloom.proofs.Bits.{set_is}
use Rattle.example_bloom.proofs.filter.set.Goals as goal

pub returns : goal.returns
returns c = set_is c.args.words.now c.args.step c.requires
