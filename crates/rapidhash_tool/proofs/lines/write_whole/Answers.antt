use Rattle.std.proofs.Common.{arith, length-drop}
use Rattle.rapidhash_tool.proofs.Bytes.{Appends_more, rest_of}
use Rattle.rapidhash_tool.proofs.lines.write_whole.Goals as goal

pub loop-at-preserved : goal.loop-at-preserved
loop-at-preserved g c = (
  omega (arith, length-drop c.loop-at.at c.args.bytes.now, rw rest_of at c.in-Ok.ensures.bound),
  Appends_more _ _ _ c.args.bytes.now c.loop-at.at c.in-Ok.taken c.loop-at.invariant.1 c.in-Ok.ensures.bytes,
)
