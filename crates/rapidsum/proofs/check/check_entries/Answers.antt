use Rattle.rapidsum.proofs.Checks.{right-next, passed-next}
use Rattle.rapidsum.proofs.check.check_entries.Goals as goal

-- src/check.rt:99:5
pub loop-entry-preserved : goal.loop-entry-preserved
loop-entry-preserved g c =
    let pushed = c.in_ok-push.ensures.items in
    let told = g.S.Store.told c.args.store.now in
    record {
      right = right-next c.args.ignore_missing c.args.given told c.args.entries.now c.loop-entry.verdicts.items c.push.new.self.items
          c.entry-item.result c.judge-verdict.result.0 c.loop-entry.entry-index c.loop-entry-test.true c.entry-item.is pushed
          c.loop-entry.invariant.right c.judge-verdict.ensures;
      passed = passed-next c.loop-entry.passed c.passes-passed.result c.loop-entry.verdicts.items c.push.new.self.items
          c.judge-verdict.result.0 c.loop-entry.invariant.passed c.passes-passed.ensures pushed;
    }
