use Rattle.std.proofs.Common.{◌≡◌, ◌<◌, length, arith}
use Rattle.rapidsum.proofs.Lists.{all-read, entry-next, no_other}
use Rattle.rapidsum.proofs.list.read_list.Goals as goal

pub loop-rest-preserved-in-Continue-branch-3 : goal.loop-rest-preserved-in-Continue-branch-3
loop-rest-preserved-in-Continue-branch-3 c = λ lines fit is.
    let before = c.loop-rest.invariant lines fit is in
    let some : 0 < length c.loop-rest.rest.now = grind (arith, c.is_empty.ensures, c.loop-rest-test.true) in
    let after = entry-next c.loop-rest.list.entries.items c.in-Entry.entry c.loop-rest.rest.now c.next_line.result.0.now c.next_line.result.1.now
    lines fit before.1 some c.next_line.ensures.parts
    (λ layout algorithm hash name fits same. rw c.in-Entry.is at c.in_ok-entry.ensures.reads_back layout algorithm hash name fits same) in
    (before.0, rw c.in_ok-push-in-Entry.ensures.items after)

pub loop-rest-preserved-in-Continue-branch-4 : goal.loop-rest-preserved-in-Continue-branch-4
loop-rest-preserved-in-Continue-branch-4 c = λ lines fit is.
    let before = c.loop-rest.invariant lines fit is in
    let some : 0 < length c.loop-rest.rest.now = grind (arith, c.is_empty.ensures, c.loop-rest-test.true) in
    absurd (no_other c.loop-rest.list.entries.items c.loop-rest.rest.now c.next_line.result.0.now c.next_line.result.1.now
    lines fit before.1 some c.next_line.ensures.parts
    (λ layout algorithm hash name fits same. rw c.in-Malformed.is at c.in_ok-entry.ensures.reads_back layout algorithm hash name fits same))

pub loop-rest-preserved : goal.loop-rest-preserved
loop-rest-preserved c = λ lines fit is.
    let before = c.loop-rest.invariant lines fit is in
    let some : 0 < length c.loop-rest.rest.now = grind (arith, c.is_empty.ensures, c.loop-rest-test.true) in
    absurd (no_other c.loop-rest.list.entries.items c.loop-rest.rest.now c.next_line.result.0.now c.next_line.result.1.now
    lines fit before.1 some c.next_line.ensures.parts
    (λ layout algorithm hash name fits same. rw c.in-Comment.is at c.in_ok-entry.ensures.reads_back layout algorithm hash name fits same))

pub returns-clause-reads_back : goal.returns-clause-reads_back
returns-clause-reads_back c = λ lines fit is.
    let before = c.loop-rest.invariant lines fit is in
    let none : length c.loop-rest.rest.now ≡ 0 = grind (arith, c.is_empty.ensures, c.loop-rest-test.false) in
    (before.0, all-read c.loop-rest.list.entries.items c.loop-rest.rest.now lines before.1 none)
