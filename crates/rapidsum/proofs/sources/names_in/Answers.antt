use Rattle.std.proofs.Common.{◌≡◌, ◌<◌, length, arith}
use Rattle.rapidsum.proofs.Named.{all-named, name-next}
use Rattle.rapidsum.proofs.sources.names_in.Goals as goal

pub loop-rest-preserved : goal.loop-rest-preserved
loop-rest-preserved c = λ names last are plain is.
    let some : 0 < length c.loop-rest.rest.now = grind (arith, c.is_empty.ensures, c.loop-rest-test.true) in
    rw c.in_ok-push.ensures.items (name-next last c.loop-rest.names.items c.next_line.result.0 c.loop-rest.rest.now c.next_line.result.1.now
    names are plain (c.loop-rest.invariant names last are plain is) some c.next_line.ensures.parts c.next_line.ensures.last)

pub returns : goal.returns
returns c = λ names last are plain is.
    let none : length c.loop-rest.rest.now ≡ 0 = grind (arith, c.is_empty.ensures, c.loop-rest-test.false) in
    all-named last c.loop-rest.names.items c.loop-rest.rest.now names (c.loop-rest.invariant names last are plain is) none
