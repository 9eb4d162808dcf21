use Rattle.std.proofs.Common.{refl, ap, sym, ◌∙◌}
use Rattle.example_dedupe.proofs.Places.{all_same, failed_placed, joined_placed, leaders_within, leading_placed}
use Rattle.example_dedupe.proofs.groups.place.Goals as goal

pub returns-in-Err : goal.returns-in-Err
returns-in-Err g c = λ bytes count told inside places long placed. failed_placed _ bytes _ _ places c.in-Err.error (λ k. refl) placed

pub returns-in-Ok-Some : goal.returns-in-Ok-Some
returns-in-Ok-Some g c = λ bytes count told inside places long placed.
    let found = c.in_ok-leader.ensures in
    let same = rw c.in-Ok-Some.field-0-is at (rw c.in-Ok-Some.is at found.leaders) in
    let among = rw c.in-Ok-Some.field-0-is at (rw c.in-Ok-Some.is at found.among) in
    let within = leaders_within _ _ _ _ placed c.in-Ok.key c.args.file count long inside in
    let equal = rw c.in-Ok-Some.field-0-is at (rw c.in-Ok-Some.is at (found.same bytes count told inside within)) in
    joined_placed _ bytes _ _ places c.in-Ok.key c.in-Ok-Some.leader (all_same _ _ c.in-Ok.key found.others same) among (equal ∙ ap bytes (sym long)) placed

pub returns-in-Ok-None : goal.returns-in-Ok-None
returns-in-Ok-None g c = λ bytes count told inside places long placed.
    let found = c.in_ok-leader.ensures in
    let added = rw c.in-Ok-None.field-0-is at (rw c.in-Ok-None.is at found.leaders) in
    let within = leaders_within _ _ _ _ placed c.in-Ok.key c.args.file count long inside in
    let differ = rw c.in-Ok-None.field-0-is at (rw c.in-Ok-None.is at (found.same bytes count told inside within)) in
    leading_placed _ bytes _ _ places c.in-Ok.key c.args.file long (sym (rw (told _ inside) at c.in-Ok.ensures)) found.others added differ placed

pub returns-in-Err-2 : goal.returns-in-Err-2
returns-in-Err-2 g c = λ bytes count told inside places long placed.
    let found = c.in_ok-leader.ensures in
    let same = rw c.in-Err-2.is at found.leaders in
    failed_placed _ bytes _ _ places c.in-Err-2.error (all_same _ _ c.in-Ok.key found.others same) placed
