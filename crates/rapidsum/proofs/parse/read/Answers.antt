use Rattle.std.proofs.Common.{sym}
use Rattle.std.proofs.lemmas.List.{map-append}
use Rattle.rapidsum.proofs.Meaning.{less}
use Rattle.rapidsum.specs.Outcome.{added, ended, failed, given, refused}
use Rattle.rapidsum.proofs.parse.read.Goals as goal

pub returns-in-Some : goal.returns-in-Some
returns-in-Some g c =
    c.loop-place.invariant _ (refused _ _ _ _ _ _ _ _ _ (rw c.in-Ok-Option.field-0-is at c.in-Ok-Option.ensures.begins) (sym c.in-Some.ensures))

pub loop-place-smaller-in-Ok-Option : goal.loop-place-smaller-in-Ok-Option
loop-place-smaller-in-Ok-Option g c = less _ _ _ _ (rw c.in-Ok-Option.field-0-is at c.in-Ok-Option.ensures.begins)

pub loop-place-preserved-in-Ok-Option : goal.loop-place-preserved-in-Ok-Option
loop-place-preserved-in-Ok-Option g c = λ made means. c.loop-place.invariant made
    (given _ _ _ _ _ _ _ _ made (rw c.in-Ok-Option.field-0-is at c.in-Ok-Option.ensures.begins) (sym c.in_default.ensures) (rw c.with-options.ensures at means))

pub loop-place-smaller : goal.loop-place-smaller
loop-place-smaller g c = less _ _ _ _ (rw c.in-Ok-File.field-0-is at c.in-Ok-File.ensures.begins)

pub loop-place-preserved : goal.loop-place-preserved
loop-place-preserved g c = λ made means. c.loop-place.invariant made
    (added _ _ _ _ _ _ made (rw c.in-Ok-File.field-0-is at c.in-Ok-File.ensures.begins) (rw (c.in_ok-push-in-Ok-File.ensures.items, map-append (λ file. file.now) c.loop-place.files.items _) at means))

pub returns-in-Ok-Files : goal.returns-in-Ok-Files
returns-in-Ok-Files g c = c.loop-place.invariant _
    (rw (c.call_of.ensures, c.in_ok-add-in-Ok-Files.ensures) (ended _ _ _ _ _ (rw c.in-Ok-Files.field-0-is at c.in-Ok-Files.ensures.begins)))

pub returns-in-Err : goal.returns-in-Err
returns-in-Err g c = c.loop-place.invariant _ (failed _ _ _ _ _ _ c.in-Err.ensures.begins)
