use Rattle.std.proofs.Common.{zero-add, ◌≡◌, ◌+◌, ◌-◌, ◌++◌, false, take, drop, subst, sym, ap, ◌∙◌, arith}
use Rattle.std.proofs.lemmas.List.{take_all}
use Rattle.std.proofs.Math.Seq.{take-add}
use Rattle.rapidhash_portable.specs.Stream.{StreamRepresents}
use Rattle.test_portable.proofs.counts.after_single_bytes.Goals as goal

pub loop-at-init : goal.loop-at-init
loop-at-init g c = c.new-hasher.ensures.empty

pub loop-at-preserved : goal.loop-at-preserved
loop-at-preserved g c =
    let bytes = c.args.bytes.now in
    let at = c.loop-at.at in
    let one : at + 1 - at ≡ 1 = omega arith in
    let more : take at bytes ++ take (at + 1 - at) (drop at bytes) ≡ take (at + 1) bytes = ap (λ n. take at bytes ++ take n (drop at bytes)) one ∙ sym (take-add at 1 bytes) in
    subst (StreamRepresents false c.write.new.self) more (c.write.ensures.adds 0 (take at bytes) c.loop-at.invariant)

pub returns : goal.returns
returns g c =
    let whole = take_all c.loop-at.at c.args.bytes.now (omega arith) in
    let represents = subst (StreamRepresents false c.loop-at.hasher) whole c.loop-at.invariant in
    record { represents = represents; steps = rw zero-add at represents.steps }
