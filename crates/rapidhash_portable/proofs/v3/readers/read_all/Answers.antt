use native.Mathlib.Numerals.{unary_clauses}
use Rattle.std.proofs.Common.{◌<◌, ◌≤◌, ◌∙◌, ◌++◌, ℕ, ap, arith, length, not, nat_eq, subst, sym, take, true}
use Rattle.std.proofs.KnownBytes.{Consumes-trans}
use Rattle.std.proofs.lemmas.Grind.{common_steps}
use Rattle.std.proofs.lemmas.List.{append-nil, length-take-le}
use Rattle.rapidhash_portable.specs.declared.form.Form.TheVariants.{V3}
use Rattle.rapidhash_portable.specs.Form.{options}
use Rattle.rapidhash_portable.specs.Hash.{seeded_hash}
use Rattle.rapidhash_portable.specs.Stream.{StreamRepresents}
use Rattle.rapidhash_portable.proofs.ListLemmas.{filled_more}
use Rattle.rapidhash_portable.proofs.ReadingLemmas.{HaveRead-added, HaveRead-more}
use Rattle.rapidhash_portable.proofs.v3.readers.read_all.Goals as goal
use Rattle.rapidhash_portable.proofs.v3.readers.read_all.Goals.{then-at, else-at}

pub loop-turn-preserved : goal.loop-turn-preserved
loop-turn-preserved g c =
    let inv = c.loop-turn.invariant in
    let n : ℕ = c.in_ok-n.n in
    let buf = c.read.new.buf in
    let fits : n ≤ length buf = omega (arith, c.in_ok-n.ensures.bound) in
    let within : c.loop-turn.at ≤ length c.loop-turn.buffer = omega (arith, inv.within, inv.size) in
    let filled = filled_more c.loop-turn.at n c.loop-turn.buffer buf within fits in
    let some : 0 < length (take n buf) = omega (arith, length-take-le n buf fits, c.if-n-eq0.false) in
    let more = HaveRead-more inv.read _ (take n buf) c.in_ok-n.ensures.bytes.0 some in
    let kept = rw filled at more in
    elim c.if-at.branch [
      | then-at w ↦ record {
        clean = grind (arith, common_steps);
        secrets = grind (arith, common_steps);
        size = grind (arith, common_steps);
        within = grind (arith, common_steps);
        read = rw (w.hasher-is, w.at-is) (HaveRead-added (λ x. StreamRepresents (not (nat_eq g.row.PROTECTED 0)) w.write-then-at.new.self x) kept (w.write-then-at.ensures.adds 0));
      }
      | else-at w ↦ record {
        clean = grind (arith, common_steps);
        secrets = grind (arith, common_steps);
        size = grind (arith, common_steps);
        within = grind (arith, common_steps);
        read = rw (w.hasher-is, w.at-is) kept;
      }
    ]

pub returns-then-n-eq0-clause-all : goal.returns-then-n-eq0-clause-all
returns-then-n-eq0-clause-all g c =
    let inv = c.loop-turn.invariant in
    let bytes = c.in_ok-n.ensures.bytes in
    let none = c.if-n-eq0.true in
    let within : c.loop-turn.at ≤ length c.loop-turn.buffer = omega (arith, inv.within, inv.size) in
    let same = simp unary_clauses at (rw none at (filled_more c.loop-turn.at c.in_ok-n.n c.loop-turn.buffer c.read.new.buf within (omega (arith, c.in_ok-n.ensures.bound)))) in
    let kept = sym (append-nil (take c.loop-turn.at c.loop-turn.buffer)) ∙ same in
    let x = inv.read.front ++ take c.loop-turn.at c.loop-turn.buffer in
    let represents = subst (λ k. StreamRepresents (not (nat_eq g.row.PROTECTED 0)) c.write.new.self (inv.read.front ++ k)) (sym kept) (c.write.ensures.adds 0 inv.read.front inv.read.represents) in
    let secrets = c.write.ensures.secrets ∙ inv.secrets in
    let room : 0 < length c.read.new.buf = omega (arith, inv.within, inv.size) in
    record {
      bytes = x;
      taken = rw append-nil at (Consumes-trans _ _ _ x _ inv.read.taken (rw none at bytes.0));
      ok = (c.finish.ensures 0 x represents ∙ ap (λ s. seeded_hash (V3 g.row.LANES) (options true (not (nat_eq g.row.PROTECTED 0))) s x) secrets, bytes.1 none room);
      endless = tt;
    }
