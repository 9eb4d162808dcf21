use Rattle.std.proofs.Common.{◌≡◌, if◌then◌else◌, ap, drop, replicate, sym, ◌∙◌}
use Rattle.std.proofs.lemmas.Bool.Decides.{Decides-eqb, Decides-like}
use Rattle.std.proofs.lemmas.List.{take_rest}
use Rattle.std.proofs.lemmas.Slice.Eq.{slice_eq-Decides}
use Rattle.rapidhash_portable.proofs.v3.stream.parts.Parts.unused_hold_seed.Goals as goal
use Rattle.rapidhash_portable.proofs.v3.stream.parts.Parts.unused_hold_seed.Goals.{then-self, else-self}

pub returns : goal.returns
returns g c =
    let s = c.args.self.now in
    let used : c.if-self.used ≡ (if s.any then g.row.LANES else 0) =
    elim c.if-self.branch [
      | then-self w ↦ w.used-is ∙ ap (λ any. if any then g.row.LANES else 0) (sym w.if-self.true)
      | else-self w ↦ w.used-is ∙ ap (λ any. if any then g.row.LANES else 0) (sym w.if-self.false)
    ] in
    let lanes = take_rest c.lanes.result.now c.if-self.used ∙ ap (drop c.if-self.used) c.lanes.ensures ∙ ap (λ n. drop n s.folded.lanes) used in
    let seeds = take_rest (replicate 7 s.secrets.now.seed) c.if-self.used ∙ ap (λ n. drop n (replicate 7 s.secrets.now.seed)) used in
    Decides-like c.eq.result (λ e. sym lanes ∙ e ∙ seeds) (λ e. lanes ∙ e ∙ sym seeds) (slice_eq-Decides Decides-eqb _ _ c.eq.result c.eq.ensures)
