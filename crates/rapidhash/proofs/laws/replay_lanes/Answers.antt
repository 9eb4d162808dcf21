use Rattle.std.proofs.Common.{◌≡◌, ◌+◌, ◌++◌, ◌∷◌, [], not, nat_eq, subst, sym, ap, ◌∙◌, arith, append_assoc, drop}
use Rattle.rapidhash_portable.specs.declared.form.Form.TheVariants.{V3}
use Rattle.rapidhash_portable.specs.Form.{options}
use Rattle.rapidhash_portable.specs.Hash.{seeded_hash}
use Rattle.rapidhash_portable.specs.Stream.{StreamRepresents, secrets_of_stream}
use Rattle.rapidhash.specs.Replay.{finishes_from}
use Rattle.rapidhash.proofs.ReplayLemmas.{finishes_from-step}
use Rattle.rapidhash.proofs.laws.replay_lanes.Goals as goal
use Rattle.rapidhash.proofs.laws.replay_lanes.Goals.{in-Write, in-Finish+in_ok-push-in-Finish, in-Reset}

pub loop-op-preserved : goal.loop-op-preserved
unfolding finishes_from
loop-op-preserved g c =
    let P = not (nat_eq g.row.PROTECTED 0) in
    let chosen = options (not (nat_eq g.row.AVALANCHE 0)) P in
    let secrets = c.args.secrets.now in
    let ops = c.args.ops.now in
    let i = c.loop-op.op-index in
    let kept = c.loop-op.invariant.kept in
    let items = c.loop-op.answers.items in
    let message = c.loop-op.invariant.message in
    let x = message.0 in
    elim c.match-op.branch [
      | in-Write w ↦
          let y = x ++ w.in-Write.piece.now in
          record {
            kept = ap secrets_of_stream w.hasher-is ∙ w.write.ensures.secrets ∙ kept;
            message = (
              y,
              subst (λ h. StreamRepresents P h y) (sym w.hasher-is) (w.write.ensures.adds 0 x message.1),
              message.2
                  ∙ ap (λ a. items ++ a) (finishes_from-step g.row.LANES chosen secrets x ops i _ _ (omega arith) w.in-Write.is)
                  ∙ ap (λ v. v.items ++ finishes_from g.row.LANES chosen secrets y (drop (i + 1) ops)) (sym w.answers-is),
            );
          }
      | in-Finish+in_ok-push-in-Finish w ↦
          let rest = finishes_from g.row.LANES chosen secrets x (drop (i + 1) ops) in
          let hash = w.finish.ensures 0 x message.1 ∙ ap (λ s. seeded_hash (V3 g.row.LANES) chosen s x) kept in
          let pushed : w.push.new.self.items ≡ items ++ w.finish.result ∷ [] = rw w.in_ok-push-in-Finish.was at w.push.ensures.items in
          record {
            kept = ap secrets_of_stream w.hasher-is ∙ kept;
            message = (
              x,
              subst (λ h. StreamRepresents P h x) (sym w.hasher-is) message.1,
              message.2
                  ∙ ap (λ a. items ++ a) (finishes_from-step g.row.LANES chosen secrets x ops i _ _ (omega arith) w.in-Finish.is)
                  ∙ ap (λ h. items ++ h ∷ rest) (sym hash)
                  ∙ sym (append_assoc items (w.finish.result ∷ []) rest)
                  ∙ ap (λ a. a ++ rest) (sym pushed)
                  ∙ ap (λ v. v.items ++ rest) (sym w.answers-is),
            );
          }
      | in-Reset w ↦
          record {
            kept = ap secrets_of_stream w.hasher-is ∙ w.reset.ensures.secrets ∙ kept;
            message = (
              [],
              subst (λ h. StreamRepresents P h []) (sym w.hasher-is) w.reset.ensures.empty,
              message.2
                  ∙ ap (λ a. items ++ a) (finishes_from-step g.row.LANES chosen secrets x ops i _ _ (omega arith) w.in-Reset.is)
                  ∙ ap (λ v. v.items ++ finishes_from g.row.LANES chosen secrets [] (drop (i + 1) ops)) (sym w.answers-is),
            );
          }
    ]
