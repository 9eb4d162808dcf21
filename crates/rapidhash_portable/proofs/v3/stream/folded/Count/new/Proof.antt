-- `new` makes the empty struct, whose ghost field is 0.
use Rattle.std.proofs.Common.{[], ◌∷◌, refl}
use Rattle.std.proofs.raw_atomic.Walks.{proved}
use mir.Val.{vstruct, vnil}
use base.Logic.{emp, via, fst∗}
use types.Kit.{‵, raw, ◌$◌, ◌∵◌, !, qed, move, suffices, done}
use types.Run.{no_more, returns, enter}
use types.Part.{agg}
use types.ByLocal.{alloc_all, pass_all, free_all, look_at, sets}
use denote.RattleType.{owns}
use denote.Shadow.{pure_i}
use denote.Triple.Entry.{alive}
use denote.Triple.Walked.{Stays, ends_at, says}
use Rattle.rapidhash_portable.specs.contracts.v3.stream.folded.Count.{the_row}
use Rattle.rapidhash_portable.specs.contracts.v3.stream.folded.Count.new as f
use Rattle.rapidhash_portable.proofs.v3.stream.folded.Count.new.Statement.{statement}
use Rattle.rapidhash_portable.proofs.v3.stream.folded.Count.new.Code as code

abbrev stayed : Stays f.ended.signature.params f.ended.kept
stayed = tt

pub new_spec : {M : Type 1} → statement M
new_spec 𝓤 𝓛 𝓜 𝓡 wired =
    let c = f.clauses 𝓛 𝓜.mem 𝓡.returns in
    proved 𝓛 f.ended stayed c 𝓜 𝓡 tt f.Key.name code.function (code.unfolded 𝓤 𝓛.H 𝓜 𝓡 wired) (λ κs. tt) (λ κs. tt) (λ κs qs bounds a g are.
    via 𝓤 _ (fst∗ 𝓤 _ (emp 𝓤)) (qed 𝓛 (raw (alive 𝓛 f.signature tt tt) ∷ ‵ (owns [] tt tt) ∷ []) ∵ enter ! _ _ _ _ _ $
    alloc_all ! (λ l. pass_all ! refl tt $ sets ! (agg ! (no_more !)) refl (tt, tt) $ returns ! (look_at ! 0 refl) $ free_all ! refl $
    suffices ! _ (ends_at 𝓛 f.ended stayed c ((tt, tt, tt, tt, tt), tt) (vstruct vnil) (record { steps = 0 }) tt tt) $ says ! refl $
    pure_i ! (the_row.own_val (record { steps = 0 }) (vstruct vnil ∷ [])) ((λ vss. (tt, tt)), tt) ((tt, (refl, tt)), tt) $
    move ! (1 ∷ 2 ∷ 0 ∷ []) $ done !)))
