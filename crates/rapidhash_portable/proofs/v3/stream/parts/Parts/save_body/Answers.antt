use Rattle.std.proofs.Common.{◌≡◌, ◌+◌, ◌-◌, ◌*◌, ◌<◌, ◌^◌, All, ◌++◌, ◌∷◌, ℕ, List, if◌then◌else◌, [], length, take, drop, replicate, flat_map, refl, sym, ap, subst, ◌∙◌, length-append, length-drop, arith}
use Rattle.std.proofs.lemmas.List.{length-take-le}
use Rattle.rapidhash_portable.specs.Saved.{saved_body, saved_carried, saved_head, saved_lane}
use Rattle.rapidhash_portable.proofs.SavedLemmas.{body-is, flag-byte, length-saved_lanes}
use Rattle.rapidhash_portable.proofs.v3.stream.parts.Parts.save_body.Goals as goal
use Rattle.rapidhash_portable.proofs.v3.stream.parts.Parts.save_body.Goals.{then-self, else-self}

pub returns-clause-bytes : goal.returns-clause-bytes
unfolding saved_body
returns-clause-bytes g c =
    let s = c.args.self.now in
    let bytes : ℕ → List ℕ = λ any. 114 ∷ 97 ∷ 112 ∷ 105 ∷ 100 ∷ 86 ∷ 51 ∷ 2 ∷ g.row.LANES ∷ c.args.options ∷ any ∷ s.len ∷ 0 ∷ 0 ∷ 0 ∷ 0 ∷ [] in
    let head : List ℕ = saved_head g.row.LANES c.args.options s.any s.len in
    let lanes : List ℕ = flat_map (saved_lane s.secrets.now.seed) s.folded.lanes in
    let one : c.put.new.out ≡ head ++ replicate 184 0 = c.put.ensures.put [] 200 refl refl ∙ ap (λ any. bytes any ++ replicate 184 0) (flag-byte s.any) in
    let seven : 184 - 8 * length c.lanes.result.now ≡ 128 = omega (arith, ap length c.lanes.ensures) in
    let two : c.put_lanes.new.out ≡ (head ++ lanes) ++ replicate 128 0 =
    c.put_lanes.ensures.put head 184 refl one
    ∙ ap (λ n. (head ++ flat_map (saved_lane s.secrets.now.seed) c.lanes.result.now) ++ replicate n 0) seven
    ∙ ap (λ ls. (head ++ flat_map (saved_lane s.secrets.now.seed) ls) ++ replicate 128 0) c.lanes.ensures in
    let carried : c.if-self.carried ≡ saved_carried s = elim c.if-self.branch [
      | then-self w ↦ w.carried-is ∙ w.sixteen-carried.ensures ∙ ap (λ any. if any then take 16 s.kept else replicate 16 0) (sym w.if-self.true)
      | else-self w ↦ w.carried-is ∙ ap (λ any. if any then take 16 s.kept else replicate 16 0) (sym w.if-self.false)
    ] in
    let front : length (head ++ lanes) ≡ 72 = omega (arith, length-saved_lanes s.secrets.now.seed s.folded.lanes, length-append head lanes) in
    let rest : 128 - length c.if-self.carried ≡ 112 = omega arith in
    let three : c.put-2.new.out ≡ ((head ++ lanes) ++ saved_carried s) ++ replicate 112 0 =
    c.put-2.ensures.put (head ++ lanes) 128 (sym front) two
    ∙ ap (λ n. ((head ++ lanes) ++ c.if-self.carried) ++ replicate n 0) rest
    ∙ ap (λ l. ((head ++ lanes) ++ l) ++ replicate 112 0) carried in
    let wide : length (saved_carried s) ≡ 16 = ap length (sym carried) ∙ omega arith in
    let all : length ((head ++ lanes) ++ saved_carried s) ≡ 88 = omega (arith, front, wide, length-append (head ++ lanes) (saved_carried s)) in
    let size : 16 + s.len - 16 ≡ s.len = omega arith in
    let zeros : 112 - length (take s.len (drop 16 s.kept)) ≡ 112 - s.len = ap (λ n. 112 - n) (length-take-le s.len (drop 16 s.kept) (omega (arith, length-drop 16 s.kept))) in
    c.put-3.ensures.put ((head ++ lanes) ++ saved_carried s) 112 (sym all) three
    ∙ ap (λ n. (((head ++ lanes) ++ saved_carried s) ++ take n (drop 16 s.kept)) ++ replicate (112 - length (take n (drop 16 s.kept))) 0) size
    ∙ ap (λ n. (((head ++ lanes) ++ saved_carried s) ++ take s.len (drop 16 s.kept)) ++ replicate n 0) zeros
    ∙ body-is head lanes (saved_carried s) (take s.len (drop 16 s.kept)) (112 - s.len)

pub returns-clause-words : goal.returns-clause-words
returns-clause-words g c = subst (All (λ lane. lane < 2 ^ 64)) c.lanes.ensures c.put_lanes.ensures.words
