use Rattle.std.proofs.Common.{◌≡◌, ◌-◌, ◌++◌, ℕ, List, [], length, replicate, bit_xor, refl, sym, ap, ◌∙◌, arith}
use Rattle.std.specs.Int.{w64, to_le_bytes}
use Rattle.std.proofs.lemmas.List.{append-nil}
use Rattle.rapidhash_portable.specs.Crc.{crc64}
use Rattle.rapidhash_portable.specs.Form.{guarded, v3}
use Rattle.rapidhash_portable.specs.Hash.{seeded_hash}
use Rattle.rapidhash_portable.specs.Saved.{checked, secrets_mark}
use Rattle.rapidhash_portable.proofs.v3.stream.parts.Parts.save.Goals as goal

pub returns-clause-bytes : goal.returns-clause-bytes
unfolding secrets_mark
returns-clause-bytes g c =
    let body : List ℕ = c.save_body-body.result in
    let check : List ℕ = c.to_le_bytes.result in
    let size : length body ≡ 200 = omega arith in
    let rest : 208 - length body ≡ 8 = omega (arith, size) in
    let none : 8 - length check ≡ 0 = omega arith in
    let first : c.put.new.out ≡ body ++ replicate 8 0 = c.put.ensures.put [] 208 refl refl ∙ ap (λ n. body ++ replicate n 0) rest in
    c.put-2.ensures.put body 8 (sym size) first
    ∙ ap (λ n. (body ++ check) ++ replicate n 0) none
    ∙ append-nil (body ++ check)
    ∙ ap (λ l. body ++ l) c.to_le_bytes.ensures
    ∙ ap (λ n. body ++ to_le_bytes w64 (bit_xor n c.hash-mark.result)) c.crc64.ensures
    ∙ ap (λ n. body ++ to_le_bytes w64 (bit_xor (crc64 body) n)) (c.hash-mark.ensures ∙ ap (seeded_hash v3 guarded c.args.self.now.secrets.now) c.counted.ensures)
    ∙ ap (checked c.args.self.now.secrets.now) c.save_body-body.ensures.bytes
