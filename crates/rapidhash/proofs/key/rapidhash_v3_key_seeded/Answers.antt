use Rattle.std.proofs.Common.{◌++◌, refl, sym, ap, ◌∙◌, append_assoc, arith}
use Rattle.rapidhash_portable.specs.Form.{standard, v3}
use Rattle.rapidhash_portable.specs.Hash.{seeded_hash}
use Rattle.rapidhash.proofs.KeyLemmas.{key_bytes-end, key_bytes-step}
use Rattle.rapidhash.proofs.key.rapidhash_v3_key_seeded.Goals as goal

pub loop-field-preserved : goal.loop-field-preserved
loop-field-preserved c =
    let message = c.loop-field.invariant.message in
    let x = message.0 in
    record {
      kept = c.write_field.ensures.secrets ∙ c.loop-field.invariant.kept;
      message = (
        _,
        c.write_field.ensures.adds 0 x message.1,
        message.2
            ∙ ap (λ rest. x ++ rest) (key_bytes-step c.args.fields.now c.loop-field.field-index _ _ (omega arith) refl)
            ∙ sym (append_assoc x _ _),
      );
    }

pub returns : goal.returns
returns c =
    let message = c.loop-field.invariant.message in
    let whole = key_bytes-end c.args.fields.now c.loop-field.field-index message.0 (omega arith) message.2 in
    c.finish.ensures 0 message.0 message.1
    ∙ ap (λ secrets. seeded_hash v3 standard secrets message.0) c.loop-field.invariant.kept
    ∙ ap (λ bytes. seeded_hash v3 standard c.args.secrets.now bytes) (sym whole)
