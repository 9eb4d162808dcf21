use Rattle.std.proofs.Common.{◌≡◌, ◌++◌, ℕ, List, false, drop}
use Rattle.rapidhash_portable.specs.Stream.{StreamRepresents, secrets_of_stream}
use Rattle.rapidhash.specs.Key.{key_bytes}
use Rattle.rapidhash.proofs.key.rapidhash_v3_key_seeded.Given as goal

abbrev pub invariant-loop-field : goal.invariant-loop-field
invariant-loop-field l =
    record {
      kept : secrets_of_stream l.hasher ≡ l.secrets;
      message : (x : List ℕ) × StreamRepresents false l.hasher x
          × (key_bytes l.fields ≡ x ++ key_bytes (drop l.field-index l.fields));
    }
