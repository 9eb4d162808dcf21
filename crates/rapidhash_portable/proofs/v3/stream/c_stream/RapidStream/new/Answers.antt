use Rattle.std.proofs.Common.{refl}
use Rattle.rapidhash_portable.proofs.StreamLemmas.{PartsRepresent-none}
use Rattle.rapidhash_portable.proofs.v3.stream.c_stream.RapidStream.new.Goals as goal

pub returns : goal.returns
returns c = record {
  start = record {
    empty = PartsRepresent-none _ _ _ c.new.ensures.lanes c.new.ensures.none refl refl;
    count = c.new.ensures.none;
    lanes_are = refl;
    secrets_are = refl;
  };
}
