use Rattle.std.proofs.Common.{◌≡◌, ◌/◌, ◌≤◌, false, length, not, nat_eq, take}
use Rattle.rapidhash_portable.specs.Source.{error_flag, reader_of}
use Rattle.rapidhash_portable.specs.Stream.{StreamRepresents, secrets_of_stream}
use Rattle.rapidhash_portable.proofs.ReadingLemmas.{HaveRead}
use Rattle.rapidhash_portable.proofs.v3.readers.read_all.Given as goal

abbrev pub invariant-loop-turn : goal.invariant-loop-turn
invariant-loop-turn g l = record {
  clean : error_flag l.source ≡ false;
  secrets : secrets_of_stream l.hasher ≡ secrets_of_stream l.fn.hasher;
  size : length l.buffer ≡ g.row.SIZE;
  within : l.at ≤ g.row.SIZE / 2;
  read : HaveRead (g.R.Read.remaining (reader_of l.fn.source)) (g.R.Read.remaining (reader_of l.source)) (λ x. StreamRepresents (not (nat_eq g.row.PROTECTED 0)) l.hasher x) (take l.at l.buffer) l._turn;
}
