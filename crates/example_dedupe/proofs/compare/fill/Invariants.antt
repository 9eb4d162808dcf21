use Rattle.std.proofs.Common.{◌≡◌, ◌-◌, ◌≤◌, length, take}
use Rattle.std.specs.Io.KnownBytes.{Consumes}
use Rattle.example_dedupe.proofs.compare.fill.Given as goal

abbrev pub invariant-reads : goal.invariant-reads
invariant-reads g l = record {
  size : length l.buf ≡ length l.fn.buf;
  within : l.at ≤ length l.buf;
  taken : Consumes (g.R.Read.remaining l.fn.reader) (g.R.Read.remaining l.reader) (take l.at l.buf);
}

abbrev pub decreases-reads : goal.decreases-reads
decreases-reads g l = length l.buf - l.at
