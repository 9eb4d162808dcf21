-- A source as callers see it, and the reasons why a hash over a reader stops.
use Rattle.std.specs.Prelude.{◌≡◌, ℕ, Bool, true, false, Result, Ok, Err, IsErr, IsErrAnd}
use Rattle.std.specs.IoError.{error_kind}
use Rattle.std.specs.declared.io.Error.{Error}
use Rattle.std.specs.declared.io.ErrorKind.TheVariants.{UnexpectedEof}
use Rattle.rapidhash_portable.specs.declared.reader.Source.{Source}
use Rattle.rapidhash_portable.specs.declared.reader.Stop.{Stop}
use Rattle.rapidhash_portable.specs.declared.reader.Stop.TheVariants.{Ended, Failed}

-- whether the error flag is set
abbrev pub error_flag : {R : Type 0} → Source R → Bool
error_flag source = source.error_flag

-- the reader inside
abbrev pub reader_of : {R : Type 0} → Source R → R
reader_of source = source.reader

-- the source with another reader inside
abbrev pub with_reader : {R : Type 0} → Source R → R → Source R
with_reader source reader = record { reader = reader; error_flag = source.error_flag }

-- whether a read failed
abbrev pub is_failed : Stop → Bool
is_failed (Failed read) = true
is_failed Ended = false

-- a call's result and error flag, from a hash's result: a failed read sets the flag, and an early end has its own error kind
abbrev pub Settles : Result ℕ Stop → Result ℕ Error → Bool → Bool → Type 0
Settles (Ok hash) result old new = (result ≡ Ok hash) × (new ≡ old)
Settles (Err (Failed read)) result old new = IsErr result × (new ≡ true)
Settles (Err Ended) result old new = IsErrAnd result (λ e. error_kind e ≡ UnexpectedEof) × (new ≡ old)
