-- The start of a test's reader.
use Rattle.std.specs.Prelude.{ℕ, ◌≡◌, List}
use Rattle.std.specs.declared.io.ErrorKind.{ErrorKind}
use Rattle.test_portable.specs.declared.fakes.CountingReader.{CountingReader}

-- a reader before its first read: its bytes, the number of bytes per read, the read that fails, and its error
pub record Starts (reader : CountingReader) (bytes : List ℕ) (at_most failing : ℕ) (error : ErrorKind) : Type 0 where
  pub left : reader.left.now ≡ bytes
  pub most : reader.most ≡ at_most
  pub reads : reader.reads ≡ 0
  pub longest : reader.longest ≡ 0
  pub fails_at : reader.fails_at ≡ failing
  pub kind : reader.kind ≡ error
