-- The bytes that a call read from a reader, and the hash of them that it returned.
use Rattle.std.specs.Prelude.{◌≡◌, ℕ, ◌-◌, ◌<◌, ◌≤◌, ◌^◌, Bool, false, List, length, replicate, Option, Result, IfErr, IfOk, IfSome, OnOk}
use Rattle.std.specs.Io.KnownBytes.{Consumes, IsAtEnd}
use Rattle.std.specs.IoError.{error_kind}
use Rattle.std.specs.declared.io.Error.{Error}
use Rattle.std.specs.declared.io.ErrorKind.{ErrorKind}
use Rattle.rapidhash_portable.specs.Folded.{PrefixIsFolded}

-- the call read the next `len` bytes, and they satisfy `Value`
pub record Gave (old new : Option (List ℕ)) (len : ℕ) (Value : List ℕ → Type 0) : Type 0 where
  pub bytes : List ℕ
  pub taken : Consumes old new bytes
  pub count : length bytes ≡ len
  pub value : Value bytes

-- the call read fewer than `len` bytes, which were all bytes of the reader if no read failed
pub record FellShort (old new : Option (List ℕ)) (len : ℕ) (failed : Bool) : Type 0 where
  pub bytes : List ℕ
  pub taken : Consumes old new bytes
  pub count : length bytes < len
  pub all : failed ≡ false → IsAtEnd new

-- the result is the hash of the next `len` bytes of a reader; `failed` is true for the error of a failed read
pub record HashesNext {E : Type 0} (old new : Option (List ℕ)) (len : ℕ) (result : Result ℕ E) (failed : E → Bool) (hash : List ℕ → ℕ) : Type 0 where
  pub ok : IfOk result (λ h. Gave old new len (λ x. h ≡ hash x))
  pub short : IfErr result (λ e. FellShort old new len (failed e))

-- the result is the hash of a reader's remaining bytes; an error without a failed read occurs only after at least 2^64 - 1 bytes
pub record HashesAll {E : Type 0} (old new : Option (List ℕ)) (result : Result ℕ E) (failed : E → Bool) (hash : List ℕ → ℕ) : Type 0 where
  pub bytes : List ℕ
  pub taken : Consumes old new bytes
  pub ok : IfOk result (λ h. (h ≡ hash bytes) × IsAtEnd new)
  pub endless : IfErr result (λ e. failed e ≡ false → 2 ^ 64 - 1 ≤ length bytes)

-- the result is the hash of a reader's bytes, if these are known; the call consumes the reader
abbrev pub HashesKnown : {E : Type 0} → Option (List ℕ) → Result ℕ E → (List ℕ → ℕ) → Type 0
HashesKnown left result hash = IfOk result (λ h. IfSome left (λ x. h ≡ hash x))

-- the error flag is clear after success; if it is clear after an error, the error has the only kind that is not the reader's
pub record FlagsFailures {T : Type 0} (result : Result T Error) (flag : Bool) (kind : ErrorKind) : Type 0 where
  pub clean : OnOk result (flag ≡ false)
  pub kind_is : IfErr result (λ e. flag ≡ false → error_kind e ≡ kind)

-- the call read `len` bytes, and the lanes have folded the rows before a tail
pub record FrontIsFolded (protected : Bool) (secrets : List ℕ) (old new : Option (List ℕ)) (len lanes seed : ℕ) (held tail : List ℕ) : Type 0 where
  pub bytes : List ℕ
  pub taken : Consumes old new bytes
  pub count : length bytes ≡ len
  pub prefix : PrefixIsFolded protected secrets bytes lanes 0 (replicate lanes seed) held tail
