-- The errors: their numbers, their texts, and the errors that each call may return.
use Rattle.std.specs.Prelude.{ℕ, ◌<◌, codes, List}
use Rattle.rapidhash_tool.specs.declared.faults.CliFault.{CliFault}
use Rattle.rapidhash_tool.specs.declared.faults.CliFault.TheVariants.{File, Memory, Open, Stdin, Versions, Write}
use Rattle.rapidhash_tool.specs.declared.version.RapidhashVersion.{RapidhashVersion}
use Rattle.rapidhash_tool.specs.Hashes.{NeedsLength}

-- each error's number
abbrev pub number_of : CliFault → ℕ
number_of Versions = 1
number_of Open = 2
number_of Stdin = 3
number_of Memory = 4
number_of File = 5
number_of Write = 6

-- each error's line on standard error, without its newline
abbrev pub text_of : CliFault → List ℕ
text_of Versions = codes "You must specify a single rapidhash version to use. See --help for more."
text_of Open = codes "Could not open file."
text_of Stdin = codes "Could not read from stdin."
text_of Memory = codes "Out of memory."
text_of File = codes "Failed to hash file."
text_of Write = codes "Could not write to stdout."

-- hashing standard input stops if a read fails or the reads have no end, or if an allocation fails for a version that keeps the whole input
abbrev pub MayStopStdin : RapidhashVersion → CliFault → Type 0
MayStopStdin version Stdin = Unit {0}
MayStopStdin version Memory = NeedsLength version
MayStopStdin version Versions = ⊥
MayStopStdin version Open = ⊥
MayStopStdin version File = ⊥
MayStopStdin version Write = ⊥

-- hashing a file of `len` bytes stops if a read fails, the reads have no end, or the file is shorter; never if it must read no byte
abbrev pub MayStopFile : RapidhashVersion → ℕ → CliFault → Type 0
MayStopFile version len File = NeedsLength version → 0 < len
MayStopFile version len Versions = ⊥
MayStopFile version len Open = ⊥
MayStopFile version len Stdin = ⊥
MayStopFile version len Memory = ⊥
MayStopFile version len Write = ⊥

-- printing the hash of standard input stops for the same reasons, or if a write fails
abbrev pub MayStopStdinRun : RapidhashVersion → CliFault → Type 0
MayStopStdinRun version Write = Unit {0}
MayStopStdinRun version fault = MayStopStdin version fault

-- the same for printing the hash of a file
abbrev pub MayStopFileRun : RapidhashVersion → ℕ → CliFault → Type 0
MayStopFileRun version len Write = Unit {0}
MayStopFileRun version len fault = MayStopFile version len fault
