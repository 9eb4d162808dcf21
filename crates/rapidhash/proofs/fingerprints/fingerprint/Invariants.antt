use Rattle.std.proofs.Common.{◌≡◌, take}
use Rattle.rapidhash.specs.Fingerprints.{fingerprint_of}
use Rattle.rapidhash.proofs.fingerprints.fingerprint.Given as goal

abbrev pub invariant-loop-hash : goal.invariant-loop-hash
invariant-loop-hash l = l.sum ≡ fingerprint_of (take l.hash-index l.hashes)
