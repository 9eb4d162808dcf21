use Rattle.std.proofs.Common.{◌≡◌, ℕ, length, take, ap, ◌∙◌, arith}
use Rattle.std.proofs.Math.Seq.{take-length}
use Rattle.rapidhash.specs.Fingerprints.{fingerprint_of}
use Rattle.rapidhash.proofs.FingerprintLemmas.{fingerprint-laws}
use Rattle.rapidhash.proofs.fingerprints.fingerprint.Goals as goal

pub returns-clause-laws : goal.returns-clause-laws
returns-clause-laws c =
    let hashes = c.args.hashes.now in
    let end : c.loop-hash.hash-index ≡ length hashes = omega (arith, c.loop-hash-test.false, c.loop-hash.auto.hash-index-end) in
    fingerprint-laws hashes c.loop-hash.sum
    (c.loop-hash.invariant ∙ ap fingerprint_of (ap (λ (k : ℕ). take k hashes) end ∙ take-length hashes))
