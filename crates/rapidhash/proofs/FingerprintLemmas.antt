-- The laws of fingerprints.
use Rattle.std.proofs.Common.{◌≡◌, ◌<◌, ℕ, ◌+◌, ◌-◌, ◌%◌, ◌^◌, List, length, get_or, set, ◌++◌, sym, ap, ◌∙◌, arith}
use Rattle.std.specs.List.Sorted.{IsPermutation}
use Rattle.std.proofs.lemmas.List.Sorted.{sum_by-IsPermutation}
use Rattle.std.proofs.lemmas.List.Sums.{sum_by-append, sum_by-set}
use Rattle.rapidhash.specs.Fingerprints.{FingerprintLaws, fingerprint_of}

-- a part is put to another
pub fingerprint-append : (xs ys : List ℕ) → fingerprint_of (xs ++ ys) ≡ (fingerprint_of xs + fingerprint_of ys) % 2 ^ 64
fingerprint-append xs ys = ap (λ n. n % 2 ^ 64) (sum_by-append (λ x. x) xs ys) ∙ omega arith

-- a part is taken from the whole
pub fingerprint-less : (xs ys : List ℕ) → (fingerprint_of (xs ++ ys) + (2 ^ 64 - fingerprint_of ys)) % 2 ^ 64 ≡ fingerprint_of xs
fingerprint-less xs ys = omega (arith, fingerprint-append xs ys)

pub fingerprint-laws : (xs : List ℕ) (fingerprint : ℕ) → fingerprint ≡ fingerprint_of xs → FingerprintLaws xs fingerprint
fingerprint-laws xs fingerprint is = rw is record {
  in_any_order = λ ys same. ap (λ n. n % 2 ^ 64) (sum_by-IsPermutation (λ x. x) xs ys same);
  appends = λ ys. fingerprint-append xs ys;
  replaces = λ i other below. omega (arith, sum_by-set (λ x. x) xs i other 0 below);
}

pub ruleset fingerprints = (fingerprint-append, fingerprint-less, fingerprint-laws)
