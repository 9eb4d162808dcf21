-- Properties of tags, for the function that reads them.
use Rattle.std.proofs.Common.{◌≡◌, ℕ, false, List, ◌∷◌, ◌++◌, Option, None, Some, refl, ◌∙◌}
use Rattle.std.proofs.lemmas.List.{append-nil}
use Rattle.rapidsum.proofs.Lists.{IsLast, has_byte, joined, seed-end, version_read}
use Rattle.rapidsum.specs.Line.{digits_of, seed_text, version_text}
use Rattle.rapidsum.specs.declared.algorithm.Algorithm.{Algorithm}

-- the contract of a split before the first of a byte
abbrev pub IsFound : ℕ → List ℕ → List ℕ → List ℕ → Type 0
IsFound end text front back = (one rest : List ℕ) → has_byte end one ≡ false → text ≡ one ++ end ∷ rest → (front ≡ one) × (back ≡ end ∷ rest)

-- a version's text and a seed word's are split at the colon
seed_split : (seed : Option ℕ) (version tag front back : List ℕ) → IsFound 58 tag front back → IsLast 58 tag front back
    → has_byte 58 version ≡ false → tag ≡ version ++ seed_text seed → (front ≡ version) × (back ≡ seed_text seed)
unfolding seed_text
seed_split None version tag front back found whole none is =
    let plain : tag ≡ version = is ∙ append-nil version in
    let all = whole (rw plain none) in
    (all.0 ∙ plain, all.1)
seed_split (Some word) version tag front back found whole none is = found version (digits_of word) none is

-- a tag is split at the space, and then at the colon
pub tag_split : (algorithm : Algorithm) (rest behind tag after front back : List ℕ) → IsFound 32 behind tag after
    → IsFound 58 tag front back → IsLast 58 tag front back
    → behind ≡ (version_text algorithm.version ++ seed_text algorithm.seed) ++ 32 ∷ rest
    → (front ≡ version_text algorithm.version) × (back ≡ seed_text algorithm.seed) × (after ≡ 32 ∷ rest)
tag_split algorithm rest behind tag after front back space found whole is =
    let version = version_text algorithm.version in
    let read = version_read algorithm.version in
    let none = joined 32 version (seed_text algorithm.seed) read.1 (seed-end 32 algorithm.seed refl refl) in
    let outer = space (version ++ seed_text algorithm.seed) rest none is in
    let inner = seed_split algorithm.seed version tag front back found whole read.2 outer.0 in
    (inner.0, inner.1, outer.1)
