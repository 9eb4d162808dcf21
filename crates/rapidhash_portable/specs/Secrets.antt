-- Secrets derived from a seed, or from random words.
use Rattle.std.specs.Prelude.{◌≢◌, ℕ, zero, suc, ◌+◌, ◌%◌, ◌^◌, ◌==◌, false, List, [], ◌∷◌, map, slice_index, bit_and, bit_or, bit_xor, if◌then◌else◌}
use Rattle.std.specs.List.{range_with_len}
use Rattle.rapidhash_portable.specs.Multiply.{mix}

-- the seven default secrets, of which V1 has the first three
abbrev pub s0 : ℕ
s0 = 0x2d358dccaa6c78a5

abbrev pub s1 : ℕ
s1 = 0x8bb84b93962eacc9

abbrev pub s2 : ℕ
s2 = 0x4b33a62ed433d4a3

abbrev pub s3 : ℕ
s3 = 0x4d5a2da51de1aa47

abbrev pub s4 : ℕ
s4 = 0xa0761d6478bd642f

abbrev pub s5 : ℕ
s5 = 0xe7037ed1a0b428db

abbrev pub s6 : ℕ
s6 = 0x90ed1765281c388c

abbrev pub default_secrets : List ℕ
default_secrets = s0 ∷ s1 ∷ s2 ∷ s3 ∷ s4 ∷ s5 ∷ s6 ∷ []

abbrev pub default_secrets_v1 : List ℕ
default_secrets_v1 = s0 ∷ s1 ∷ s2 ∷ []

-- the number from which V1's default seed is derived, and with which a random word's global seed is mixed
abbrev pub v1_number : ℕ
v1_number = 0xbdd89aa982704029

-- a word with a set bit in each of its upper, middle and lower part; it is not 0
pub record IsGood (word : ℕ) : Type 0 where
  pub upper : bit_and word 0xffff000000000000 ≢ 0
  pub middle : bit_and word 0xffff000000 ≢ 0
  pub lower : bit_and word 0xffff ≢ 0

-- a word, with a bit set if it has none of a mask's bits
unfoldable pub with_bit : ℕ → ℕ → ℕ → ℕ
with_bit word mask bit = if bit_and word mask == 0 then bit_or word bit else word

-- a word, repaired with at most one further bit in each part
unfoldable pub repaired : ℕ → ℕ
repaired word =
    let upper = with_bit word 0xffff000000000000 0x8000000000000000 in
    let middle = with_bit upper 0xffff000000 0x80000000 in
    with_bit middle 0xffff 1

-- a word mixed with the default secret at an index, and repaired
unfoldable pub premixed : ℕ → ℕ → ℕ
premixed word place = repaired (bit_xor word (mix false (bit_xor word s2) (slice_index default_secrets place)))

-- a word after `count` premixes, with default secrets 0, 1 and so on
unfoldable pub chained : ℕ → ℕ → ℕ
chained word zero = word
chained word (suc count) = premixed (chained word count) count

-- the secrets derived from a seed: secret 0 premixes the seed, each other the previous secret, with the default secret at its own index
unfoldable pub chained_secrets : ℕ → ℕ → List ℕ
chained_secrets count seed = map (λ place. chained seed (place + 1)) (range_with_len 0 count)

-- the seed derived from a number
unfoldable pub seeded : ℕ → ℕ
seeded number = premixed number 0

-- the secrets derived from a number
abbrev pub seeded_secrets : ℕ → ℕ → List ℕ
seeded_secrets count number = chained_secrets count (seeded number)

-- the seed derived from a number for use with the default secrets, mixed with default secret 0 in V1 and with 2 in the others
unfoldable pub cpp_seeded : ℕ → ℕ → ℕ
cpp_seeded number place = bit_xor number (mix false (bit_xor number (slice_index default_secrets place)) s1)

-- the default seed of V1, and that of the others
abbrev pub default_seed_v1 : ℕ
default_seed_v1 = cpp_seeded v1_number 0

abbrev pub default_seed : ℕ
default_seed = cpp_seeded 0 2

-- the seed derived from a seed, with the version's last default secret: index 2 in V1, 6 in the others
unfoldable pub reseeded : ℕ → ℕ → ℕ
reseeded seed place = premixed seed place

-- the global seed derived from a random word
unfoldable pub global_seed : ℕ → ℕ
global_seed random = mix false (bit_xor random s0) v1_number

-- the states from which a random word's secrets are derived: a first state, then repaired mixes with default secrets 0, 1 and so on
unfoldable pub made_state : ℕ → ℕ → ℕ
made_state random zero = mix false (bit_xor random s2) s1
made_state random (suc count) =
    repaired (mix false (bit_xor (made_state random count) s0) (bit_xor random (slice_index default_secrets count)))

-- the seven secrets of a random word: the states after the first
unfoldable pub made_secrets : ℕ → List ℕ
made_secrets random = map (λ place. made_state random (place + 1)) (range_with_len 0 7)

-- the start value of a seed source's counter, from a global seed and a second random word
unfoldable pub source_start : ℕ → ℕ → ℕ
source_start global random = mix false (bit_xor ((1 + random) % 2 ^ 64) s3) (bit_xor global s4)

-- the counter after a further seed
abbrev pub source_next : ℕ → ℕ
source_next counter = (counter + s0) % 2 ^ 64

-- the seed that a source returns at a counter
unfoldable pub source_answer : ℕ → ℕ → ℕ
source_answer random counter = bit_xor counter (mix false (bit_xor counter s2) (bit_xor random s1))
