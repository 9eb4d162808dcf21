-- The small generator: its states form a single cycle with steps of an odd number, and each state has a word.
use Rattle.std.specs.Prelude.{ℕ, zero, suc, ◌+◌, ◌*◌, ◌/◌, ◌%◌, ◌^◌, false, bit_xor, List, [], ◌++◌, take}
use Rattle.std.specs.Int.{w64, to_le_bytes}
use Rattle.rand_core.specs.Steps.{steps_u64_low, stream_of}
use Rattle.rand_core.specs.Stream.{Stream}
use Rattle.rapidhash_portable.specs.Multiply.{mix}
use Rattle.rapidhash_portable.specs.Secrets.{s0, s1, s2}

-- the state after `count` steps from a seed
abbrev pub state_after : ℕ → ℕ → ℕ
state_after seed count = (seed + count * s0) % 2 ^ 64

-- the word of a state
abbrev pub word_of : ℕ → ℕ
word_of state = mix false state (bit_xor state s1)

-- word `count` from a seed, counted from 1: the word of the state after `count` steps
abbrev pub word_at : ℕ → ℕ → ℕ
word_at seed count = word_of (state_after seed count)

-- the next word, and its state
abbrev pub next_word : ℕ → ℕ × ℕ
next_word seed = (word_at seed 1, state_after seed 1)

-- the results of all calls from a state on: half a word is its low half, and bytes are those of whole words
abbrev pub generator_stream : ℕ → Stream
generator_stream state = stream_of (steps_u64_low next_word) state

-- the little-endian bytes of the words 1 to `count`
abbrev pub bytes_of_words : ℕ → ℕ → List ℕ
bytes_of_words seed zero = []
bytes_of_words seed (suc count) = bytes_of_words seed count ++ to_le_bytes w64 (word_at seed (suc count))

-- the number of words for `size` bytes: one per 8 bytes, rounded up
abbrev pub words_for : ℕ → ℕ
words_for size = (size + 7) / 8

-- the first `size` bytes of the words
abbrev pub first_bytes_of : ℕ → ℕ → List ℕ
first_bytes_of seed size = take size (bytes_of_words seed (words_for size))

-- a time as a number: the low half of its seconds above its nanoseconds
abbrev pub moment_of : ℕ → ℕ → ℕ
moment_of secs nanos = secs % 2 ^ 32 * 2 ^ 32 + nanos

-- the seed derived from a time and another seed
abbrev pub seed_at_moment : ℕ → ℕ → ℕ → ℕ
seed_at_moment seed secs nanos =
    let moment = mix false (bit_xor (moment_of secs nanos) s0) (bit_xor seed s1) in
    mix false (bit_xor moment s0) s2

-- the word of a time: that of the derived seed
abbrev pub word_at_moment : ℕ → ℕ → ℕ → ℕ
word_at_moment seed secs nanos = word_of (seed_at_moment seed secs nanos)
