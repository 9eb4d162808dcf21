-- A source of seeds, as callers see it.
use Rattle.std.specs.Prelude.{ℕ, ◌≡◌}
use Rattle.rapidhash_portable.specs.declared.seeding.SeedSource.{SeedSource}
use Rattle.rapidhash_portable.specs.Secrets.{source_answer, source_next}

-- the counter of a source, and its random word
abbrev pub counter_of : SeedSource → ℕ
counter_of source = source.counter

abbrev pub random_of : SeedSource → ℕ
random_of source = source.random

-- a seed is drawn from a source: the counter advances, the random word does not change, and the seed is derived from both
pub record Draws (old new : SeedSource) (seed : ℕ) : Type 0 where
  pub counter : counter_of new ≡ source_next (counter_of old)
  pub random : random_of new ≡ random_of old
  pub answer : seed ≡ source_answer (random_of old) (counter_of new)
