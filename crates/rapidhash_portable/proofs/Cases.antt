-- The rulesets that attributes name: tests of numbers, and the lemmas that prove function bodies.
use Rattle.std.proofs.lemmas.Bool.Decides.{nat_tests}
use Rattle.rapidhash_portable.proofs.FoldedLemmas.{AfterRows-none}
use Rattle.rapidhash_portable.proofs.FormLemmas.{shape_of-v3-none}
use Rattle.rapidhash_portable.proofs.HashLemmas.{hash-short}
use Rattle.rapidhash_portable.proofs.InMemoryLemmas.{after_pairs-is, after_pairs-short}
use Rattle.rapidhash_portable.proofs.ReadingLemmas.{FlagsFailures-settles, FrontIsFolded-none, HashesAll-known}
use Rattle.rapidhash_portable.proofs.SecretsLemmas.{AreFilled-more, chained-more, made_state-more}
use Rattle.rapidhash_portable.proofs.TailLemmas.{after_tail-none, after_tail-more, after_tail-same, after_tail-whole}
use Rattle.rapidhash_portable.proofs.WordsLemmas.{last_words-long, last_words-short}

pub ruleset tests = (nat_tests)

-- up to 16 bytes, no rows
pub ruleset short = (nat_tests, hash-short)

pub ruleset no_rows = (nat_tests, AfterRows-none, shape_of-v3-none)

-- the tail
pub ruleset tail = (nat_tests, after_tail-none, after_tail-more, after_tail-same, after_tail-whole)

-- secrets
pub ruleset filled = (AreFilled-more, chained-more, made_state-more)

-- the in-memory core
pub ruleset in_core = (after_pairs-is, after_pairs-short, last_words-long, last_words-short)

-- readers
pub ruleset of_reader = (FlagsFailures-settles, FrontIsFolded-none, HashesAll-known)
