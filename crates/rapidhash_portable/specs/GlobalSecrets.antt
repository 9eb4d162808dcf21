-- Secrets derived from a random word, as callers see them.
use Rattle.std.specs.Prelude.{ℕ, List}
use Rattle.rapidhash_portable.specs.declared.seeding.GlobalSecrets.{GlobalSecrets}

-- the global seed
abbrev pub seed_of : GlobalSecrets → ℕ
seed_of secrets = secrets.seed

-- the seven derived secrets
abbrev pub secrets_of_global : GlobalSecrets → List ℕ
secrets_of_global secrets = secrets.secrets
