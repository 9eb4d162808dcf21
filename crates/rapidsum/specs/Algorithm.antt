-- The hash that a version and a seed word select.
use Rattle.std.specs.Prelude.{ℕ, Bool, bytes_eq, find, List, Option, None, Some}
use Rattle.rapidhash_portable.specs.declared.form.Form.{Form}
use Rattle.rapidhash_portable.specs.declared.form.Form.TheVariants as form
use Rattle.rapidhash_portable.specs.Form.{standard}
use Rattle.rapidhash_portable.specs.Hash.{portable_hash}
use Rattle.rapidhash_portable.specs.Secrets.{cpp_seeded, default_secrets, default_secrets_v1, default_seed, default_seed_v1}
use Rattle.rapidhash_portable.specs.declared.form.Version.{Version}
use Rattle.rapidhash_portable.specs.Version.{form_of, name_of as version_name, versions}
use Rattle.rapidsum.specs.declared.algorithm.Algorithm.{Algorithm}

-- V1's seed: the default, or the seed derived from a word
abbrev pub seed_by_v1 : Option ℕ → ℕ
seed_by_v1 None = default_seed_v1
seed_by_v1 (Some word) = cpp_seeded word 0

-- the seed of the other versions
abbrev pub seed_by : Option ℕ → ℕ
seed_by None = default_seed
seed_by (Some word) = cpp_seeded word 2

-- the hash with the default secrets and this seed
abbrev pub hash_by : Option ℕ → Form → List ℕ → ℕ
hash_by word (form.V1 bug) x = portable_hash (form.V1 bug) standard (seed_by_v1 word) default_secrets_v1 x
hash_by word (form.V2 minor) x = portable_hash (form.V2 minor) standard (seed_by word) default_secrets x
hash_by word (form.V3 lanes) x = portable_hash (form.V3 lanes) standard (seed_by word) default_secrets x

-- the hash of a file's bytes
abbrev pub hash_of : Algorithm → List ℕ → ℕ
hash_of algorithm x = hash_by algorithm.seed (form_of algorithm.version) x

-- whether a version has a name
abbrev pub is_version : List ℕ → Version → Bool
is_version name version = bytes_eq (version_name version) name

-- the version with a name
unfoldable pub version_named : List ℕ → Option Version
version_named name = find (is_version name) versions
