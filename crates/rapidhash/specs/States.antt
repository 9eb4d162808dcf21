-- The states in contracts: a seed and secrets, their equality, and the hasher that a state builds.
use Rattle.std.specs.Prelude.{ℕ, Bool, List, ◌==◌, ◌&&◌, nat_eq}
use Rattle.std.specs.Cmp.Lexicographic.{pointwise}
use Rattle.rapidhash.specs.RapidHasher.{fresh}
use Rattle.rapidhash.specs.declared.inner.hasher.RapidHasher.{RapidHasher}
use Rattle.rapidhash.specs.declared.inner.state.seeded.Seeded.{Seeded}
use Rattle.rapidhash.specs.declared.inner.state.State.{State}

-- whether two seeds and their secrets are the same
abbrev pub seeded_eq : Seeded → Seeded → Bool
seeded_eq x y = x.seed == y.seed && pointwise nat_eq x.secrets.now y.secrets.now

-- the hasher with a seed and secrets
abbrev pub hasher_of : {avalanche sponge compact protected : ℕ} → Seeded → RapidHasher avalanche sponge compact protected
hasher_of seeded = fresh seeded.seed seeded.secrets

-- a state's seed and secrets, whether two states are equal, and the hasher that a state builds
abbrev pub seed_of_state : {K : Type 0} {i j k l : ℕ} → State K i j k l → ℕ
seed_of_state state = state.seeded.seed

abbrev pub secrets_of_state : {K : Type 0} {i j k l : ℕ} → State K i j k l → List ℕ
secrets_of_state state = state.seeded.secrets.now

abbrev pub state_eq : {K : Type 0} {i j k l : ℕ} → State K i j k l → State K i j k l → Bool
state_eq x y = seeded_eq x.seeded y.seeded

abbrev pub built_by : {K : Type 0} {i j k l : ℕ} → State K i j k l → RapidHasher i j k l
built_by state = hasher_of state.seeded
