-- The message that a stream hasher represents.
use Rattle.std.specs.Prelude.{◌≡◌, ℕ, ◌+◌, ◌-◌, ◌*◌, ◌<◌, Bool, false, List, [], length, replicate, take, drop, nat_lt}
use Rattle.rapidhash_portable.specs.Folded.{HaveFolded}
use Rattle.rapidhash_portable.specs.Lanes.{rows_in}
use Rattle.rapidhash_portable.specs.declared.secrets.RapidSecrets.{RapidSecrets}
use Rattle.rapidhash_portable.specs.declared.v3.stream.parts.Parts.{Parts}
use Rattle.rapidhash_portable.specs.declared.v3.stream.RapidStreamHasherLanes.{RapidStreamHasherLanes}
use Rattle.rapidhash_portable.specs.declared.v3.stream.c_stream.RapidStream.{RapidStream}

-- the number of folded chunks in `n` bytes; a chunk is a row of a pair per lane, and the last byte is in no folded chunk
abbrev pub chunk_count : ℕ → ℕ → ℕ
chunk_count lanes n = rows_in lanes 1 n

-- the number of bytes in the folded chunks
abbrev pub folded_bytes : ℕ → ℕ → ℕ
folded_bytes lanes n = 16 * (lanes * chunk_count lanes n)

-- the data represent the message `x`: its chunks in the lanes, their count with the `earlier` ones that were folded before the stream was restored, whether there is a chunk, the bytes after the chunks, and the 16 bytes before these if there is a chunk
pub record PartsRepresent (protected : Bool) (lanes earlier : ℕ) (parts : Parts) (x : List ℕ) : Type 0 where
  pub folded :
      HaveFolded protected parts.secrets.now.secrets x lanes (replicate 7 parts.secrets.now.seed) parts.folded.lanes (chunk_count lanes (length x))
  pub steps : earlier + parts.folded.count.steps ≡ chunk_count lanes (length x)
  pub any : parts.any ≡ nat_lt 0 (chunk_count lanes (length x))
  pub buffered : take parts.len (drop 16 parts.kept) ≡ drop (folded_bytes lanes (length x)) x
  pub carried : 0 < chunk_count lanes (length x) → take 16 parts.kept ≡ take 16 (drop (folded_bytes lanes (length x) - 16) x)

-- the hasher represents the message `x`, with the option `protected` of its type, and has folded all but `earlier` of its chunks itself
abbrev pub RepresentsAfter : {lanes avalanche protected' : ℕ} → ℕ → Bool → RapidStreamHasherLanes lanes avalanche protected' → List ℕ → Type 0
RepresentsAfter {lanes} earlier protected hasher x = PartsRepresent protected lanes earlier hasher.state.parts x

-- the same of a hasher that was not restored: it has folded all of them
abbrev pub StreamRepresents : {lanes avalanche protected' : ℕ} → Bool → RapidStreamHasherLanes lanes avalanche protected' → List ℕ → Type 0
StreamRepresents protected hasher x = RepresentsAfter 0 protected hasher x

-- the number of chunks folded since `new`, `restore` or the last `reset`
abbrev pub steps_of : {lanes avalanche protected : ℕ} → RapidStreamHasherLanes lanes avalanche protected → ℕ
steps_of hasher = hasher.state.parts.folded.count.steps

-- the seed and the secrets
abbrev pub secrets_of_stream : {lanes avalanche protected : ℕ} → RapidStreamHasherLanes lanes avalanche protected → RapidSecrets
secrets_of_stream hasher = hasher.state.parts.secrets.now

-- the number of lanes of a stream that has it as a field, and the stream's seed and secrets
abbrev pub lanes_of : RapidStream → ℕ
lanes_of stream = stream.lanes

abbrev pub secrets_by_lanes : RapidStream → RapidSecrets
secrets_by_lanes stream = stream.parts.secrets.now

-- the stream represents the message `x`, and has folded all but `earlier` of its chunks itself
abbrev pub RepresentsByLanes : ℕ → RapidStream → List ℕ → Type 0
RepresentsByLanes earlier stream x = PartsRepresent false stream.lanes earlier stream.parts x

-- the stream represents the empty message, with these lanes and secrets, and has folded no chunk
pub record StartsByLanes (stream : RapidStream) (lanes : ℕ) (secrets : RapidSecrets) : Type 0 where
  pub empty : RepresentsByLanes 0 stream []
  pub count : stream.parts.folded.count.steps ≡ 0
  pub lanes_are : lanes_of stream ≡ lanes
  pub secrets_are : secrets_by_lanes stream ≡ secrets
