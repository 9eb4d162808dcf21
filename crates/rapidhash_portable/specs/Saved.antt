-- The bytes of a saved stream.
use Rattle.std.specs.Prelude.{◌≡◌, ℕ, map, nat_eq, slice_index, ◌-◌, ◌*◌, ◌<◌, ◌≤◌, ◌^◌, Bool, true, List, [], ◌∷◌, ◌++◌, length, take, drop, replicate, bit_xor, flat_map, All, if◌then◌else◌}
use Rattle.std.specs.Int.{w64, from_le_bytes, to_le_bytes}
use Rattle.std.specs.List.{range_with_len}
use Rattle.rapidhash_portable.specs.Crc.{crc64}
use Rattle.rapidhash_portable.specs.Form.{guarded, v3}
use Rattle.rapidhash_portable.specs.Hash.{seeded_hash}
use Rattle.rapidhash_portable.specs.Stream.{PartsRepresent, secrets_of_stream, steps_of}
use Rattle.rapidhash_portable.specs.declared.secrets.RapidSecrets.{RapidSecrets}
use Rattle.rapidhash_portable.specs.declared.v3.stream.parts.Parts.{Parts}
use Rattle.rapidhash_portable.specs.declared.v3.stream.RapidStreamHasherLanes.{RapidStreamHasherLanes}

-- the options as a byte: 1 for AVALANCHE and 2 for PROTECTED
abbrev pub option_byte : Bool → Bool → ℕ
option_byte avalanche protected = if protected then (if avalanche then 3 else 2) else (if avalanche then 1 else 0)

-- "rapidV3", the version of the format, the lanes, the options, whether there is a chunk, and the number of buffered bytes
abbrev pub saved_head : ℕ → ℕ → Bool → ℕ → List ℕ
saved_head lanes options any len =
    114 ∷ 97 ∷ 112 ∷ 105 ∷ 100 ∷ 86 ∷ 51 ∷ 2 ∷ lanes ∷ options ∷ (if any then 1 else 0) ∷ len ∷ 0 ∷ 0 ∷ 0 ∷ 0 ∷ []

-- a lane that has folded nothing is zeros
abbrev pub saved_lane : ℕ → ℕ → List ℕ
saved_lane seed lane = to_le_bytes w64 (bit_xor lane seed)

-- the last folded bytes
abbrev pub saved_carried : Parts → List ℕ
saved_carried parts = if parts.any then take 16 parts.kept else replicate 16 0

-- all but the check
unfoldable pub saved_body : ℕ → ℕ → Parts → List ℕ
saved_body lanes options parts =
    saved_head lanes options parts.any parts.len ++ (flat_map (saved_lane parts.secrets.now.seed) parts.folded.lanes
    ++ (saved_carried parts ++ (take parts.len (drop 16 parts.kept) ++ replicate (112 - parts.len) 0)))

-- what tells secrets apart: protected V3 of the bytes 0 to 239, so that no contents hide a secret
unfoldable pub secrets_mark : RapidSecrets → ℕ
secrets_mark secrets = seeded_hash v3 guarded secrets (range_with_len 0 240)

-- the check: the CRC finds damage, and the mark finds other secrets
abbrev pub saved_check : RapidSecrets → List ℕ → ℕ
saved_check secrets body = bit_xor (crc64 body) (secrets_mark secrets)

-- the bytes, and the check behind them
abbrev pub checked : RapidSecrets → List ℕ → List ℕ
checked secrets body = body ++ to_le_bytes w64 (saved_check secrets body)

-- the 208 bytes of a saved stream
abbrev pub saved_parts : ℕ → ℕ → Parts → List ℕ
saved_parts lanes options parts = checked parts.secrets.now (saved_body lanes options parts)

abbrev pub saved_bytes : {lanes avalanche protected' : ℕ} → Bool → Bool → RapidStreamHasherLanes lanes avalanche protected' → List ℕ
saved_bytes {lanes} avalanche protected hasher = saved_parts lanes (option_byte avalanche protected) hasher.state.parts

-- the lane in the 8 bytes from a place on
abbrev pub restored_lane : List ℕ → ℕ → ℕ → ℕ
restored_lane bytes seed at = bit_xor (from_le_bytes w64 (take 8 (drop at bytes))) seed

-- the data are those in the bytes, and no chunk is counted
pub record AreIn (bytes : List ℕ) (parts : Parts) : Type 0 where
  pub lanes : parts.folded.lanes ≡ map (restored_lane bytes parts.secrets.now.seed) (16 ∷ 24 ∷ 32 ∷ 40 ∷ 48 ∷ 56 ∷ 64 ∷ [])
  pub any : parts.any ≡ nat_eq (slice_index bytes 10) 1
  pub len : parts.len ≡ slice_index bytes 11
  pub kept : parts.kept ≡ take 128 (drop 72 bytes)
  pub none : parts.folded.count.steps ≡ 0

-- the lanes that have folded nothing hold the seed
abbrev pub UnusedHoldSeed : ℕ → Parts → Type 0
UnusedHoldSeed lanes parts =
    let used : ℕ = if parts.any then lanes else 0 in
    drop used parts.folded.lanes ≡ drop used (replicate 7 parts.secrets.now.seed)

-- the hasher would save these bytes, has the secrets, the seed in each unused lane, a buffered byte after any chunk, and has folded no chunk itself
pub record IsRestored {lanes avalanche' protected' : ℕ} (avalanche protected : Bool) (secrets : RapidSecrets) (bytes : List ℕ)
    (hasher : RapidStreamHasherLanes lanes avalanche' protected') : Type 0 where
  pub bytes_are : saved_bytes avalanche protected hasher ≡ bytes
  pub secrets_are : secrets_of_stream hasher ≡ secrets
  pub unused : UnusedHoldSeed lanes hasher.state.parts
  pub least : hasher.state.parts.any ≡ true → 0 < hasher.state.parts.len
  pub count : steps_of hasher ≡ 0

-- the bytes are those of some saved stream that represents the message `x` under the secrets
pub record IsSaved (avalanche protected : Bool) (lanes : ℕ) (secrets : RapidSecrets) (x bytes : List ℕ) : Type 0 where
  pub parts : Parts
  pub earlier : ℕ
  pub represents : PartsRepresent protected lanes earlier parts x
  pub secrets_are : parts.secrets.now ≡ secrets
  pub words : All (λ lane. lane < 2 ^ 64) parts.folded.lanes
  pub size : length parts.kept ≡ 128
  pub fits : parts.len ≤ 16 * lanes
  pub bytes_are : saved_parts lanes (option_byte avalanche protected) parts ≡ bytes
