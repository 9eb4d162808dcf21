-- The keys that a table finds.
use Rattle.std.specs.Prelude.{◌≡◌, ℕ, ◌<◌, ◌%◌, List, true, false, length, map, max, slice_index, slice_get, Some}
use Rattle.rapidhash.specs.Form.{standard, v3}
use Rattle.rapidhash.specs.Hash.{default_hash, portable_hash}
use Rattle.rapidhash.specs.Secrets.{cpp_seeded, default_secrets}
use Rattle.example_perfect.specs.declared.displace.Displaced.{Displaced}
use Rattle.example_perfect.specs.declared.table.Table.{Table}

-- the bucket of a key
unfoldable pub bucket_of : List ℕ → ℕ → ℕ
bucket_of key buckets = default_hash v3 standard key % buckets

-- the index of a key with a seed
unfoldable pub place_of : List ℕ → ℕ → ℕ → ℕ
place_of key seed places = portable_hash v3 standard (cpp_seeded seed 2) default_secrets key % places

-- the index of a key, with the seed of its bucket
abbrev pub place_in : Table → List ℕ → ℕ
place_in table key =
    place_of key (slice_index table.seeds.items (bucket_of key (length table.seeds.items))) (length table.places.items)

-- the keys of the table
abbrev pub keys_of : Table → List (List ℕ)
keys_of table = map (λ key. key.now) table.keys.now

-- key number `i`, counted from 0, is this text
abbrev pub IsKeyAt : Table → ℕ → List ℕ → Type 0
IsKeyAt table i key = slice_get (keys_of table) i ≡ Some key

-- there is a bucket, and there are as many places as keys, or one if there is no key
pub record HasPlaces (keys : ℕ) (displaced : Displaced) : Type 0 where
  pub bucket : 0 < length displaced.seeds.items
  pub place : 0 < length displaced.places.items
  pub size : length displaced.places.items ≡ max keys 1

pub record HasRoom (table : Table) : Type 0 where
  pub bucket : 0 < length table.seeds.items
  pub place : 0 < length table.places.items
  pub size : length table.places.items ≡ max (length table.keys.now) 1

-- each key has an index below the number of places, the place has the key's number, and no other key has that index;
-- there are no more places than keys (`room`)
pub record IsPerfect (table : Table) : Type 0 where
  pub room : HasRoom table
  pub inside : (i : ℕ) (key : List ℕ) → IsKeyAt table i key → place_in table key < length table.places.items
  pub stands : (i : ℕ) (key : List ℕ) → IsKeyAt table i key → slice_index table.places.items (place_in table key) ≡ i
  pub own : (i j : ℕ) (key other : List ℕ) → IsKeyAt table i key → IsKeyAt table j other → place_in table key ≡ place_in table other → i ≡ j
