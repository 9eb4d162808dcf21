-- The groups of equal files.
use Rattle.std.specs.Prelude.{◌≡◌, ◌↔◌, ◌<◌, ℕ, Contains, ◌++◌, [], ◌∷◌, Bool, List, Option, Some, None, Result, Ok, Err, length, nat_eq, nat_lt, unwrap_or, slice_get, if◌then◌else◌}
use Rattle.std.specs.declared.io.Error.{Error}
use Rattle.std.specs.declared.vec.Vec.{Vec}
use Rattle.std.specs.HashMap.{get, HashMap}

-- the bytes of the readers of each of this number of files
abbrev pub Tells : (ℕ → Option (List ℕ)) → ℕ → (ℕ → List ℕ) → Type 0
Tells told count bytes = (file : ℕ) → file < count → told file ≡ Some (bytes file)

-- whether more than one file has this size
abbrev pub shared : {S : Type 0} → HashMap ℕ ℕ S → ℕ → Bool
shared sizes size = nat_lt 1 (unwrap_or (get nat_eq sizes size) 0)

-- the key with which a file of these bytes is looked up
abbrev pub key_of : {S : Type 0} → (List ℕ → ℕ) → HashMap ℕ ℕ S → List ℕ → ℕ
key_of number sizes bytes = if shared sizes (length bytes) then number bytes else length bytes

-- the leaders with a key
abbrev pub items_of : {Z : Type 0} → Option (Vec ℕ Z) → List ℕ
items_of None = []
items_of (Some leaders) = leaders.items

abbrev pub leaders_of : {S Z : Type 0} → HashMap ℕ (Vec ℕ Z) S → ℕ → List ℕ
leaders_of by_key key = items_of (get nat_eq by_key key)

-- the leaders after a look-up: a file that equals none of them is added
abbrev pub leaders_after : Result (Option ℕ) Error → ℕ → List ℕ → List ℕ
leaders_after (Ok None) file leaders = leaders ++ file ∷ []
leaders_after (Ok (Some leader)) file leaders = leaders
leaders_after (Err error) file leaders = leaders

-- each file has its leader, or the error that prevented it: two files have the same leader exactly if their bytes are equal
abbrev pub GroupsByBytes : (ℕ → List ℕ) → List (Result ℕ Error) → Type 0
GroupsByBytes bytes places = (i j l m : ℕ) → slice_get places i ≡ Some (Ok l) → slice_get places j ≡ Some (Ok m) → (l ≡ m) ↔ (bytes i ≡ bytes j)

-- the same within the search for leaders: the leaders of each key, and the results so far
pub record ArePlaced (key : List ℕ → ℕ) (bytes : ℕ → List ℕ) (leaders : ℕ → List ℕ) (places : List (Result ℕ Error)) : Type 0 where
  pub are_leaders : (k r : ℕ) → Contains (leaders k) r → slice_get places r ≡ Some (Ok r)
  pub are_found : (r : ℕ) → slice_get places r ≡ Some (Ok r) → Contains (leaders (key (bytes r))) r
  pub are_led : (i l : ℕ) → slice_get places i ≡ Some (Ok l) → (slice_get places l ≡ Some (Ok l)) × (bytes l ≡ bytes i)
  pub are_apart : (r s : ℕ) → slice_get places r ≡ Some (Ok r) → slice_get places s ≡ Some (Ok s) → bytes r ≡ bytes s → r ≡ s
