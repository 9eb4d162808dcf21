-- Keys by their index.
use Rattle.std.proofs.Common.{◌↔◌, mod-lt, ◌≡◌, ◌<◌, ℕ, List, Bor, Bool, true, Some, length, map, nat_eq, get_or, slice_get, option_map, ap, ◌∙◌, sym, subst}
use Rattle.std.proofs.lemmas.Bool.Decides.{Decides-eqb}
use Rattle.std.proofs.lemmas.List.{length-map}
use Rattle.std.proofs.lemmas.Option.{slice_get-map, slice_get-get_or, slice_get_within, same_Some}
use Rattle.std.proofs.lemmas.Slice.Eq.{slice_eq-Decides}
use Rattle.std.specs.Bool.{Decides}
use Rattle.example_perfect.specs.Table.{place_of}
use lib.Pointwise.{pointwise}

-- the element at an index is the key with that index
pub key_there : (keys : List (Bor (List ℕ))) (i : ℕ) (d : Bor (List ℕ)) → i < length keys
    → slice_get (map (λ key. key.now) keys) i ≡ Some (get_or keys i d).now
key_there keys i d inside =
    slice_get-map (λ (key : Bor (List ℕ)). key.now) keys i ∙ ap (option_map (λ (key : Bor (List ℕ)). key.now)) (slice_get-get_or keys i d inside)

-- the key with an index is there
pub key_within : (keys : List (Bor (List ℕ))) (i : ℕ) (key : List ℕ) → slice_get (map (λ key. key.now) keys) i ≡ Some key → i < length keys
key_within keys i key at =
    subst (λ (n : ℕ). i < n) (length-map keys (λ (key : Bor (List ℕ)). key.now)) (slice_get_within (map (λ (key : Bor (List ℕ)). key.now) keys) i key at)

pub key_is : (keys : List (Bor (List ℕ))) (i : ℕ) (key : List ℕ) (d : Bor (List ℕ)) → slice_get (map (λ key. key.now) keys) i ≡ Some key → key ≡ (get_or keys i d).now
key_is keys i key d at = same_Some key (get_or keys i d).now (sym at ∙ key_there keys i d (key_within keys i key at))

-- a place is below the count of places
pub place_inside : (key : List ℕ) (seed places : ℕ) → 0 < places → place_of key seed places < places
unfolding place_of
place_inside key seed places some = mod-lt _ some

-- a comparison with the element at an index decides whether it is the key with that index
pub is_key : (keys : List (Bor (List ℕ))) (i : ℕ) (found : Bor (List ℕ)) (key : List ℕ) (r : Bool)
    → i < length keys → found ≡ get_or keys i found → r ≡ pointwise nat_eq found.now key
    → (r ≡ true) ↔ (slice_get (map (λ key. key.now) keys) i ≡ Some key)
is_key keys i found key r inside is compared =
    let there : slice_get (map (λ (key : Bor (List ℕ)). key.now) keys) i ≡ Some found.now = key_there keys i found inside ∙ ap (λ (k : Bor (List ℕ)). Some k.now) (sym is) in
    let same : Decides r (found.now ≡ key) = slice_eq-Decides Decides-eqb found.now key r compared in (
      (λ yes. there ∙ ap (λ (k : List ℕ). Some k) (same.0 yes)),
      (λ at. same.1 (same_Some found.now key (sym there ∙ at))),
    )
