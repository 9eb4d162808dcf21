-- A test of the elements, before and after a map.
use Rattle.std.proofs.Common.{position, ◌≡◌, ◌||◌, ◌+◌, Bool, not, cond, List, [], ◌∷◌, map, refl, ap}
use Rattle.std.proofs.lemmas.List.{length-map}
use Rattle.std.specs.List.{list_any, position_or_len}

pub list_any-map : {A B : Type 0} (test : B → Bool) (f : A → B) (xs : List A) → list_any (λ x. test (f x)) xs ≡ list_any test (map f xs)
list_any-map test f [] = refl
list_any-map test f (x ∷ xs) = ap (λ b. test (f x) || b) (list_any-map test f xs)

pub position_or_len-map : {A B : Type 0} (test : B → Bool) (f : A → B) (xs : List A) → position_or_len (λ x. test (f x)) xs ≡ position_or_len test (map f xs)
position_or_len-map test f [] = refl
position_or_len-map test f (x ∷ xs) = ap (λ k. cond (not (test (f x))) (1 + k) 0) (position_or_len-map test f xs)

pub position-map : {A B : Type 0} (test : B → Bool) (f : A → B) (xs : List A) → position (λ x. test (f x)) xs ≡ position test (map f xs)
position-map test f xs = rw (position_or_len-map test f xs, length-map)
