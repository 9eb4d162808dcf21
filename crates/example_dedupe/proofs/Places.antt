-- Places of files, one more per iteration.
use Rattle.std.proofs.Common.{◌≡◌, ◌≢◌, ◌⊎◌, ◌<◌, ℕ, zero, suc, List, [], ◌∷◌, ◌++◌, Some, length, get_or, refl, ap, subst, arith, ◌∙◌, sym, ⊎_elim, inl, inr}
use Rattle.std.specs.Prelude.{All, Contains, Result, Ok, Err, slice_get}
use Rattle.std.specs.declared.io.Error.{Error}
use Rattle.std.proofs.lemmas.Bool.{cases_eq}
use Rattle.std.proofs.lemmas.List.Elements.{All-contains, All-from_get_or, Contains-get_or, Contains-append_left, Contains-push, Contains-push_cases}
use Rattle.std.proofs.lemmas.Option.{slice_get_within}
use Rattle.example_dedupe.specs.Groups.{ArePlaced, GroupsByBytes}

none_there : {X : Type 0} (i : ℕ) (x : X) → slice_get [] i ≡ Some x → ⊥
none_there zero x is = cc
none_there (suc i) x is = cc

-- an element that is there stays there
still : {X : Type 0} (xs : List X) (y : X) (i : ℕ) (x : X) → slice_get xs i ≡ Some x → slice_get (xs ++ y ∷ []) i ≡ Some x
still [] y i x is = absurd (none_there i x is)
still (z ∷ xs) y zero x is = is
still (z ∷ xs) y (suc i) x is = still xs y i x is

-- an element was there, or is the last one
old_or_new : {X : Type 0} (xs : List X) (y : X) (i : ℕ) (x : X) → slice_get (xs ++ y ∷ []) i ≡ Some x → (slice_get xs i ≡ Some x) ⊎ ((i ≡ length xs) × (y ≡ x))
old_or_new [] y zero x is = inr (refl, cc)
old_or_new [] y (suc i) x is = absurd (none_there i x is)
old_or_new (z ∷ xs) y zero x is = inl is
old_or_new (z ∷ xs) y (suc i) x is = ⊎_elim (λ (old : slice_get xs i ≡ Some x). inl old) (λ (new : (i ≡ length xs) × (y ≡ x)). inr (ap suc new.0, new.1)) (old_or_new xs y i x is)

last_is : {X : Type 0} (xs : List X) (y : X) → slice_get (xs ++ y ∷ []) (length xs) ≡ Some y
last_is [] y = refl
last_is (z ∷ xs) y = last_is xs y

error_is_no_leader : (e : Error) (l : ℕ) → Err e ≡ Ok l → ⊥
error_is_no_leader e l wrong = cc

ok_is : (l m : ℕ) → ◌≡◌ {A = Result ℕ Error} (Ok l) (Ok m) → l ≡ m
ok_is l m same = cc

-- a file that fails
pub failed_placed : (key : List ℕ → ℕ) (bytes : ℕ → List ℕ) (leaders leaders' : ℕ → List ℕ) (places : List (Result ℕ Error)) (e : Error) → ((k : ℕ) → leaders' k ≡ leaders k) → ArePlaced key bytes leaders places → ArePlaced key bytes leaders' (places ++ Err e ∷ [])
failed_placed key bytes leaders leaders' places e same placed = record {
  are_leaders = λ k r among. still places (Err e) r (Ok r) (placed.are_leaders k r (subst (λ (ls : List ℕ). Contains ls r) (same k) among));
  are_found = λ r is. subst (λ (ls : List ℕ). Contains ls r) (sym (same (key (bytes r)))) (placed.are_found r (was r r is));
  are_led = λ i l is. let led = placed.are_led i l (was i l is) in (still places (Err e) l (Ok l) led.0, led.1);
  are_apart = λ r s is also. placed.are_apart r s (was r r is) (was s s also);
}
  where
    was : (i l : ℕ) → slice_get (places ++ Err e ∷ []) i ≡ Some (Ok l) → slice_get places i ≡ Some (Ok l)
    was i l is = ⊎_elim (λ (old : slice_get places i ≡ Some (Ok l)). old) (λ (new : (i ≡ length places) × (Err e ≡ Ok l)). absurd (error_is_no_leader e l new.1)) (old_or_new places (Err e) i (Ok l) is)

not_last : (l r n : ℕ) → l < n → l ≡ r → r ≡ n → ⊥
not_last l r n before same last = omega arith

-- a file that joins a leader
pub joined_placed : (key : List ℕ → ℕ) (bytes : ℕ → List ℕ) (leaders leaders' : ℕ → List ℕ) (places : List (Result ℕ Error)) (k l : ℕ) → ((k : ℕ) → leaders' k ≡ leaders k) → Contains (leaders k) l → bytes l ≡ bytes (length places) → ArePlaced key bytes leaders places → ArePlaced key bytes leaders' (places ++ Ok l ∷ [])
joined_placed key bytes leaders leaders' places k l same among equal placed =
    let leads : slice_get places l ≡ Some (Ok l) = placed.are_leaders k l among in
    let before : l < length places = slice_get_within places l (Ok l) leads in
    let was : (r : ℕ) → slice_get (places ++ Ok l ∷ []) r ≡ Some (Ok r) → slice_get places r ≡ Some (Ok r) = λ r is.
    ⊎_elim (λ (old : slice_get places r ≡ Some (Ok r)). old) (λ (new : (r ≡ length places) × (Ok l ≡ Ok r)). absurd (not_last l r (length places) before (ok_is l r new.1) new.0)) (old_or_new places (Ok l) r (Ok r) is) in
    record {
      are_leaders = λ j r found. still places (Ok l) r (Ok r) (placed.are_leaders j r (subst (λ (ls : List ℕ). Contains ls r) (same j) found));
      are_found = λ r is. subst (λ (ls : List ℕ). Contains ls r) (sym (same (key (bytes r)))) (placed.are_found r (was r is));
      are_led = λ i m is. ⊎_elim
          (λ (old : slice_get places i ≡ Some (Ok m)). let led = placed.are_led i m old in (still places (Ok l) m (Ok m) led.0, led.1))
          (λ (new : (i ≡ length places) × (Ok l ≡ Ok m)). let is_l : l ≡ m = ok_is l m new.1 in
          (still places (Ok l) m (Ok m) (subst (λ (x : ℕ). slice_get places x ≡ Some (Ok x)) is_l leads), ap bytes (sym is_l) ∙ equal ∙ ap bytes (sym new.0)))
          (old_or_new places (Ok l) i (Ok m) is);
      are_apart = λ r s is also. placed.are_apart r s (was r is) (was s also);
    }

pub all_same : (leaders leaders' : ℕ → List ℕ) (k : ℕ) → ((j : ℕ) → j ≢ k → leaders' j ≡ leaders j) → leaders' k ≡ leaders k → (j : ℕ) → leaders' j ≡ leaders j
all_same leaders leaders' k others same j = ⊎_elim (λ (here : j ≡ k). ap leaders' here ∙ same ∙ ap leaders (sym here)) (λ (other : j ≡ k → ⊥). others j other) (cases_eq j k)

-- a file that leads
pub leading_placed : (key : List ℕ → ℕ) (bytes : ℕ → List ℕ) (leaders leaders' : ℕ → List ℕ) (places : List (Result ℕ Error)) (k n : ℕ) → length places ≡ n → key (bytes n) ≡ k → ((j : ℕ) → j ≢ k → leaders' j ≡ leaders j) → leaders' k ≡ leaders k ++ n ∷ [] → All (λ l. bytes l ≢ bytes n) (leaders k) → ArePlaced key bytes leaders places → ArePlaced key bytes leaders' (places ++ Ok n ∷ [])
leading_placed key bytes leaders leaders' places k n count keyed others added differ placed =
    let last : slice_get (places ++ Ok n ∷ []) n ≡ Some (Ok n) = subst (λ (x : ℕ). slice_get (places ++ Ok n ∷ []) x ≡ Some (Ok n)) count (last_is places (Ok n)) in
    let more : (j r : ℕ) → Contains (leaders j) r → Contains (leaders' j) r = λ j r among.
    ⊎_elim (λ (same : j ≡ k). subst (λ (ls : List ℕ). Contains ls r) (sym (ap leaders' same ∙ added)) (Contains-append_left (leaders k) (n ∷ []) r (subst (λ (x : ℕ). Contains (leaders x) r) same among)))
    (λ (other : j ≡ k → ⊥). subst (λ (ls : List ℕ). Contains ls r) (sym (others j other)) among)
    (cases_eq j k) in
    let apart : (r : ℕ) → slice_get places r ≡ Some (Ok r) → bytes r ≡ bytes n → ⊥ = λ r is same.
    All-contains (λ (l : ℕ). bytes l ≢ bytes n) (leaders k) r differ (subst (λ (x : ℕ). Contains (leaders x) r) (ap key same ∙ keyed) (placed.are_found r is)) same in
    record {
      are_leaders = λ j r among. ⊎_elim
          (λ (same : j ≡ k). ⊎_elim
          (λ (old : Contains (leaders k) r). still places (Ok n) r (Ok r) (placed.are_leaders k r old))
          (λ (new : n ≡ r). subst (λ (x : ℕ). slice_get (places ++ Ok n ∷ []) x ≡ Some (Ok x)) new last)
          (Contains-push_cases (leaders k) n r (subst (λ (ls : List ℕ). Contains ls r) (ap leaders' same ∙ added) among)))
          (λ (other : j ≡ k → ⊥). still places (Ok n) r (Ok r) (placed.are_leaders j r (subst (λ (ls : List ℕ). Contains ls r) (others j other) among)))
          (cases_eq j k);
      are_found = λ r is. ⊎_elim
          (λ (old : slice_get places r ≡ Some (Ok r)). more (key (bytes r)) r (placed.are_found r old))
          (λ (new : (r ≡ length places) × (Ok n ≡ Ok r)). subst (λ (x : ℕ). Contains (leaders' (key (bytes x))) x) (ok_is n r new.1) (subst (λ (ls : List ℕ). Contains ls n) (sym (ap leaders' keyed ∙ added)) (Contains-push (leaders k) n)))
          (old_or_new places (Ok n) r (Ok r) is);
      are_led = λ i l is. ⊎_elim
          (λ (old : slice_get places i ≡ Some (Ok l)). let led = placed.are_led i l old in (still places (Ok n) l (Ok l) led.0, led.1))
          (λ (new : (i ≡ length places) × (Ok n ≡ Ok l)). let is_n : n ≡ l = ok_is n l new.1 in
          (subst (λ (x : ℕ). slice_get (places ++ Ok n ∷ []) x ≡ Some (Ok x)) is_n last, ap bytes (sym is_n ∙ sym count ∙ sym new.0)))
          (old_or_new places (Ok n) i (Ok l) is);
      are_apart = λ r s is also same. ⊎_elim
          (λ (old : slice_get places r ≡ Some (Ok r)). ⊎_elim
          (λ (old' : slice_get places s ≡ Some (Ok s)). placed.are_apart r s old old' same)
          (λ (new : (s ≡ length places) × (Ok n ≡ Ok s)). absurd (apart r old (same ∙ ap bytes (sym (ok_is n s new.1)))))
          (old_or_new places (Ok n) s (Ok s) also))
          (λ (new : (r ≡ length places) × (Ok n ≡ Ok r)). ⊎_elim
          (λ (old' : slice_get places s ≡ Some (Ok s)). absurd (apart s old' (sym same ∙ ap bytes (sym (ok_is n r new.1)))))
          (λ (new' : (s ≡ length places) × (Ok n ≡ Ok s)). sym (ok_is n r new.1) ∙ ok_is n s new'.1)
          (old_or_new places (Ok n) s (Ok s) also))
          (old_or_new places (Ok n) r (Ok r) is);
    }

pub grouped : (key : List ℕ → ℕ) (bytes : ℕ → List ℕ) (leaders : ℕ → List ℕ) (places : List (Result ℕ Error)) → ArePlaced key bytes leaders places → GroupsByBytes bytes places
grouped key bytes leaders places placed = λ i j l m leads_i leads_j.
    let of_i = placed.are_led i l leads_i in
    let of_j = placed.are_led j m leads_j in (
      (λ (same : l ≡ m). sym of_i.1 ∙ ap bytes same ∙ of_j.1),
      (λ (equal : bytes i ≡ bytes j). placed.are_apart l m of_i.0 of_j.0 (of_i.1 ∙ equal ∙ sym of_j.1)),
    )

-- the leaders are files that have a place
pub leaders_within : (key : List ℕ → ℕ) (bytes : ℕ → List ℕ) (leaders : ℕ → List ℕ) (places : List (Result ℕ Error)) → ArePlaced key bytes leaders places → (k n count : ℕ) → length places ≡ n → n < count → All (λ l. l < count) (leaders k)
leaders_within key bytes leaders places placed k n count long inside = All-from_get_or (λ (l : ℕ). l < count) (leaders k) 0 (λ i here.
    let before : get_or (leaders k) i 0 < length places = slice_get_within places _ _ (placed.are_leaders k _ (Contains-get_or (leaders k) i 0 here)) in
    omega arith)
