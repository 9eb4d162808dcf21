-- Words have one meaning, and less is left to read behind each option and file.
use Rattle.std.proofs.Common.{◌≡◌, ◌≢◌, ◌<◌, ◌+◌, ◌==◌, suc, ℕ, Bool, true, false, cond, List, [], ◌∷◌, ◌++◌, length, Option, None, Some, Result, Ok, Err, IfOk, refl, sym, ap, ◌∙◌, arith}
use Rattle.std.proofs.lemmas.Bool.{ne_eqb}
use Rattle.std.specs.Bool.{⊤}
use Rattle.std.specs.List.{All}
use denote.Ref.{Bor}
use Rattle.rapidsum.specs.Command.{Begins, First, IsPlace, IsText, apart, bare, behind, equals, fault, file, files, hyphen, hyphens, joined, letter, letters, long, missing, missing_behind, named, no_letter, no_name, no_value, nothing, option}
use Rattle.rapidsum.specs.Options.{place_lettered, place_named, takes_value}
use Rattle.rapidsum.specs.Outcome.{IsMeant, Means, Outcome, Refusal, Values, added, call_of, ended, failed, given, refusal, refused, shown, with_value}
use Rattle.rapidsum.specs.declared.options.Row.{Row}
use Rattle.rapidsum.specs.declared.parse.Call.{Call}
use Rattle.rapidsum.specs.declared.reading.Reason.{Reason}
use Rattle.rapidsum.specs.declared.reading.Reason.TheVariants as reason

-- the name and the value of a text
abbrev cut : List ℕ → List ℕ × Option (List ℕ)
cut [] = ([], None)
cut (c ∷ cs) = cond (c == 61) ([], Some cs) (c ∷ (cut cs).0, (cut cs).1)

cut-text : (n : List ℕ) (v : Option (List ℕ)) → All (λ c. c ≢ 61) n → cut (n ++ equals v) ≡ (n, v)
cut-text [] None plain = refl
cut-text [] (Some v) plain = refl
cut-text (c ∷ cs) v plain = rw (ne_eqb c 61 (plain 0 0 (omega arith)), cut-text cs v (λ k d h. plain (suc k) d (omega (arith, h)))) refl

-- the one thing that words begin with: by whether an option takes a value, by whether there is one, by the word
abbrev of-value : ℕ → List ℕ → List (List ℕ) → Option (List ℕ) → Bool → First
of-value p n ws None false = option p [] [] ws
of-value p n ws (Some v) true = option p v [] ws
of-value p n ws (Some v) false = fault reason.UnwantedValue n
of-value p n [] None true = fault reason.MissingValue n
of-value p n (w ∷ ws) None true = option p w [] ws

abbrev of-name : List Row → List ℕ → List ℕ → Option (List ℕ) → List (List ℕ) → Option ℕ → First
of-name rows t n v ws None = fault reason.UnknownName (long t)
of-name rows t n v ws (Some p) = of-value p n ws v (takes_value rows p)

abbrev of-text : List Row → List ℕ → List (List ℕ) → List ℕ × Option (List ℕ) → First
of-text rows t ws x = of-name rows t (x.0) (x.1) ws (place_named rows (x.0))

abbrev of-rest : ℕ → ℕ → List ℕ → List (List ℕ) → Bool → First
of-rest p c cs ws false = option p [] cs ws
of-rest p c (d ∷ v) ws true = option p (d ∷ v) [] ws
of-rest p c [] (w ∷ ws) true = option p w [] ws
of-rest p c [] [] true = fault reason.MissingValueOfLetter (c ∷ [])

abbrev of-letter : List Row → ℕ → List ℕ → List (List ℕ) → Option ℕ → First
of-letter rows c cs ws None = fault reason.UnknownLetter (c ∷ cs)
of-letter rows c cs ws (Some p) = of-rest p c cs ws (takes_value rows p)

abbrev of-hyphen : List Row → List ℕ → List (List ℕ) → Bool → First
of-hyphen rows [] ws second = file (45 ∷ []) ws
of-hyphen rows (c ∷ cs) ws false = of-letter rows c cs ws (place_lettered rows c)
of-hyphen rows (c ∷ []) ws true = files ws
of-hyphen rows (c ∷ d ∷ cs) ws true = of-text rows (d ∷ cs) ws (cut (d ∷ cs))

abbrev second : List ℕ → Bool
second [] = false
second (c ∷ cs) = c == 45

abbrev first : List Row → List ℕ → List (List ℕ) → First
first rows (c ∷ cs) ws = of-letter rows c cs ws (place_lettered rows c)
first rows [] [] = files []
first rows [] ([] ∷ ws) = file [] ws
first rows [] ((c ∷ cs) ∷ ws) = cond (c == 45) (of-hyphen rows cs ws (second cs)) (file (c ∷ cs) ws)

first-text : (rows : List Row) (t n : List ℕ) (v : Option (List ℕ)) (ws : List (List ℕ)) → IsText t n v
    → first rows [] (long t ∷ ws) ≡ of-name rows t n v ws (place_named rows n)
first-text rows [] n v ws text = absurd (omega (arith, text.some))
first-text rows (c ∷ cs) n v ws text = ap (of-text rows (c ∷ cs) ws) (ap cut text.parts ∙ cut-text n v text.plain)

first-named : (rows : List Row) (t n : List ℕ) (v : Option (List ℕ)) (p : ℕ) (takes : Bool) (ws : List (List ℕ)) → IsText t n v
    → IsPlace rows (place_named rows n) p takes → first rows [] (long t ∷ ws) ≡ of-value p n ws v takes
first-named rows t n v p takes ws text place = first-text rows t n v ws text ∙ rw (place.is, place.takes) refl

is-first : (rows : List Row) (ls : List ℕ) (ws : List (List ℕ)) (x : First) → Begins rows ls ws x → first rows ls ws ≡ x
is-first rows ls ws x nothing = refl
is-first rows ls ws x (hyphens fs) = refl
is-first rows ls ws x (hyphen ws') = refl
is-first rows ls ws x (bare [] ws' other) = refl
is-first rows ls ws x (bare (c ∷ cs) ws' other) = rw (ne_eqb c 45 other) refl
is-first rows ls ws x (named t n None p ws' text place) = first-named rows t n None p false ws' text place
is-first rows ls ws x (named t n (Some v) p ws' text place) = first-named rows t n (Some v) p true ws' text place
is-first rows ls ws x (apart t n v p ws' text place) = first-named rows t n None p true (v ∷ ws') text place
is-first rows ls ws x (letters [] ws' x' some other begins) = absurd (omega (arith, some))
is-first rows ls ws x (letters (c ∷ cs) ws' x' some other begins) = rw (ne_eqb c 45 other) (is-first rows (c ∷ cs) ws' x' begins)
is-first rows ls ws x (letter c cs p ws' place) = rw (place.is, place.takes) refl
is-first rows ls ws x (joined c [] p ws' some place) = absurd (omega (arith, some))
is-first rows ls ws x (joined c (d ∷ v) p ws' some place) = rw (place.is, place.takes) refl
is-first rows ls ws x (behind c v p ws' place) = rw (place.is, place.takes) refl
is-first rows ls ws x (no_name t n v ws' text none) = first-text rows t n v ws' text ∙ rw none refl
is-first rows ls ws x (no_value t n v p ws' text place) = first-named rows t n (Some v) p false ws' text place
is-first rows ls ws x (missing t n p text place) = first-named rows t n None p true [] text place
is-first rows ls ws x (no_letter c cs ws' none) = rw none refl
is-first rows ls ws x (missing_behind c p place) = rw (place.is, place.takes) refl

-- what follows from what words begin with, if they mean something
abbrev Follows : Option Refusal → Type 0 → Outcome → Type 0
Follows None More made = More
Follows (Some why) More made = made ≡ Err why

abbrev Then : List Row → Values → List (List ℕ) → First → Outcome → Type 0
Then rows vs fs (option p v ls ws) made = Follows (refusal rows vs p v) (Means rows (with_value vs p v) fs ls ws made) made
Then rows vs fs (file f ws) made = Means rows vs (fs ++ f ∷ []) [] ws made
Then rows vs fs (files fs') made = made ≡ call_of rows vs (fs ++ fs')
Then rows vs fs (fault why t) made = made ≡ Err (why, t)

then : (rows : List Row) (vs : Values) (fs : List (List ℕ)) (ls : List ℕ) (ws : List (List ℕ)) (made : Outcome) (x : First)
    → Means rows vs fs ls ws made → Begins rows ls ws x → Then rows vs fs x made
then rows vs fs ls ws made x (refused vs' fs' ls' ws' p v ls'' ws'' why begins is) other =
    rw (sym (is-first rows ls ws x other) ∙ is-first rows ls ws _ begins, is) refl
then rows vs fs ls ws made x (given vs' fs' ls' ws' p v ls'' ws'' made' begins is more) other =
    rw (sym (is-first rows ls ws x other) ∙ is-first rows ls ws _ begins, is) more
then rows vs fs ls ws made x (added vs' fs' ls' ws' f ws'' made' begins more) other =
    rw (sym (is-first rows ls ws x other) ∙ is-first rows ls ws _ begins) more
then rows vs fs ls ws made x (ended vs' fs' ls' ws' fs'' begins) other =
    rw (sym (is-first rows ls ws x other) ∙ is-first rows ls ws _ begins) refl
then rows vs fs ls ws made x (failed vs' fs' ls' ws' why t begins) other =
    rw (sym (is-first rows ls ws x other) ∙ is-first rows ls ws _ begins) refl

one : (rows : List Row) (vs : Values) (fs : List (List ℕ)) (ls : List ℕ) (ws : List (List ℕ)) (a b : Outcome)
    → Means rows vs fs ls ws a → Means rows vs fs ls ws b → a ≡ b
one rows vs fs ls ws a b (refused vs' fs' ls' ws' p v ls'' ws'' why begins is) other =
    sym (rw is at (then rows vs fs ls ws b _ other begins))
one rows vs fs ls ws a b (given vs' fs' ls' ws' p v ls'' ws'' made begins is more) other =
    one rows (with_value vs p v) fs ls'' ws'' a b more (rw is at (then rows vs fs ls ws b _ other begins))
one rows vs fs ls ws a b (added vs' fs' ls' ws' f ws'' made begins more) other =
    one rows vs (fs ++ f ∷ []) [] ws'' a b more (then rows vs fs ls ws b _ other begins)
one rows vs fs ls ws a b (ended vs' fs' ls' ws' fs'' begins) other = sym (then rows vs fs ls ws b _ other begins)
one rows vs fs ls ws a b (failed vs' fs' ls' ws' why t begins) other = sym (then rows vs fs ls ws b _ other begins)

pub only-meaning : {A X : Type 0} (rows : List Row) (words : List (List ℕ)) (other : Outcome) (result : Result (Result (Call A) (Reason × Bor (List ℕ))) X)
    → IfOk result (λ made. IsMeant rows words (shown made)) → IsMeant rows words other → IfOk result (λ made. shown made ≡ other)
only-meaning rows words other (Ok made) meant is = one rows _ [] [] words (shown made) other meant is
only-meaning rows words other (Err e) meant is = tt

-- how much is left to read
abbrev pub size : List ℕ → List (List ℕ) → ℕ
size ls [] = length ls
size ls (w ∷ ws) = length ls + suc (size w ws)

abbrev pub Less : List ℕ → List (List ℕ) → First → Type 0
Less ls ws (option p v ls' ws') = size ls' ws' < size ls ws
Less ls ws (file f ws') = size [] ws' < size ls ws
Less ls ws (files fs) = ⊤
Less ls ws (fault why t) = ⊤

fewer : (a b : List ℕ) (ws : List (List ℕ)) → length a < length b → size a ws < size b ws
fewer a b [] less = less
fewer a b (w ∷ ws) less = omega (arith, less)

behind-word : (ls w : List ℕ) (ws : List (List ℕ)) → size [] ws < size ls (w ∷ ws)
behind-word ls w [] = omega arith
behind-word ls w (v ∷ ws) = omega arith

letters-less : (ls : List ℕ) (ws : List (List ℕ)) (x : First) → Less ls ws x → Less [] ((45 ∷ ls) ∷ ws) x
letters-less ls [] (option p v ls' ws') less = omega (arith, less)
letters-less ls (w ∷ ws) (option p v ls' ws') less = omega (arith, less)
letters-less ls [] (file f ws') less = omega (arith, less)
letters-less ls (w ∷ ws) (file f ws') less = omega (arith, less)
letters-less ls ws (files fs) less = tt
letters-less ls ws (fault why t) less = tt

pub less : (rows : List Row) (ls : List ℕ) (ws : List (List ℕ)) (x : First) → Begins rows ls ws x → Less ls ws x
less rows ls ws x nothing = tt
less rows ls ws x (hyphens fs) = tt
less rows ls ws x (hyphen ws') = behind-word [] (45 ∷ []) ws'
less rows ls ws x (bare w ws' other) = behind-word [] w ws'
less rows ls ws x (named t n v p ws' text place) = behind-word [] (long t) ws'
less rows ls ws x (apart t n v p ws' text place) = omega (arith, behind-word [] v ws')
less rows ls ws x (letters ls' ws' x' some other begins) = letters-less ls' ws' x' (less rows ls' ws' x' begins)
less rows ls ws x (letter c cs p ws' place) = fewer cs (c ∷ cs) ws' (omega arith)
less rows ls ws x (joined c v p ws' some place) = fewer [] (c ∷ v) ws' (omega arith)
less rows ls ws x (behind c v p ws' place) = behind-word (c ∷ []) v ws'
less rows ls ws x (no_name t n v ws' text none) = tt
less rows ls ws x (no_value t n v p ws' text place) = tt
less rows ls ws x (missing t n p text place) = tt
less rows ls ws x (no_letter c cs ws' none) = tt
less rows ls ws x (missing_behind c p place) = tt

-- what is left, behind these options and files, means what all words mean
abbrev pub Leads : List Row → List (List ℕ) → Values → List (List ℕ) → List ℕ → List (List ℕ) → Type 0
Leads rows all vs fs ls ws = (made : Outcome) → Means rows vs fs ls ws made → IsMeant rows all made
