-- What a command line means: a call, or the first reason that there is none.
use Rattle.std.specs.Prelude.{ℕ, ◌==◌, ◌≡◌, ◌&&◌, ◌||◌, cond, is_some, not, List, [], ◌∷◌, ◌++◌, map, Option, None, Some, Result, Ok, Err, slice_set, replicate, option_map}
use denote.Ref.{Bor}
use Rattle.rapidsum.specs.Algorithm.{version_named}
use Rattle.rapidsum.specs.Command.{Begins, fault, file, files, option}
use Rattle.rapidsum.specs.Options.{is_given, name_at, values_of}
use Rattle.rapidsum.specs.Seed.{seed_of}
use Rattle.rapidsum.specs.declared.options.Row.{Row}
use Rattle.rapidsum.specs.declared.parse.Call.{Call}
use Rattle.rapidsum.specs.declared.reading.Reason.{Reason}
use Rattle.rapidsum.specs.declared.reading.Reason.TheVariants as reason
use Rattle.rapidsum.specs.declared.options.TheConstants.{ALGORITHM, BINARY, CHECK, FILES_FROM, HELP, IGNORE_MISSING, QUIET, SEED, STATUS, STRICT, TAG, TEXT, VERSION, WARN, ZERO}

-- the values of the options by their places, or nothing where one is not given
abbrev pub Values : Type 0
Values = List (Option (List ℕ))

-- a reason, and the text at fault
abbrev pub Refusal : Type 0
Refusal = Reason × List ℕ

-- the values and the files of a call, or why there is none
abbrev pub Outcome : Type 0
Outcome = Result (Values × List (List ℕ)) Refusal

-- why an option may not have a value behind others
abbrev pub refusal : List Row → Values → ℕ → List ℕ → Option Refusal
refusal rows values place value =
    cond (place == HELP) (Some (reason.Help, []))
    (cond (place == VERSION) (Some (reason.Version, []))
    (cond (place == ALGORITHM && not (is_some (version_named value))) (Some (reason.UnknownVersion, value))
    (cond (place == SEED && not (is_some (seed_of value))) (Some (reason.InvalidSeed, value))
    (cond (is_given values place) (Some (reason.GivenTwice, name_at rows place)) None))))

-- the option whose value one takes away: --binary and --text replace each other
abbrev pub rival : ℕ → ℕ
rival place = cond (place == BINARY) TEXT (cond (place == TEXT) BINARY place)

-- the values with one more
abbrev pub with_value : Values → ℕ → List ℕ → Values
with_value values place value = slice_set (slice_set values (rival place) None) place (Some value)

-- the first of some options that is given
abbrev pub first_given : Values → List ℕ → Option ℕ
first_given values [] = None
first_given values (place ∷ places) = cond (is_given values place) (Some place) (first_given values places)

-- the options that only a check has
abbrev pub of_check : List ℕ
of_check = IGNORE_MISSING ∷ STATUS ∷ WARN ∷ QUIET ∷ STRICT ∷ []

-- what no check may have
abbrev pub against_check : Values → Option Reason
against_check values =
    cond (is_given values ZERO) (Some reason.CheckWithZero) (cond (is_given values TAG) (Some reason.CheckWithTag)
    (cond (is_given values BINARY || is_given values TEXT) (Some reason.CheckWithMode) None))

-- why options exclude each other
unfoldable pub conflict : List Row → Values → Option Refusal
conflict rows values =
    cond (is_given values TAG && is_given values TEXT) (Some (reason.TagWithText, []))
    (cond (is_given values CHECK) (option_map (λ why. (why, [])) (against_check values))
    (option_map (λ place. (reason.OnlyInCheck, name_at rows place)) (first_given values of_check)))

-- why files may not stand beside options
abbrev pub extra : Values → List (List ℕ) → Option Refusal
extra values [] = None
extra values (f ∷ fs) = cond (is_given values FILES_FROM) (Some (reason.ExtraFile, f)) None

-- a call, unless there is a reason against it
abbrev pub unless : Option Refusal → Outcome → Outcome
unless None call = call
unless (Some why) call = Err why

-- the call of options and files that stand alone
abbrev pub call_of : List Row → Values → List (List ℕ) → Outcome
call_of rows values fs = unless (conflict rows values) (unless (extra values fs) (Ok (values, fs)))

-- Behind options and files, letters and words mean this.
pub data Means (rows : List Row) : Values → List (List ℕ) → List ℕ → List (List ℕ) → Outcome → Type 0 where
  -- an option that is refused; another option; a file; nothing but files; a text that says nothing
  refused : (vs : Values) (fs : List (List ℕ)) (ls : List ℕ) (ws : List (List ℕ)) (p : ℕ) (v ls' : List ℕ) (ws' : List (List ℕ)) (why : Refusal)
      → Begins rows ls ws (option p v ls' ws') → refusal rows vs p v ≡ Some why → Means rows vs fs ls ws (Err why)
  given : (vs : Values) (fs : List (List ℕ)) (ls : List ℕ) (ws : List (List ℕ)) (p : ℕ) (v ls' : List ℕ) (ws' : List (List ℕ)) (made : Outcome)
      → Begins rows ls ws (option p v ls' ws') → refusal rows vs p v ≡ None → Means rows (with_value vs p v) fs ls' ws' made
      → Means rows vs fs ls ws made
  added : (vs : Values) (fs : List (List ℕ)) (ls : List ℕ) (ws : List (List ℕ)) (f : List ℕ) (ws' : List (List ℕ)) (made : Outcome)
      → Begins rows ls ws (file f ws') → Means rows vs (fs ++ f ∷ []) [] ws' made → Means rows vs fs ls ws made
  ended : (vs : Values) (fs : List (List ℕ)) (ls : List ℕ) (ws fs' : List (List ℕ))
      → Begins rows ls ws (files fs') → Means rows vs fs ls ws (call_of rows vs (fs ++ fs'))
  failed : (vs : Values) (fs : List (List ℕ)) (ls : List ℕ) (ws : List (List ℕ)) (why : Reason) (t : List ℕ)
      → Begins rows ls ws (fault why t) → Means rows vs fs ls ws (Err (why, t))

-- Words mean this.
abbrev pub IsMeant : List Row → List (List ℕ) → Outcome → Type 0
IsMeant rows words made = Means rows (replicate 15 None) [] [] words made

-- what a call or a refusal shows
abbrev pub refusal_of : Reason × Bor (List ℕ) → Refusal
refusal_of stop = (stop.0, stop.1.now)

abbrev pub shown : {A : Type 0} → Result (Call A) (Reason × Bor (List ℕ)) → Outcome
shown (Ok call) = Ok (values_of call.options, map (λ file. file.now) call.files.items)
shown (Err stop) = Err (refusal_of stop)
