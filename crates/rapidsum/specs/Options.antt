-- The options of a table.
use Rattle.std.specs.Prelude.{ℕ, ◌==◌, ◌≡◌, Bool, true, false, codes, cond, replicate, bytes_eq, is_some, length, List, [], ◌∷◌, map, Option, None, nat_lt, option_and_then, option_map, slice_get, slice_index_or, unwrap_or}
use Rattle.std.specs.List.{position_from}
use Rattle.std.specs.Option.{option_map_or}
use Rattle.rapidhash_portable.specs.declared.form.Version.TheVariants.{V3}
use Rattle.rapidsum.specs.Algorithm.{version_named}
use Rattle.rapidsum.specs.Seed.{seed_of}
use Rattle.rapidsum.specs.declared.algorithm.Algorithm.{Algorithm}
use Rattle.rapidsum.specs.declared.line.Layout.TheVariants as layout
use Rattle.rapidsum.specs.declared.line.Style.{Style}
use Rattle.rapidsum.specs.declared.options.Options.{Options}
use Rattle.rapidsum.specs.declared.options.Row.{Row}
use Rattle.rapidsum.specs.declared.options.TheConstants.{ALGORITHM, BINARY, SEED, TAG, ZERO}

-- the place of the option with a name
abbrev pub place_named : List Row → List ℕ → Option ℕ
place_named rows name = position_from (λ row. bytes_eq row.name.now name) 0 rows

-- the place of the option with a letter
abbrev pub place_lettered : List Row → ℕ → Option ℕ
place_lettered rows letter = position_from (λ row. option_map_or (λ own. own == letter) row.letter false) 0 rows

-- the name of the option at a place
abbrev pub name_at : List Row → ℕ → List ℕ
name_at rows place = option_map_or (λ row. row.name.now) (slice_get rows place) []

-- whether the option at a place takes a value
abbrev pub takes_value : List Row → ℕ → Bool
takes_value rows place = option_map_or (λ row. nat_lt 0 (length row.value.now)) (slice_get rows place) false

-- the value of the option at a place, if it is given
abbrev pub value_of : Options → ℕ → Option (List ℕ)
value_of options place = option_map (λ value. value.now) (slice_index_or options.values place None)

-- the values of the options, by their places
abbrev pub values_of : Options → List (Option (List ℕ))
values_of options = map (option_map (λ value. value.now)) options.values

-- whether the option at a place is given
unfoldable pub is_given : List (Option (List ℕ)) → ℕ → Bool
is_given values place = is_some (slice_index_or values place None)

-- the version of --algorithm or V3, and the number of --seed
abbrev pub algorithm_of : Options → Algorithm
algorithm_of options = record {
  version = unwrap_or (option_and_then version_named (value_of options ALGORITHM)) V3;
  seed = option_and_then seed_of (value_of options SEED);
}

-- the layout of --tag, otherwise of --binary, otherwise of --text, and the end of --zero
abbrev pub style_of : Options → Style
style_of options = record {
  layout = cond (is_given (values_of options) TAG) layout.Tagged (cond (is_given (values_of options) BINARY) layout.Binary layout.Text);
  zero = is_given (values_of options) ZERO;
}

-- the names and the letters of all options, in their order; the first three take a value
pub record IsTable (rows : List Row) : Type 0 where
  pub names : map (λ row. row.name.now) rows ≡ codes "algorithm" ∷ codes "seed" ∷ codes "files0-from" ∷ codes "check" ∷ codes "quiet"
      ∷ codes "status" ∷ codes "ignore-missing" ∷ codes "strict" ∷ codes "warn" ∷ codes "binary" ∷ codes "text" ∷ codes "tag"
      ∷ codes "zero" ∷ codes "help" ∷ codes "version" ∷ []
  pub letters : map (λ row. unwrap_or row.letter 45) rows ≡ codes "a--c----wbt-zhV"
  pub values : map (λ row. nat_lt 0 (length row.value.now)) rows ≡ true ∷ true ∷ true ∷ replicate 12 false
