-- The plan that the arguments of a call request.
use Rattle.std.specs.Prelude.{ℕ, ◌+◌, ◌<◌, Bool, true, false, not, ◌||◌, bytes_eq, codes, cond, nat_eq, List, [], ◌∷◌, ◌++◌, drop, position, filter, Option, None, Some, option_map}
use Rattle.std.specs.List.{list_any}
use Rattle.rapidhash_portable.specs.declared.form.Version.{Version}
use Rattle.rapidhash_portable.specs.declared.form.Version.TheVariants as portable
use Rattle.rapidhash_portable.specs.Version.{name_of, versions}
use Rattle.rapidhash_tool.specs.declared.version.Minor.TheVariants.{M0, M1, M2}
use Rattle.rapidhash_tool.specs.declared.version.Plan.{Plan}
use Rattle.rapidhash_tool.specs.declared.version.Plan.TheVariants.{Help, Refused, Run}
use Rattle.rapidhash_tool.specs.declared.version.RapidhashVersion.{RapidhashVersion}
use Rattle.rapidhash_tool.specs.declared.version.RapidhashVersion.TheVariants.{V1, V2, V3, V3Micro, V3Nano}

-- whether an argument is among the arguments
abbrev pub occurs : List ℕ → List (List ℕ) → Bool
occurs arg args = list_any (λ other. bytes_eq other arg) args

-- whether an argument begins with a hyphen
abbrev pub is_option : List ℕ → Bool
is_option [] = false
is_option (c ∷ cs) = nat_eq c 45

-- the argument that names a version
abbrev pub option_of : Version → List ℕ
option_of version = codes "--" ++ name_of version

-- a version with the choice of protection
abbrev pub selection : Bool → Version → RapidhashVersion
selection protected portable.V1 = V1 protected
selection protected portable.V2Minor0 = V2 protected M0
selection protected portable.V2Minor1 = V2 protected M1
selection protected portable.V2Minor2 = V2 protected M2
selection protected portable.V3 = V3 protected
selection protected portable.V3Micro = V3Micro protected
selection protected portable.V3Nano = V3Nano protected

-- the versions whose argument is among the arguments
abbrev pub named : List (List ℕ) → List Version → List Version
named args = filter (λ version. occurs (option_of version) args)

-- the only version of a list, `other` for an empty list, and none for several
abbrev pub the_only : Version → List Version → Option Version
the_only other [] = Some other
the_only other (version ∷ []) = Some version
the_only other (version ∷ second ∷ others) = None

-- the version that the arguments after the program's name select, or none if they name two
unfoldable pub version_of : List (List ℕ) → Option RapidhashVersion
version_of args =
    let protected = occurs (codes "--protected") args in
    option_map (selection protected) (the_only portable.V3 (named args versions))

-- whether there are no arguments, or one of them, including the program's name, requests help
abbrev pub wants_help : List (List ℕ) → Bool
wants_help [] = true
wants_help (name ∷ others) = occurs (codes "--help") (name ∷ others) || occurs (codes "-h") (name ∷ others)

-- the index, from 1 on, of the first argument that does not begin with a hyphen
abbrev pub file_of : List (List ℕ) → Option ℕ
file_of args = option_map (λ place. place + 1) (position (λ w. not (is_option w)) (drop 1 args))

-- the plan from a version and a file, if no help is requested
abbrev pub run_of : Option RapidhashVersion → Option ℕ → Plan
run_of None file = Refused
run_of (Some version) file = Run version file

-- the plan from all arguments, with the program's name first
abbrev pub plan_of : List (List ℕ) → Plan
plan_of args = cond (wants_help args) Help (run_of (version_of (drop 1 args)) (file_of args))

-- the file that a plan names, if any, has an index below `count`
abbrev pub NamesFileBelow : ℕ → Plan → Type 0
NamesFileBelow count Help = Unit {0}
NamesFileBelow count Refused = Unit {0}
NamesFileBelow count (Run version None) = Unit {0}
NamesFileBelow count (Run version (Some place)) = place < count
