-- The one version that the arguments name.
use Rattle.std.proofs.Common.{List, [], ◌∷◌, Option, None, Some}

-- the content of an option, as a list
abbrev pub list_of : {A : Type 0} → Option A → List A
list_of None = []
list_of (Some a) = a ∷ []
