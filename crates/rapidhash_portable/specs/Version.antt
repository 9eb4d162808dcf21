-- The versions that users name: the form and the name of each.
use Rattle.std.specs.Prelude.{ℕ, codes, List, [], ◌∷◌}
use Rattle.rapidhash_portable.specs.declared.form.Form.{Form}
use Rattle.rapidhash_portable.specs.declared.form.Version.{Version}
use Rattle.rapidhash_portable.specs.declared.form.Version.TheVariants.{V1, V2Minor0, V2Minor1, V2Minor2, V3, V3Micro, V3Nano}
use Rattle.rapidhash_portable.specs.Form.{micro, nano, v1, v2, v3}

-- each version once
abbrev pub versions : List Version
versions = V1 ∷ V2Minor0 ∷ V2Minor1 ∷ V2Minor2 ∷ V3 ∷ V3Micro ∷ V3Nano ∷ []

-- the form of a version
abbrev pub form_of : Version → Form
form_of V1 = v1
form_of V2Minor0 = v2 0
form_of V2Minor1 = v2 1
form_of V2Minor2 = v2 2
form_of V3 = v3
form_of V3Micro = micro
form_of V3Nano = nano

-- the name of a version
abbrev pub name_of : Version → List ℕ
name_of V1 = codes "v1"
name_of V2Minor0 = codes "v2.0"
name_of V2Minor1 = codes "v2.1"
name_of V2Minor2 = codes "v2.2"
name_of V3 = codes "v3"
name_of V3Micro = codes "v3-micro"
name_of V3Nano = codes "v3-nano"
