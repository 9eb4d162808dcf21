-- The hash that a version prints.
use Rattle.std.specs.Prelude.{ℕ, ◌≤◌, Bool, true, false, IsTrue, List, length, take, if◌then◌else◌}
use Rattle.rapidhash_portable.specs.declared.form.Form.{Form}
use Rattle.rapidhash_portable.specs.declared.form.Form.TheVariants as form
use Rattle.rapidhash_portable.specs.declared.form.Version.{Version}
use Rattle.rapidhash_portable.specs.declared.form.Version.TheVariants as portable
use Rattle.rapidhash_portable.specs.Form.{options}
use Rattle.rapidhash_portable.specs.Hash.{default_hash}
use Rattle.rapidhash_portable.specs.Version.{form_of}
use Rattle.rapidhash_tool.specs.declared.version.Minor.{Minor}
use Rattle.rapidhash_tool.specs.declared.version.Minor.TheVariants.{M0, M1, M2}
use Rattle.rapidhash_tool.specs.declared.version.RapidhashVersion.{RapidhashVersion}
use Rattle.rapidhash_tool.specs.declared.version.RapidhashVersion.TheVariants.{V1, V2, V3, V3Micro, V3Nano}

-- the version of V2 with a minor version
abbrev pub v2_of : Minor → Version
v2_of M0 = portable.V2Minor0
v2_of M1 = portable.V2Minor1
v2_of M2 = portable.V2Minor2

-- a version without the choice of protection, and that choice
abbrev pub parts_of : RapidhashVersion → Version × Bool
parts_of (V1 protected) = (portable.V1, protected)
parts_of (V2 protected minor) = (v2_of minor, protected)
parts_of (V3 protected) = (portable.V3, protected)
parts_of (V3Micro protected) = (portable.V3Micro, protected)
parts_of (V3Nano protected) = (portable.V3Nano, protected)

-- the definition for the version's form, with the avalanche and the form's default seed and secrets
abbrev pub hash_of : RapidhashVersion → List ℕ → ℕ
hash_of version bytes = default_hash (form_of (parts_of version).0) (options true (parts_of version).1) bytes

-- whether a form hashes no byte before the number of bytes is known
abbrev pub needs_length : Form → Bool
needs_length (form.V1 bug) = true
needs_length (form.V2 minor) = true
needs_length (form.V3 lanes) = false

-- the version hashes no byte before it knows the number of bytes
abbrev pub NeedsLength : RapidhashVersion → Type 0
NeedsLength version = IsTrue (needs_length (form_of (parts_of version).0))

-- the bytes of a file that a version hashes: V1 and V2 hash only the first `len`
abbrev pub read_of : RapidhashVersion → ℕ → List ℕ → List ℕ
read_of version len bytes = if needs_length (form_of (parts_of version).0) then take len bytes else bytes

-- a file has the bytes that a version requires
abbrev pub HasLength : RapidhashVersion → ℕ → List ℕ → Type 0
HasLength version len bytes = NeedsLength version → len ≤ length bytes
