-- The entry that a line represents.
use Rattle.std.specs.Prelude.{ℕ, ◌≡◌, ◌<◌, ◌^◌, List, Option, IfSome}
use Rattle.rapidsum.specs.Line.{carried}
use Rattle.rapidsum.specs.declared.algorithm.Algorithm.{Algorithm}
use Rattle.rapidsum.specs.declared.line.Layout.{Layout}
use Rattle.rapidsum.specs.declared.parts.Parts.{Parts}
use Rattle.rapidsum.specs.declared.entry.Entry.{Entry as OneEntry}
use Rattle.rapidsum.specs.declared.entry.Line.{Line}
use Rattle.rapidsum.specs.declared.entry.Line.TheVariants.{Comment, Entry, Malformed}

-- a hash and a seed word are numbers of 64 bits
abbrev pub Fits : Algorithm → ℕ → Type 0
Fits algorithm hash = (hash < 2 ^ 64) × IfSome algorithm.seed (λ word. word < 2 ^ 64)

-- the parts are these, with this text of the name
abbrev pub AreParts : Parts → Option Algorithm → ℕ → List ℕ → Type 0
AreParts parts algorithm hash text = (parts.algorithm ≡ algorithm) × (parts.hash ≡ hash) × (parts.text.now ≡ text)

-- the entry has these parts, with this name
abbrev pub Names : {A : Type 0} → OneEntry A → Option Algorithm → ℕ → List ℕ → Type 0
Names entry algorithm hash name = (entry.algorithm ≡ algorithm) × (entry.hash ≡ hash) × (entry.name.items ≡ name)

-- the line is an entry with this hash and this name, and with the version and seed of its layout
abbrev pub IsEntry : {A : Type 0} → Line A → Layout → Algorithm → ℕ → List ℕ → Type 0
IsEntry (Entry entry) layout algorithm hash name = Names entry (carried layout algorithm) hash name
IsEntry Comment layout algorithm hash name = ⊥
IsEntry Malformed layout algorithm hash name = ⊥
