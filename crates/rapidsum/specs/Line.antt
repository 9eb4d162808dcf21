-- The lines that the program prints and reads back.
use Rattle.std.specs.Prelude.{ℕ, Bool, true, false, bytes_eq, codes, cond, find, nat_eq, is_some, List, [], ◌∷◌, ◌++◌, map, Option, None, Some, option_and_then}
use Rattle.std.specs.Char.{to_ascii_uppercase}
use Rattle.std.specs.Int.{to_be_bytes, w64}
use Rattle.std.specs.List.{list_any}
use Rattle.hex.specs.Hex.{encode_lower}
use Rattle.rapidsum.specs.declared.algorithm.Algorithm.{Algorithm}
use Rattle.rapidhash_portable.specs.declared.form.Version.{Version}
use Rattle.rapidhash_portable.specs.Version.{name_of, versions}
use Rattle.rapidsum.specs.declared.line.Layout.{Layout}
use Rattle.rapidsum.specs.declared.line.Layout.TheVariants.{Binary, Tagged, Text}

-- the letter that represents a byte of a name after a backslash: a backslash, n for a newline, r for a carriage return
abbrev pub letter_of : ℕ → Option ℕ
letter_of c = cond (nat_eq c 92) (Some 92) (cond (nat_eq c 10) (Some 110) (cond (nat_eq c 13) (Some 114) None))

-- the byte that a letter after a backslash represents
abbrev pub byte_of : ℕ → Option ℕ
byte_of c = cond (nat_eq c 92) (Some 92) (cond (nat_eq c 110) (Some 10) (cond (nat_eq c 114) (Some 13) None))

-- the printed text of a byte of a name
abbrev pub escape_by : ℕ → Option ℕ → List ℕ
escape_by c None = c ∷ []
escape_by c (Some letter) = 92 ∷ letter ∷ []

-- the printed text of a name
unfoldable pub escaped : List ℕ → List ℕ
escaped [] = []
escaped (c ∷ cs) = escape_by c (letter_of c) ++ escaped cs

-- whether some byte of a name is escaped
abbrev pub needs_escape : List ℕ → Bool
needs_escape name = list_any (λ c. is_some (letter_of c)) name

-- the 16 hexadecimal digits of a hash, with the highest first
abbrev pub digits_of : ℕ → List ℕ
digits_of hash = encode_lower (to_be_bytes w64 hash)

-- the text of a version in a tag: its name in upper case
abbrev pub version_text : Version → List ℕ
version_text version = map to_ascii_uppercase (name_of version)

-- whether a version has a text in a tag
abbrev pub is_tagged : List ℕ → Version → Bool
is_tagged text version = bytes_eq (version_text version) text

-- the version with a text in a tag
unfoldable pub version_tagged : List ℕ → Option Version
version_tagged text = find (is_tagged text) versions

-- the text of a seed word in a tag: nothing for the default seed
unfoldable pub seed_text : Option ℕ → List ℕ
seed_text None = []
seed_text (Some word) = 58 ∷ digits_of word

-- the tag: the start of a line that names its hash
abbrev pub tag_of : Algorithm → List ℕ
tag_of algorithm = codes "RAPIDHASH-" ++ version_text algorithm.version ++ seed_text algorithm.seed

-- the text after a tag: the name in parentheses, an equals sign and the digits
abbrev pub value_of : ℕ → List ℕ → List ℕ
value_of hash text = (32 ∷ 40 ∷ text ++ 41 ∷ 32 ∷ 61 ∷ 32 ∷ []) ++ digits_of hash

-- a hash and the text of a name in each layout
unfoldable pub body_of : Layout → Algorithm → ℕ → List ℕ → List ℕ
body_of Text algorithm hash text = digits_of hash ++ 32 ∷ 32 ∷ text
body_of Binary algorithm hash text = digits_of hash ++ 32 ∷ 42 ∷ text
body_of Tagged algorithm hash text = tag_of algorithm ++ value_of hash text

-- the line of a hash and a name, without its newline: a backslash first if a byte of the name is escaped
abbrev pub line_of : Layout → Algorithm → ℕ → List ℕ → List ℕ
line_of layout algorithm hash name =
    let body = body_of layout algorithm hash (escaped name) in
    cond (needs_escape name) (92 ∷ body) body

-- the printed text for a hash and a name: the line and a newline, or without escapes and with a zero byte
abbrev pub sum_of : Layout → Bool → Algorithm → ℕ → List ℕ → List ℕ
sum_of layout zero algorithm hash name =
    cond zero (body_of layout algorithm hash name ++ 0 ∷ []) (line_of layout algorithm hash name ++ 10 ∷ [])

-- the version and seed that the line names
abbrev pub carried : Layout → Algorithm → Option Algorithm
carried Text algorithm = None
carried Binary algorithm = None
carried Tagged algorithm = Some algorithm

-- the name that an escaped text represents, after the bytes already read; none if a backslash is before any other byte
unfoldable pub unescape_from : List ℕ → Bool → List ℕ → Option (List ℕ)
unescape_from name false [] = Some name
unescape_from name true [] = None
unescape_from name false (c ∷ cs) = cond (nat_eq c 92) (unescape_from name true cs) (unescape_from (name ++ c ∷ []) false cs)
unescape_from name true (c ∷ cs) = option_and_then (λ b. unescape_from (name ++ b ∷ []) false cs) (byte_of c)
