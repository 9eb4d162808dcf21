-- Properties of printed lists, for the function that reads them back.
use Rattle.std.proofs.Common.{◌≡◌, ℕ, suc, zero, ◌<◌, ◌==◌, ◌/◌, ◌%◌, Bool, true, false, cond, List, [], ◌∷◌, ◌++◌, length, take, drop, ◌≢◌, slice_index, Option, None, Some, refl, sym, ap, ◌∙◌, arith}
use Rattle.std.proofs.Math.Seq.{take-append_seam, drop-append_seam}
use Rattle.std.proofs.lemmas.List.{append_assoc, length-append}
use Rattle.std.proofs.lemmas.List.Folds.{list_any-append}
use Rattle.std.proofs.lemmas.Bool.{ne_eqb}
use Rattle.std.specs.Int.{to_be_bytes, w64}
use Rattle.std.specs.List.{All, list_any}
use Rattle.hex.specs.Hex.{encode_with, hex_digit_value, lower_digits}
use Rattle.hex.proofs.HexLemmas.{IsDigits-lower_digits}
use Rattle.rapidsum.proofs.Lines.{bytes-small}
use Rattle.rapidsum.specs.Entry.{Fits, IsEntry, Names}
use Rattle.rapidsum.specs.Line.{body_of, carried, digits_of, escape_by, escaped, letter_of, line_of, needs_escape, seed_text, tag_of, value_of, version_tagged, version_text}
use Rattle.rapidsum.specs.List.{AllFit, AreEntries, Printed, list_of}
use Rattle.rapidsum.specs.declared.algorithm.Algorithm.{Algorithm}
use Rattle.rapidhash_portable.specs.declared.form.Version.{Version}
use Rattle.rapidhash_portable.specs.declared.form.Version.TheVariants.{V1, V2Minor0, V2Minor1, V2Minor2, V3, V3Micro, V3Nano}
use Rattle.rapidsum.specs.declared.entry.Entry.{Entry as OneEntry}
use Rattle.rapidsum.specs.declared.entry.Line.{Line}
use Rattle.rapidsum.specs.declared.entry.Line.TheVariants.{Entry}
use Rattle.rapidsum.specs.declared.line.Layout.{Layout}
use Rattle.rapidsum.specs.declared.line.Layout.TheVariants.{Binary, Tagged, Text}

-- whether a text has the byte that ends a line
abbrev pub has_byte : ℕ → List ℕ → Bool
has_byte end text = list_any (λ byte. byte == end) text

-- two texts without it have none together
pub joined : (end : ℕ) (xs ys : List ℕ) → has_byte end xs ≡ false → has_byte end ys ≡ false → has_byte end (xs ++ ys) ≡ false
joined end xs ys left right = rw (list_any-append (λ byte. byte == end) xs ys, left, right) refl

-- nor has the printed text of a byte of a name
escape_by-line : (c : ℕ) (letter : Option ℕ) → letter_of c ≡ letter → has_byte 10 (escape_by c letter) ≡ false
escape_by-line c None is = grind (arith)
escape_by-line c (Some letter) is = grind (arith)

-- nor that of a name
escaped-line : (name : List ℕ) → has_byte 10 (escaped name) ≡ false
unfolding escaped
escaped-line [] = refl
escaped-line (c ∷ cs) = joined 10 (escape_by c (letter_of c)) (escaped cs) (escape_by-line c (letter_of c) refl) (escaped-line cs)

-- no digit is a byte without a value
no_digit : (end k : ℕ) → hex_digit_value end ≡ None → k < 16 → (slice_index lower_digits k == end) ≡ false
no_digit end k none small = ne_eqb (slice_index lower_digits k) end (λ same. cc (sym (IsDigits-lower_digits k small) ∙ ap hex_digit_value same ∙ none))

encoded-end : (end : ℕ) (xs : List ℕ) → hex_digit_value end ≡ None → ((i : ℕ) → slice_index xs i < 256) → has_byte end (encode_with lower_digits xs) ≡ false
unfolding encode_with
encoded-end end [] none bytes = refl
encoded-end end (b ∷ bs) none bytes =
    let small : b < 256 = bytes 0 in
    rw (no_digit end (b / 16) none (omega (arith, small)), no_digit end (b % 16) none (omega arith), encoded-end end bs none (λ i. bytes (suc i))) refl

digits-end : (end hash : ℕ) → hex_digit_value end ≡ None → has_byte end (digits_of hash) ≡ false
digits-end end hash none = encoded-end end (to_be_bytes w64 hash) none (bytes-small hash)

-- the text of a version is read as that version, and has neither a space, a colon nor a newline
pub version_read : (version : Version) → (version_tagged (version_text version) ≡ Some version)
    × (has_byte 32 (version_text version) ≡ false) × (has_byte 58 (version_text version) ≡ false) × (has_byte 10 (version_text version) ≡ false)
unfolding version_tagged
version_read V1 = (refl, refl, refl, refl)
version_read V2Minor0 = (refl, refl, refl, refl)
version_read V2Minor1 = (refl, refl, refl, refl)
version_read V2Minor2 = (refl, refl, refl, refl)
version_read V3 = (refl, refl, refl, refl)
version_read V3Micro = (refl, refl, refl, refl)
version_read V3Nano = (refl, refl, refl, refl)

-- a seed word has no byte but a colon and digits
pub seed-end : (end : ℕ) (seed : Option ℕ) → hex_digit_value end ≡ None → (58 == end) ≡ false → has_byte end (seed_text seed) ≡ false
unfolding seed_text
seed-end end None none other = refl
seed-end end (Some word) none other = rw other (digits-end end word none)

-- no body has a newline
body-line : (layout : Layout) (algorithm : Algorithm) (hash : ℕ) (text : List ℕ) → has_byte 10 text ≡ false
    → has_byte 10 (body_of layout algorithm hash text) ≡ false
unfolding body_of
body-line Text algorithm hash text none = joined 10 (digits_of hash) (32 ∷ 32 ∷ text) (digits-end 10 hash refl) none
body-line Binary algorithm hash text none = joined 10 (digits_of hash) (32 ∷ 42 ∷ text) (digits-end 10 hash refl) none
body-line Tagged algorithm hash text none =
    let version = joined 10 (version_text algorithm.version) (seed_text algorithm.seed) (version_read algorithm.version).3 (seed-end 10 algorithm.seed refl refl) in
    let name = joined 10 (32 ∷ 40 ∷ text) (41 ∷ 32 ∷ 61 ∷ 32 ∷ []) none refl in
    joined 10 (tag_of algorithm) (value_of hash text) version (joined 10 ((32 ∷ 40 ∷ text) ++ 41 ∷ 32 ∷ 61 ∷ 32 ∷ []) (digits_of hash) name (digits-end 10 hash refl))

-- with or without the backslash
cond-line : (escapes : Bool) (body : List ℕ) → has_byte 10 body ≡ false → has_byte 10 (cond escapes (92 ∷ body) body) ≡ false
cond-line true body none = none
cond-line false body none = none

-- no line has a newline
line_of-line : (layout : Layout) (algorithm : Algorithm) (hash : ℕ) (name : List ℕ)
    → has_byte 10 (line_of layout algorithm hash name) ≡ false
line_of-line layout algorithm hash name =
    cond-line (needs_escape name) (body_of layout algorithm hash (escaped name))
    (body-line layout algorithm hash (escaped name) (escaped-line name))

-- where a line ends: at the first such byte
line_end : (end : ℕ) (line rest : List ℕ) (n : ℕ) → has_byte end line ≡ false → All (λ byte. byte ≢ end) (take n (line ++ end ∷ rest))
    → (n < length (line ++ end ∷ rest) → slice_index (line ++ end ∷ rest) n ≡ end) → n ≡ length line
line_end end [] rest zero none before found = refl
line_end end [] rest (suc n) none before found = absurd (before 0 0 (omega arith) refl)
line_end end (c ∷ cs) rest zero none before found = let is : c ≡ end = found (omega arith) in grind (arith)
line_end end (c ∷ cs) rest (suc n) none before found =
    ap suc (line_end end cs rest n (grind (arith)) (λ k d below. before (suc k) d (omega (arith, below))) (λ below. found (omega (arith, below))))

-- the line before that place, and the text from there on
pub line_parts : (end : ℕ) (line rest text : List ℕ) (n : ℕ) → has_byte end line ≡ false → text ≡ line ++ end ∷ rest
    → All (λ byte. byte ≢ end) (take n text) → (n < length text → slice_index text n ≡ end)
    → (take n text ≡ line) × (drop n text ≡ end ∷ rest)
line_parts end line rest text n none is before found =
    let place = line_end end line rest n none (rw is at before) (rw is at found) in
    (rw (place, is) (take-append_seam line (end ∷ rest)), rw (place, is) (drop-append_seam line (end ∷ rest)))

-- the entries so far are those of the first lines, and the rest of the text has the other lines
abbrev pub IsReadTo : {A : Type 0} → List (OneEntry A) → List ℕ → List Printed → Type 0
IsReadTo [] rest lines = rest ≡ list_of lines
IsReadTo (entry ∷ entries) rest [] = ⊥
IsReadTo (entry ∷ entries) rest (line ∷ lines) =
    Names entry (carried line.layout line.algorithm) line.hash line.name × IsReadTo entries rest lines

-- the contracts of the calls in the loop
abbrev pub IsNext : ℕ → List ℕ → List ℕ → List ℕ → Type 0
IsNext end text line more = (one rest : List ℕ) → has_byte end one ≡ false → text ≡ one ++ end ∷ rest → (line ≡ one) × (more ≡ rest)

-- a text without that byte is a line
abbrev pub IsLast : ℕ → List ℕ → List ℕ → List ℕ → Type 0
IsLast end text line more = has_byte end text ≡ false → (line ≡ text) × (more ≡ [])

abbrev pub Reads : {A : Type 0} → List ℕ → Line A → Type 0
Reads line read = (layout : Layout) (algorithm : Algorithm) (hash : ℕ) (name : List ℕ) → Fits algorithm hash
    → line ≡ line_of layout algorithm hash name → IsEntry read layout algorithm hash name

-- the next line of a list is its first printed line
next-printed : (line : Printed) (lines : List Printed) (text first more : List ℕ) → text ≡ list_of (line ∷ lines) → IsNext 10 text first more
    → (first ≡ line_of line.layout line.algorithm line.hash line.name) × (more ≡ list_of lines)
next-printed line lines text first more is next =
    let one = line_of line.layout line.algorithm line.hash line.name in
    next one (list_of lines) (line_of-line line.layout line.algorithm line.hash line.name)
    (is ∙ append_assoc one (10 ∷ []) (list_of lines))

-- one more entry
pub entry-next : {A : Type 0} (entries : List (OneEntry A)) (entry : OneEntry A) (text first more : List ℕ) (lines : List Printed)
    → AllFit lines → IsReadTo entries text lines → 0 < length text → IsNext 10 text first more → Reads first (Entry entry)
    → IsReadTo (entries ++ entry ∷ []) more lines
entry-next [] entry text first more [] fit read some next reads = absurd (omega (arith, ap length read))
entry-next [] entry text first more (line ∷ lines) fit read some next reads =
    let parts = next-printed line lines text first more read next in
    (reads line.layout line.algorithm line.hash line.name fit.0 parts.0, parts.1)
entry-next (e ∷ es) entry text first more [] fit read some next reads = absurd read
entry-next (e ∷ es) entry text first more (line ∷ lines) fit read some next reads =
    (read.0, entry-next es entry text first more lines fit.1 read.1 some next reads)

-- no line of a list is anything else
pub no_other : {A : Type 0} (entries : List (OneEntry A)) (text first more : List ℕ) (lines : List Printed)
    → AllFit lines → IsReadTo entries text lines → 0 < length text → IsNext 10 text first more
    → ((layout : Layout) (algorithm : Algorithm) (hash : ℕ) (name : List ℕ) → Fits algorithm hash → first ≡ line_of layout algorithm hash name → ⊥)
    → ⊥
no_other [] text first more [] fit read some next other = absurd (omega (arith, ap length read))
no_other [] text first more (line ∷ lines) fit read some next other =
    let parts = next-printed line lines text first more read next in
    other line.layout line.algorithm line.hash line.name fit.0 parts.0
no_other (e ∷ es) text first more [] fit read some next other = absurd read
no_other (e ∷ es) text first more (line ∷ lines) fit read some next other = no_other es text first more lines fit.1 read.1 some next other

-- at the end of the text all lines are read
pub all-read : {A : Type 0} (entries : List (OneEntry A)) (text : List ℕ) (lines : List Printed) → IsReadTo entries text lines
    → length text ≡ 0 → AreEntries entries lines
all-read [] text [] read end = tt
all-read [] text (line ∷ lines) read end =
    let one = line_of line.layout line.algorithm line.hash line.name in
    absurd (omega (arith, end, ap length read, length-append (one ++ 10 ∷ []) (list_of lines), length-append one (10 ∷ [])))
all-read (e ∷ es) text [] read end = absurd read
all-read (e ∷ es) text (line ∷ lines) read end = (read.0, all-read es text lines read.1 end)
