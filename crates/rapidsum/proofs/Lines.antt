-- Properties of printed lines, for the functions that read them.
use Rattle.std.proofs.Common.{◌≡◌, ◌≢◌, ℕ, ◌+◌, ◌-◌, ◌/◌, ◌%◌, ◌^◌, ◌<◌, ◌≤◌, Bool, true, false, cond, List, [], ◌∷◌, ◌++◌, length, slice_index, slice_index_or, ◌||◌, ◌==◌, is_some, zero, suc, Ok, take, drop, ◌⊎◌, inl, inr, ⊎_elim, Option, None, Some, IsSomeAnd, option_and_then, refl, sym, ap, ◌∙◌, arith}
use Rattle.std.proofs.Math.Seq.{take-append_seam, drop-append_seam}
use Rattle.std.proofs.lemmas.List.{append-nil, append_assoc, get_or-append-add, length-append}
use Rattle.std.proofs.lemmas.Bool.{eqb-true, ne_eqb}
use Rattle.std.proofs.lemmas.Nat.{from_be_bytes-to_be_bytes_8}
use Rattle.std.specs.Int.{from_be_bytes, to_be_bytes, w64}
use Rattle.hex.specs.Hex.{decode_sized, encode_with, hex_digit_value}
use Rattle.hex.proofs.HexLemmas.{IsDigits-lower_digits, decode_sized-encode_lower}
use Rattle.rapidsum.specs.Line.{byte_of, carried, digits_of, escape_by, escaped, body_of, letter_of, line_of, needs_escape, tag_of, unescape_from, value_of}
use Rattle.rapidsum.specs.Entry.{AreParts, Fits}
use Rattle.rapidsum.specs.declared.parts.Parts.{Parts}
use Rattle.rapidsum.specs.declared.algorithm.Algorithm.{Algorithm}
use Rattle.rapidsum.specs.declared.line.Layout.{Layout}
use Rattle.rapidsum.specs.declared.line.Layout.TheVariants.{Binary, Tagged, Text}

-- an escape reads back as its byte
byte_of-letter_of : (c letter : ℕ) → letter_of c ≡ Some letter → byte_of letter ≡ Some c
byte_of-letter_of c letter h = grind (arith)

-- a byte without an escape is no backslash and no carriage return
plain-byte : (c : ℕ) → letter_of c ≡ None → (c ≡ 92 → ⊥) × (c ≡ 13 → ⊥)
plain-byte c h = (λ same. grind (arith), λ same. grind (arith))

-- no letter of an escape is a carriage return
letter-no_return : (c letter : ℕ) → letter_of c ≡ Some letter → letter ≡ 13 → ⊥
letter-no_return c letter h same = grind (arith)

-- one byte of a name reads back, whatever its escape is
unescape-step : (before cs : List ℕ) (c : ℕ) (letter : Option ℕ) → letter_of c ≡ letter
    → ((earlier : List ℕ) → unescape_from earlier false (escaped cs) ≡ Some (earlier ++ cs))
    → unescape_from before false (escape_by c letter ++ escaped cs) ≡ Some (before ++ c ∷ cs)
unfolding unescape_from
unescape-step before cs c None is rest =
    ap (λ (b : Bool). cond b (unescape_from before true (escaped cs)) (unescape_from (before ++ c ∷ []) false (escaped cs))) (ne_eqb c 92 (plain-byte c is).0)
    ∙ rest (before ++ c ∷ []) ∙ ap Some (append_assoc before (c ∷ []) cs)
unescape-step before cs c (Some letter) is rest =
    ap (option_and_then (λ b. unescape_from (before ++ b ∷ []) false (escaped cs))) (byte_of-letter_of c letter is)
    ∙ rest (before ++ c ∷ []) ∙ ap Some (append_assoc before (c ∷ []) cs)

-- a name reads back from its escaped text
pub unescape_from_escaped : (before name : List ℕ) → unescape_from before false (escaped name) ≡ Some (before ++ name)
unfolding escaped unescape_from
unescape_from_escaped before [] = ap Some (sym (append-nil before))
unescape_from_escaped before (c ∷ cs) = unescape-step before cs c (letter_of c) refl (λ earlier. unescape_from_escaped earlier cs)

-- one byte of a name is no carriage return in its escaped text
no_return-step : (c i : ℕ) (cs : List ℕ) (letter : Option ℕ) → letter_of c ≡ letter
    → ((j : ℕ) → slice_index (escaped cs) j ≡ 13 → ⊥)
    → slice_index (escape_by c letter ++ escaped cs) i ≡ 13 → ⊥
no_return-step c zero cs None is rest found = (plain-byte c is).1 found
no_return-step c (suc i) cs None is rest found = rest i found
no_return-step c zero cs (Some letter) is rest found = cc found
no_return-step c (suc zero) cs (Some letter) is rest found = letter-no_return c letter is found
no_return-step c (suc (suc i)) cs (Some letter) is rest found = rest i found

-- an escaped name has no carriage return
escaped-no_return : (name : List ℕ) (i : ℕ) → slice_index (escaped name) i ≡ 13 → ⊥
unfolding escaped
escaped-no_return [] i found = cc found
escaped-no_return (c ∷ cs) i found = no_return-step c i cs (letter_of c) refl (escaped-no_return cs) found

-- the same of a text that is an escaped name
pub no_return_at : (name text : List ℕ) (i : ℕ) → text ≡ escaped name → slice_index text i ≡ 13 → ⊥
no_return_at name text i is found = escaped-no_return name i (ap (λ (xs : List ℕ). slice_index xs i) (sym is) ∙ found)

-- one byte of a name without an escape is printed as it is
plain-step : (c : ℕ) (cs : List ℕ) (letter : Option ℕ) → letter_of c ≡ letter → is_some letter || needs_escape cs ≡ false
    → (needs_escape cs ≡ false → escaped cs ≡ cs) → escape_by c letter ++ escaped cs ≡ c ∷ cs
plain-step c cs None is h rest = ap (λ xs. c ∷ xs) (rest h)
plain-step c cs (Some letter) is h rest = cc h

-- a name without an escape is printed as it is
pub escaped-plain : (name : List ℕ) → needs_escape name ≡ false → escaped name ≡ name
unfolding escaped
escaped-plain [] h = refl
escaped-plain (c ∷ cs) h = plain-step c cs (letter_of c) refl h (escaped-plain cs)

-- no digit of a hash is a byte that is no digit
first-digit : (hash byte : ℕ) (xs : List ℕ) → hex_digit_value byte ≡ None → slice_index (digits_of hash ++ xs) 0 ≡ byte → ⊥
unfolding encode_with
first-digit hash byte xs none found =
    let top = hash / 72057594037927936 % 256 / 16 in
    let read = IsDigits-lower_digits top (omega arith) in
    cc (sym read ∙ ap hex_digit_value found ∙ none)

-- nor is the first the letter that a tag begins with
not-r : (hash : ℕ) (xs : List ℕ) → (slice_index (digits_of hash ++ xs) 0 == 82) ≡ true → ⊥
not-r hash xs found = first-digit hash 82 xs refl (eqb-true (slice_index (digits_of hash ++ xs) 0) 82 found)

last-digit : (hash byte : ℕ) → hex_digit_value byte ≡ None → slice_index (digits_of hash) 15 ≡ byte → ⊥
unfolding encode_with
last-digit hash byte none found =
    let low = hash % 256 % 16 in
    let read = IsDigits-lower_digits low (omega arith) in
    cc (sym read ∙ ap hex_digit_value found ∙ none)

-- the bytes of a hash are bytes
pub bytes-small : (hash i : ℕ) → slice_index (to_be_bytes w64 hash) i < 256
bytes-small hash i = grind (arith)

-- the digits of a hash decode to its bytes
pub digits_decode : (hash : ℕ) → decode_sized (digits_of hash) 8 ≡ Ok (to_be_bytes w64 hash)
digits_decode hash = decode_sized-encode_lower (to_be_bytes w64 hash) 8 refl (bytes-small hash)

-- and those are the hash
pub hash_of_bytes : (hash : ℕ) → hash < 2 ^ 64 → from_be_bytes w64 (to_be_bytes w64 hash) ≡ hash
hash_of_bytes hash fits = from_be_bytes-to_be_bytes_8 hash fits

-- the digits and the text after them
pub digits_part : (hash : ℕ) (rest : List ℕ) → take 16 (digits_of hash ++ rest) ≡ digits_of hash
unfolding encode_with
digits_part hash rest = refl

pub rest_part : (hash : ℕ) (rest : List ℕ)
    → drop 16 (digits_of hash ++ rest) ≡ rest × 16 ≤ length (digits_of hash ++ rest)
unfolding encode_with
rest_part hash rest = (refl, grind (arith))

-- where the end of a text begins
end-place : (front back : List ℕ) (count : ℕ) → length back ≡ count → length (front ++ back) - count ≡ length front
end-place front back count is = let sum = length-append front back in omega (arith, sum, is)

-- the part before the end of a text, and the end
pub front_part : (front back : List ℕ) (count : ℕ) → length back ≡ count
    → take (length (front ++ back) - count) (front ++ back) ≡ front
front_part front back count is =
    ap (λ (k : ℕ). take k (front ++ back)) (end-place front back count is) ∙ take-append_seam front back

pub back_part : (front back : List ℕ) (count : ℕ) → length back ≡ count
    → drop (length (front ++ back) - count) (front ++ back) ≡ back × count ≤ length (front ++ back)
back_part front back count is =
    let sum = length-append front back in
    (ap (λ (k : ℕ). drop k (front ++ back)) (end-place front back count is) ∙ drop-append_seam front back, omega (arith, sum, is))

-- a text that ends in digits has no carriage return at its end
pub digits-length : (hash : ℕ) → length (digits_of hash) ≡ 16
unfolding encode_with
digits-length hash = refl

pub no_return_behind : (front text : List ℕ) (hash : ℕ) → text ≡ front ++ digits_of hash → slice_index text (length text - 1) ≡ 13 → ⊥
no_return_behind front text hash is found =
    let sum = length-append front (digits_of hash) in
    let sixteen = digits-length hash in
    let place : length (front ++ digits_of hash) - 1 ≡ length front + 15 = omega (arith, sum, sixteen) in
    let there = get_or-append-add front (digits_of hash) 15 0 in
    let last : slice_index (digits_of hash) 15 ≡ 13 =
    sym there ∙ ap (λ (k : ℕ). slice_index (front ++ digits_of hash) k) (sym place)
    ∙ ap (λ (xs : List ℕ). slice_index xs (length xs - 1)) (sym is) ∙ found in
    last-digit hash 13 refl last

-- no body begins with a backslash
body-no_backslash : (layout : Layout) (algorithm : Algorithm) (hash : ℕ) (text : List ℕ)
    → slice_index (body_of layout algorithm hash text) 0 ≡ 92 → ⊥
unfolding body_of
body-no_backslash Text algorithm hash text found = first-digit hash 92 (32 ∷ 32 ∷ text) refl found
body-no_backslash Binary algorithm hash text found = first-digit hash 92 (32 ∷ 42 ∷ text) refl found
body-no_backslash Tagged algorithm hash text found = let bad : 82 ≡ 92 = found in absurd (omega (arith, bad))

-- a line that begins as a tag does is read as a tagged one
pub of_tagged_line : (layout : Layout) (algorithm : Algorithm) (hash : ℕ) (name line : List ℕ) (result : Option Parts)
    → (slice_index line 0 == 82) ≡ true
    → ((own : Algorithm) (number : ℕ) (text : List ℕ) → Fits own number → line ≡ tag_of own ++ value_of number text
    → IsSomeAnd result (λ parts. AreParts parts (Some own) number text))
    → Fits algorithm hash → line ≡ body_of layout algorithm hash (escaped name)
    → IsSomeAnd result (λ parts. AreParts parts (carried layout algorithm) hash (escaped name))
unfolding body_of
of_tagged_line Text algorithm hash name line result first tagged fits is =
    absurd (not-r hash (32 ∷ 32 ∷ escaped name) (ap (λ (xs : List ℕ). slice_index xs 0 == 82) (sym is) ∙ first))
of_tagged_line Binary algorithm hash name line result first tagged fits is =
    absurd (not-r hash (32 ∷ 42 ∷ escaped name) (ap (λ (xs : List ℕ). slice_index xs 0 == 82) (sym is) ∙ first))
of_tagged_line Tagged algorithm hash name line result first tagged fits is = tagged algorithm hash (escaped name) fits is

-- and another line by its digits
pub of_plain_line : (layout : Layout) (algorithm : Algorithm) (hash : ℕ) (name line : List ℕ) (result : Option Parts)
    → (slice_index line 0 == 82) ≡ false
    → ((number : ℕ) (own : List ℕ) → number < 2 ^ 64 → line ≡ digits_of number ++ 32 ∷ 32 ∷ escaped own
    → IsSomeAnd result (λ parts. AreParts parts None number (escaped own)))
    → ((number : ℕ) (own : List ℕ) → number < 2 ^ 64 → line ≡ digits_of number ++ 32 ∷ 42 ∷ escaped own
    → IsSomeAnd result (λ parts. AreParts parts None number (escaped own)))
    → Fits algorithm hash → line ≡ body_of layout algorithm hash (escaped name)
    → IsSomeAnd result (λ parts. AreParts parts (carried layout algorithm) hash (escaped name))
unfolding body_of
of_plain_line Text algorithm hash name line result first text binary fits is = text hash name fits.0 is
of_plain_line Binary algorithm hash name line result first text binary fits is = binary hash name fits.0 is
of_plain_line Tagged algorithm hash name line result first text binary fits is =
    let bad : true ≡ false = ap (λ (xs : List ℕ). slice_index xs 0 == 82) (sym is) ∙ first in cc bad

-- one of the two forms of a line
line-cases : (layout : Layout) (algorithm : Algorithm) (hash : ℕ) (name line : List ℕ) (escapes : Bool) → needs_escape name ≡ escapes
    → line ≡ (let body = body_of layout algorithm hash (escaped name) in cond escapes (92 ∷ body) body)
    → (line ≡ 92 ∷ body_of layout algorithm hash (escaped name)) ⊎ (line ≡ body_of layout algorithm hash (escaped name) × escaped name ≡ name)
line-cases layout algorithm hash name line true needs is = inl is
line-cases layout algorithm hash name line false needs is = inr (is, escaped-plain name needs)

-- a line that begins with a backslash has its body behind it
pub behind_backslash : (layout : Layout) (algorithm : Algorithm) (hash : ℕ) (name line body : List ℕ)
    → line ≡ line_of layout algorithm hash name → line ≡ 92 ∷ body → body ≡ body_of layout algorithm hash (escaped name)
behind_backslash layout algorithm hash name line body is first =
    ⊎_elim (λ found. ap (drop 1) (sym first ∙ found))
    (λ other. absurd (body-no_backslash layout algorithm hash (escaped name) (ap (λ (xs : List ℕ). slice_index xs 0) (sym other.0 ∙ first))))
    (line-cases layout algorithm hash name line (needs_escape name) refl is)

-- a line that does not is its body, and has no escape
pub no_backslash : (layout : Layout) (algorithm : Algorithm) (hash : ℕ) (name line : List ℕ)
    → line ≡ line_of layout algorithm hash name → slice_index_or line 0 0 ≢ 92
    → line ≡ body_of layout algorithm hash (escaped name) × escaped name ≡ name
no_backslash layout algorithm hash name line is first =
    ⊎_elim (λ found. absurd (first (ap (λ (xs : List ℕ). slice_index_or xs 0 0) found))) (λ other. other)
    (line-cases layout algorithm hash name line (needs_escape name) refl is)
