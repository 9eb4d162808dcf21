-- Lemmas on keys of several fields.
use Rattle.std.proofs.Common.{◌≡◌, ◌⊎◌, inl, inr, ℕ, ◌+◌, ◌≤◌, ◌<◌, ◌^◌, Bool, List, [], ◌∷◌, ◌++◌, length, drop, map, get_or, add-one, refl, subst, sym, ap, ◌∙◌, append_assoc, drop-cons, arith}
use Rattle.std.specs.Int.{w64, to_le_bytes, from_le_bytes}
use Rattle.std.proofs.lemmas.Nat.{from_le_bytes-to_le_bytes_8}
use Rattle.std.proofs.lemmas.List.{append-nil, append_cancel_left, drop_all, length-drop}
use Rattle.rapidhash_portable.specs.Stream.{RepresentsAfter}
use Rattle.rapidhash_portable.specs.declared.v3.stream.RapidStreamHasherLanes.{RapidStreamHasherLanes}
use Rattle.rapidhash.specs.declared.key.Field.{Field}
use Rattle.rapidhash.specs.declared.key.Field.TheVariants.{Nothing, Integer, Bytes}
use Rattle.rapidhash.specs.Key.{Appends, Content, IsContent, Missing, Number, Text, content_bytes, content_of, field_bytes, key_bytes}

-- two writes add the bytes of both
pub appends-join : {lanes avalanche protected' : ℕ} (protected : Bool) (old middle new : RapidStreamHasherLanes lanes avalanche protected') (a b : List ℕ)
    → Appends protected old middle a → Appends protected middle new b → Appends protected old new (a ++ b)
appends-join protected old middle new a b first second = record {
  adds = λ earlier x h. subst (λ y. RepresentsAfter earlier protected new y) (append_assoc x a b) (second.adds earlier (x ++ a) (first.adds earlier x h));
  count = second.count;
  secrets = second.secrets ∙ first.secrets;
}

-- the bytes from a field on begin with that field's
pub key_bytes-step : (fields : List Field) (i : ℕ) (d field : Field) → i < length fields → get_or fields i d ≡ field
    → key_bytes (drop i fields) ≡ field_bytes field ++ key_bytes (drop (i + 1) fields)
unfolding key_bytes
key_bytes-step fields i d field h e = rw (add-one, drop-cons fields i d h, e) refl

-- there are no bytes behind the last field
key_bytes-all : (i : ℕ) (fields : List Field) → length fields ≤ i → key_bytes (drop i fields) ≡ []
unfolding key_bytes
key_bytes-all i fields h = ap key_bytes (drop_all i fields h)

-- so the bytes of a key are those before that place
pub key_bytes-end : (fields : List Field) (i : ℕ) (x : List ℕ) → length fields ≤ i → key_bytes fields ≡ x ++ key_bytes (drop i fields) → key_bytes fields ≡ x
key_bytes-end fields i x h e = e ∙ ap (λ rest. x ++ rest) (key_bytes-all i fields h) ∙ append-nil x

-- the number in 8 bytes is unique
number_bytes-injective : (m n : ℕ) → m < 2 ^ 64 → n < 2 ^ 64 → to_le_bytes w64 m ≡ to_le_bytes w64 n → m ≡ n
number_bytes-injective m n m_fits n_fits e = sym (from_le_bytes-to_le_bytes_8 m m_fits) ∙ ap (from_le_bytes w64) e ∙ from_le_bytes-to_le_bytes_8 n n_fits

-- fronts of one length are equal if the lists are
front-injective : (a b c d : List ℕ) → length a ≡ length c → a ++ b ≡ c ++ d → a ≡ c
front-injective [] b [] d h e = refl
front-injective [] b (z ∷ c) d h e = absurd (cc h)
front-injective (y ∷ a) b [] d h e = absurd (cc h)
front-injective (y ∷ a) b (z ∷ c) d h e = cc (front-injective a b c d (cc h) (cc e), e)

-- where two encodings begin alike, the first fields are equal
content_bytes-injective : (a b : Content) (u v : List ℕ) → IsContent a → IsContent b → content_bytes a ++ u ≡ content_bytes b ++ v → a ≡ b
content_bytes-injective Missing Missing u v ha hb e = refl
content_bytes-injective Missing (Number n) u v ha hb e = absurd (cc e)
content_bytes-injective Missing (Text b) u v ha hb e = absurd (cc e)
content_bytes-injective (Number m) Missing u v ha hb e = absurd (cc e)
content_bytes-injective (Number m) (Text b) u v ha hb e = absurd (cc e)
content_bytes-injective (Text a) Missing u v ha hb e = absurd (cc e)
content_bytes-injective (Text a) (Number n) u v ha hb e = absurd (cc e)
content_bytes-injective (Number m) (Number n) u v ha hb e =
    let whole : to_le_bytes w64 m ++ u ≡ to_le_bytes w64 n ++ v = cc e in
    ap Number (number_bytes-injective m n ha hb (front-injective _ _ _ _ refl whole))
content_bytes-injective (Text a) (Text b) u v ha hb e =
    let whole : (to_le_bytes w64 (length a) ++ a) ++ u ≡ (to_le_bytes w64 (length b) ++ b) ++ v = cc e in
    let apart : to_le_bytes w64 (length a) ++ (a ++ u) ≡ to_le_bytes w64 (length b) ++ (b ++ v) =
    sym (append_assoc (to_le_bytes w64 (length a)) a u) ∙ whole ∙ append_assoc (to_le_bytes w64 (length b)) b v in
    let size : length a ≡ length b = number_bytes-injective (length a) (length b) ha hb (front-injective _ _ _ _ refl apart) in
    let same : to_le_bytes w64 (length a) ++ (a ++ u) ≡ to_le_bytes w64 (length a) ++ (b ++ v) = apart ∙ cc size in
    ap Text (front-injective a u b v size (append_cancel_left (to_le_bytes w64 (length a)) _ _ same))

-- two keys have the same `i` fields first, whose bytes are `front`
pub record Agree (x y : List Field) (i : ℕ) : Type 0 where
  pub front : List ℕ
  pub contents : List Content
  pub left : key_bytes x ≡ front ++ key_bytes (drop i x)
  pub right : key_bytes y ≡ front ++ key_bytes (drop i y)
  pub left_contents : map content_of x ≡ contents ++ map content_of (drop i x)
  pub right_contents : map content_of y ≡ contents ++ map content_of (drop i y)

pub agree-none : (x y : List Field) → Agree x y 0
agree-none x y = record { front = []; contents = []; left = refl; right = refl; left_contents = refl; right_contents = refl }

-- the contents from a field on begin with that field's
contents-step : (fields : List Field) (i : ℕ) (d : Field) → i < length fields
    → map content_of (drop i fields) ≡ content_of (get_or fields i d) ∷ map content_of (drop (i + 1) fields)
contents-step fields i d h = rw (add-one, drop-cons fields i d h) refl

-- a further front of one list, and of its front
further : {X : Type 0} (whole front here rest next : List X) → whole ≡ front ++ rest → rest ≡ here ++ next → whole ≡ (front ++ here) ++ next
further whole front here rest next e f = e ∙ ap (λ r. front ++ r) f ∙ sym (append_assoc front here next)

pub agree-more : (x y : List Field) (i : ℕ) (d e : Field) → i < length x → i < length y
    → content_of (get_or x i d) ≡ content_of (get_or y i e) → Agree x y i → Agree x y (i + 1)
agree-more x y i d e in_x in_y same agree =
    let here = content_of (get_or x i d) in
    let step_y : key_bytes (drop i y) ≡ content_bytes here ++ key_bytes (drop (i + 1) y) =
    key_bytes-step y i e _ in_y refl ∙ ap (λ c. content_bytes c ++ key_bytes (drop (i + 1) y)) (sym same) in
    let contents_y : map content_of (drop i y) ≡ (here ∷ []) ++ map content_of (drop (i + 1) y) =
    contents-step y i e in_y ∙ ap (λ c. c ∷ map content_of (drop (i + 1) y)) (sym same) in
    record {
      front = agree.front ++ content_bytes here;
      contents = agree.contents ++ here ∷ [];
      left = further _ agree.front (content_bytes here) _ _ agree.left (key_bytes-step x i d _ in_x refl);
      right = further _ agree.front (content_bytes here) _ _ agree.right step_y;
      left_contents = further _ agree.contents (here ∷ []) _ _ agree.left_contents (contents-step x i d in_x);
      right_contents = further _ agree.contents (here ∷ []) _ _ agree.right_contents contents_y;
    }

-- if a field behind equal ones is there in both keys, and one encoding begins the other, it is the same field
pub agree-here : (x y : List Field) (i : ℕ) (d e : Field) → i < length x → i < length y
    → IsContent (content_of (get_or x i d)) → IsContent (content_of (get_or y i e)) → Agree x y i
    → (rest : List ℕ) → key_bytes x ++ rest ≡ key_bytes y → content_of (get_or x i d) ≡ content_of (get_or y i e)
agree-here x y i d e in_x in_y fits_x fits_y agree rest same =
    let a = content_bytes (content_of (get_or x i d)) in
    let b = content_bytes (content_of (get_or y i e)) in
    let left : key_bytes x ++ rest ≡ agree.front ++ (a ++ (key_bytes (drop (i + 1) x) ++ rest)) =
    ap (λ k. k ++ rest) (further _ agree.front a _ _ agree.left (key_bytes-step x i d _ in_x refl))
    ∙ append_assoc (agree.front ++ a) _ rest ∙ append_assoc agree.front a _ in
    let right : key_bytes y ≡ agree.front ++ (b ++ key_bytes (drop (i + 1) y)) =
    further _ agree.front b _ _ agree.right (key_bytes-step y i e _ in_y refl) ∙ append_assoc agree.front b _ in
    content_bytes-injective _ _ _ _ fits_x fits_y (append_cancel_left agree.front _ _ (sym left ∙ same ∙ right))

-- likewise if their contents are the same
pub agree-here-contents : (x y : List Field) (i : ℕ) (d e : Field) → i < length x → i < length y → Agree x y i
    → map content_of x ≡ map content_of y → content_of (get_or x i d) ≡ content_of (get_or y i e)
agree-here-contents x y i d e in_x in_y agree same =
    let left = agree.left_contents ∙ ap (λ r. agree.contents ++ r) (contents-step x i d in_x) in
    let right = agree.right_contents ∙ ap (λ r. agree.contents ++ r) (contents-step y i e in_y) in
    let here : content_of (get_or x i d) ∷ map content_of (drop (i + 1) x) ≡ content_of (get_or y i e) ∷ map content_of (drop (i + 1) y) =
    append_cancel_left agree.contents _ _ (sym left ∙ same ∙ right) in
    cc here

-- keys without further fields are the same
pub agree-all : (x y : List Field) (i : ℕ) → length x ≤ i → length y ≤ i → Agree x y i
    → (key_bytes x ≡ key_bytes y) × (map content_of x ≡ map content_of y)
agree-all x y i in_x in_y agree =
    let rests = drop_all i x in_x ∙ sym (drop_all i y in_y) in (
      agree.left ∙ ap (λ r. agree.front ++ key_bytes r) rests ∙ sym agree.right,
      agree.left_contents ∙ ap (λ r. agree.contents ++ map content_of r) rests ∙ sym agree.right_contents,
    )

-- a key without bytes has no field
key_bytes-none : (fields : List Field) → key_bytes fields ≡ [] → length fields ≡ 0
unfolding key_bytes
key_bytes-none [] e = refl
key_bytes-none (Nothing ∷ fields) e = absurd (cc e)
key_bytes-none (Integer n ∷ fields) e = absurd (cc e)
key_bytes-none (Bytes b ∷ fields) e = absurd (cc e)

-- no field is left where the other key has none
none-left : (x y : List Field) (i : ℕ) → length x ≤ i → key_bytes (drop i x) ≡ key_bytes (drop i y) → length y ≤ i
none-left x y i in_x same =
    let none = key_bytes-none (drop i y) (sym same ∙ key_bytes-all i x in_x) in
    omega (arith, sym (length-drop i y) ∙ none)

-- equal encodings are those of as many fields, if one key has no more
pub agree-lengths : (x y : List Field) (i : ℕ) → (i ≡ length x) ⊎ (i < length x) → (i < length x → length y ≤ i) → i ≤ length y → Agree x y i
    → key_bytes x ≡ key_bytes y → length x ≡ length y
agree-lengths x y i (inl end) other in_y agree same =
    let rests = append_cancel_left agree.front _ _ (sym agree.left ∙ same ∙ agree.right) in
    omega (arith, end, none-left x y i (omega (arith, end)) rests)
agree-lengths x y i (inr more) other in_y agree same =
    let rests = append_cancel_left agree.front _ _ (sym agree.left ∙ same ∙ agree.right) in
    omega (arith, more, other more, none-left y x i (other more) (sym rests))

-- nothing follows an encoding that is the whole of another
pub no-rest : (a b rest : List ℕ) → a ≡ b → a ++ rest ≡ b → rest ≡ []
no-rest a b rest same whole = append_cancel_left a rest [] (whole ∙ sym same ∙ sym (append-nil a))
