-- Lemmas on decimal numbers: the digits of equal numbers are the same, but for zeros.
use Rattle.std.proofs.Common.{◌≡◌, ◌≢◌, ℕ, zero, suc, ◌+◌, ◌*◌, ◌^◌, ◌<◌, Bool, true, false, not, cond, ◌&&◌, eqb, List, [], ◌∷◌, ◌++◌, length, reverse, replicate, refl, sym, ap, ap₂, ◌∙◌, arith}
use Rattle.std.specs.Str.Parse.{AllDigits, digits_value, digits_value_after}
use Rattle.std.specs.Char.{digit_value}
use Rattle.std.proofs.Math.Nat.{pow-zero, pow-succ', mul_assoc, add-mul}
use Rattle.std.proofs.lemmas.Bool.{eqb-true, eqb-false, ne_eqb}
use Rattle.std.proofs.lemmas.Int.Digits.{digits_value-lt}
use Rattle.std.proofs.lemmas.Str.Parse.{digit_from_value}
use Rattle.std.proofs.lemmas.Nat.{pow-add, same_from_place}
use Rattle.std.proofs.lemmas.Str.{digit_value_digit}
use Rattle.std.proofs.lemmas.List.{append_assoc, reverse-append, reverse-reverse, nil_from_length, replicate-append-replicate, length-append, length-replicate}
use Rattle.rapidhash.specs.declared.decimal.Decimal.{Decimal}
use Rattle.rapidhash.specs.Decimal.{HasDigits, IsShortest, SameNumber, SameShape, decimal_text, is_negative, part_text, short_part, short_whole, sign_text, skip_zeros, whole_text}

abbrev pub zeros : ℕ → List ℕ
zeros k = replicate k 48

-- ---- the number that digits write

length-zeros : (k : ℕ) → length (zeros k) ≡ k
length-zeros k = length-replicate {A = ℕ} k 48

after-append : (n : ℕ) (a b : List ℕ) → digits_value_after 10 n (a ++ b) ≡ digits_value_after 10 (digits_value_after 10 n a) b
after-append n [] b = refl
after-append n (d ∷ a) b = after-append (n * 10 + digit_value d) a b

after-weighs : (n : ℕ) (a : List ℕ) → digits_value_after 10 n a ≡ n * 10 ^ length a + digits_value 10 a
after-weighs n [] = omega (arith, ap (λ x. n * x) (pow-zero 10))
after-weighs n (d ∷ a) =
    let p = 10 ^ length a in
    omega (arith, after-weighs (n * 10 + digit_value d) a, after-weighs (0 * 10 + digit_value d) a, add-mul (n * 10) (digit_value d) p, add-mul (0 * 10) (digit_value d) p, mul_assoc n 10 p, ap (λ x. n * x) (pow-succ' 10 (length a)))

value-append : (a b : List ℕ) → digits_value 10 (a ++ b) ≡ digits_value 10 a * 10 ^ length b + digits_value 10 b
value-append a b = after-append 0 a b ∙ after-weighs (digits_value 10 a) b

value-zeros : (k : ℕ) → digits_value 10 (zeros k) ≡ 0
value-zeros zero = refl
value-zeros (suc k) = value-zeros k

-- zeros behind digits multiply, and zeros before them do nothing
value-push : (a : List ℕ) (k : ℕ) → digits_value 10 (a ++ zeros k) ≡ digits_value 10 a * 10 ^ k
value-push a k = omega (arith, value-append a (zeros k), value-zeros k, ap (λ n. digits_value 10 a * 10 ^ n) (length-zeros k))

value-lead : (k : ℕ) (a : List ℕ) → digits_value 10 (zeros k ++ a) ≡ digits_value 10 a
value-lead zero a = refl
value-lead (suc k) a = value-lead k a

digits-zeros : (k : ℕ) → AllDigits 10 (zeros k)
digits-zeros zero = tt
digits-zeros (suc k) = (omega arith, digits-zeros k)

digits-append : (a b : List ℕ) → AllDigits 10 a → AllDigits 10 b → AllDigits 10 (a ++ b)
digits-append [] b ha hb = hb
digits-append (d ∷ a) b ha hb = (ha.0, digits-append a b ha.1 hb)

-- a digit is told by its value
digit-same : (c d : ℕ) → digit_value c < 10 → digit_value d < 10 → digit_value c ≡ digit_value d → c ≡ d
digit-same c d hc hd e = omega (arith, digit_value_digit c (digit_from_value c hc), digit_value_digit d (digit_from_value d hd), e)

-- as many digits with one value are the same
digits-same : (a b : List ℕ) → AllDigits 10 a → AllDigits 10 b → length a ≡ length b → digits_value 10 a ≡ digits_value 10 b → a ≡ b
digits-same [] [] ha hb l e = refl
digits-same [] (d ∷ b) ha hb l e = absurd (cc l)
digits-same (c ∷ a) [] ha hb l e = absurd (cc l)
digits-same (c ∷ a) (d ∷ b) ha hb l e =
    let m : length a ≡ length b = cc l in
    let q : 10 ^ length b ≡ 10 ^ length a = ap (λ n. 10 ^ n) (sym m) in
    let parts = same_from_place (digit_value c) (digits_value 10 a) (digit_value d) (digits_value 10 b) (10 ^ length a) (digits_value-lt 10 a ha.1) (omega (arith, digits_value-lt 10 b hb.1, q))
    (omega (arith, after-weighs (0 * 10 + digit_value c) a, after-weighs (0 * 10 + digit_value d) b, ap (λ x. digit_value d * x) q, e)) in
    ap₂ (λ x xs. x ∷ xs) (digit-same c d ha.0 hb.0 parts.0) (digits-same a b ha.1 hb.1 m parts.1)

-- ---- the digits without zeros before them

skip-lead : (k : ℕ) (a : List ℕ) → skip_zeros (zeros k ++ a) ≡ skip_zeros a
skip-lead zero a = refl
skip-lead (suc k) a = skip-lead k a

skip-same : (a b : List ℕ) → AllDigits 10 a → AllDigits 10 b → digits_value 10 a ≡ digits_value 10 b → skip_zeros a ≡ skip_zeros b
skip-same a b ha hb e =
    let left = zeros (length b) ++ a in
    let right = zeros (length a) ++ b in
    let l : length left ≡ length right = omega (arith, length-append (zeros (length b)) a, length-append (zeros (length a)) b, length-zeros (length b), length-zeros (length a)) in
    sym (skip-lead (length b) a)
    ∙ ap skip_zeros (digits-same left right (digits-append _ _ (digits-zeros (length b)) ha) (digits-append _ _ (digits-zeros (length a)) hb) l (value-lead (length b) a ∙ e ∙ sym (value-lead (length a) b)))
    ∙ skip-lead (length a) b

-- how many zeros were before them
pub record Leads (a : List ℕ) : Type 0 where
  pub count : ℕ
  pub split : a ≡ zeros count ++ skip_zeros a

leads-by : (t : Bool) (d : ℕ) (a : List ℕ) → (t ≡ true → d ≡ 48) → Leads a → (count : ℕ) × (d ∷ a ≡ zeros count ++ cond t (skip_zeros a) (d ∷ a))
leads-by true d a e l = (suc l.count, ap₂ (λ x xs. x ∷ xs) (e refl) l.split)
leads-by false d a e l = (0, refl)

leads : (a : List ℕ) → Leads a
leads [] = record { count = 0; split = refl }
leads (d ∷ a) = let found = leads-by (eqb d 48) d a (eqb-true d 48) (leads a) in record { count = found.0; split = found.1 }

-- zeros before and behind digits are the same in reverse
reverse-zeros : (k : ℕ) → reverse (zeros k) ≡ zeros k
reverse-zeros zero = refl
reverse-zeros (suc k) =
    let next : k + 1 ≡ suc k = omega arith in
    reverse-append (48 ∷ []) (zeros k) ∙ ap (λ z. z ++ 48 ∷ []) (reverse-zeros k) ∙ replicate-append-replicate k 1 48 ∙ ap zeros next

-- ---- numbers by their digits before and behind the point

abbrev pub short : List ℕ → List ℕ
short p = reverse (skip_zeros (reverse p))

-- how many zeros were behind them
pub record Trails (p : List ℕ) : Type 0 where
  pub count : ℕ
  pub split : p ≡ short p ++ zeros count

trails : (p : List ℕ) → Trails p
trails p =
    let l = leads (reverse p) in
    record {
      count = l.count;
      split = sym (reverse-reverse p) ∙ ap reverse l.split ∙ reverse-append (zeros l.count) (skip_zeros (reverse p)) ∙ ap (λ z. short p ++ z) (reverse-zeros l.count);
    }

short-push : (p : List ℕ) (k : ℕ) → short (p ++ zeros k) ≡ short p
short-push p k = ap (λ z. reverse (skip_zeros z)) (reverse-append p (zeros k) ∙ ap (λ z. z ++ reverse p) (reverse-zeros k)) ∙ ap reverse (skip-lead k (reverse p))

-- equal numbers have the same shortest digits
pub record SameDigits (w p v q : List ℕ) : Type 0 where
  pub whole : skip_zeros w ≡ skip_zeros v
  pub part : short p ≡ short q

pub digits-of-same : (w p v q : List ℕ) → AllDigits 10 w → AllDigits 10 p → AllDigits 10 v → AllDigits 10 q
    → digits_value 10 (w ++ p) * 10 ^ length q ≡ digits_value 10 (v ++ q) * 10 ^ length p → SameDigits w p v q
digits-of-same w p v q hw hp hv hq e =
    let left = p ++ zeros (length q) in
    let right = q ++ zeros (length p) in
    let long : length left ≡ length right = omega (arith, length-append p (zeros (length q)), length-append q (zeros (length p)), length-zeros (length q), length-zeros (length p)) in
    let h_left : AllDigits 10 left = digits-append p _ hp (digits-zeros (length q)) in
    let h_right : AllDigits 10 right = digits-append q _ hq (digits-zeros (length p)) in
    let whole_left : digits_value 10 (w ++ left) ≡ digits_value 10 (w ++ p) * 10 ^ length q = ap (digits_value 10) (sym (append_assoc w p (zeros (length q)))) ∙ value-push (w ++ p) (length q) in
    let whole_right : digits_value 10 (v ++ right) ≡ digits_value 10 (v ++ q) * 10 ^ length p = ap (digits_value 10) (sym (append_assoc v q (zeros (length p)))) ∙ value-push (v ++ q) (length p) in
    let size : 10 ^ length right ≡ 10 ^ length left = ap (λ n. 10 ^ n) (sym long) in
    let parts = same_from_place (digits_value 10 w) (digits_value 10 left) (digits_value 10 v) (digits_value 10 right) (10 ^ length left)
    (digits_value-lt 10 left h_left) (omega (arith, digits_value-lt 10 right h_right, size))
    (sym (value-append w left) ∙ whole_left ∙ e ∙ sym whole_right ∙ value-append v right ∙ ap (λ n. digits_value 10 v * n + digits_value 10 right) size) in
    record {
      whole = skip-same w v hw hv parts.0;
      part = sym (short-push p (length q)) ∙ ap short (digits-same left right h_left h_right long parts.1) ∙ short-push q (length p);
    }

-- the number of the shortest digits, in units of the last one
value-skip : (w s : List ℕ) → digits_value 10 (skip_zeros w ++ s) ≡ digits_value 10 (w ++ s)
value-skip w s =
    let l = leads w in
    sym (ap (λ z. digits_value 10 (z ++ s)) l.split ∙ ap (digits_value 10) (append_assoc (zeros l.count) (skip_zeros w) s) ∙ value-lead l.count (skip_zeros w ++ s))

value-short : (w p : List ℕ) → digits_value 10 (w ++ p) ≡ digits_value 10 (skip_zeros w ++ short p) * 10 ^ (trails p).count
value-short w p =
    let t = trails p in
    ap (λ z. digits_value 10 (w ++ z)) t.split ∙ ap (digits_value 10) (sym (append_assoc w (short p) (zeros t.count))) ∙ value-push (w ++ short p) t.count
    ∙ ap (λ n. n * 10 ^ t.count) (sym (value-skip w (short p)))

length-short : (p : List ℕ) → length p ≡ length (short p) + (trails p).count
length-short p = let t = trails p in ap length t.split ∙ length-append (short p) (zeros t.count) ∙ ap (λ n. length (short p) + n) (length-zeros t.count)

-- and numbers with the same shortest digits are equal
pub same-of-digits : (w p v q : List ℕ) → SameDigits w p v q → digits_value 10 (w ++ p) * 10 ^ length q ≡ digits_value 10 (v ++ q) * 10 ^ length p
same-of-digits w p v q s =
    let i = (trails p).count in
    let j = (trails q).count in
    let n = digits_value 10 (skip_zeros w ++ short p) in
    let m = digits_value 10 (skip_zeros v ++ short q) in
    let same : n ≡ m = ap₂ (λ a b. digits_value 10 (a ++ b)) s.whole s.part in
    let ends : i + length q ≡ j + length p = omega (arith, length-short p, length-short q, ap length s.part) in
    ap (λ x. x * 10 ^ length q) (value-short w p) ∙ mul_assoc n (10 ^ i) (10 ^ length q) ∙ ap (λ x. n * x) (sym (pow-add 10 i (length q)))
    ∙ ap₂ (λ x y. x * 10 ^ y) same ends
    ∙ ap (λ x. m * x) (pow-add 10 j (length p)) ∙ sym (mul_assoc m (10 ^ j) (10 ^ length p)) ∙ sym (ap (λ x. x * 10 ^ length p) (value-short v q))

-- ---- the sign

zero-of-none : (w p : List ℕ) → skip_zeros w ≡ [] → short p ≡ [] → digits_value 10 (w ++ p) ≡ 0
zero-of-none w p none_w none_p = omega (arith, same-of-digits w p [] [] (record { whole = none_w; part = none_p }), pow-zero 10, ap (λ n. digits_value 10 (w ++ p) * n) (pow-zero 10))

none-of-zero : (w p : List ℕ) → AllDigits 10 w → AllDigits 10 p → digits_value 10 (w ++ p) ≡ 0 → SameDigits w p [] []
none-of-zero w p hw hp e = digits-of-same w p [] [] hw hp tt tt (omega (arith, e, ap (λ n. n * 10 ^ 0) e))

pub sign_of_none : (n : Bool) (w p : List ℕ) → length (skip_zeros w) ≡ 0 → length (short p) ≡ 0 → (n && not (eqb (digits_value 10 (w ++ p)) 0)) ≡ false
sign_of_none true w p none_w none_p = ap (λ x. not (eqb x 0)) (zero-of-none w p (nil_from_length _ none_w) (nil_from_length _ none_p))
sign_of_none false w p none_w none_p = refl

pub sign_of_some : (n : Bool) (w p : List ℕ) → AllDigits 10 w → AllDigits 10 p → 0 < length (skip_zeros w) + length (short p) → (n && not (eqb (digits_value 10 (w ++ p)) 0)) ≡ n
sign_of_some true w p hw hp some = ap not (ne_eqb _ 0 (λ e. let s = none-of-zero w p hw hp e in omega (arith, some, ap length s.whole, ap length s.part)))
sign_of_some false w p hw hp some = refl

pub ruleset signs = (sign_of_none, sign_of_some)

-- ---- the law

-- equal numbers have the same sign and the same shortest digits
pub numbers-same : (x y : Decimal) → HasDigits x → HasDigits y → SameNumber x y → SameDigits x.whole.now x.part.now y.whole.now y.part.now
numbers-same x y hx hy s = digits-of-same x.whole.now x.part.now y.whole.now y.part.now hx.whole hx.part hy.whole hy.part s.size

-- ---- the text

-- a digit is neither a minus nor a point
above-point : (d : ℕ) → digit_value d < 10 → 46 < d
above-point d h = let range = digit_from_value d h in omega (arith, range)

-- without the zeros before them, digits are digits, and do not begin with 0
skip-digits-by : (t : Bool) (d : ℕ) (a : List ℕ) → AllDigits 10 (d ∷ a) → AllDigits 10 (skip_zeros a) → AllDigits 10 (cond t (skip_zeros a) (d ∷ a))
skip-digits-by true d a h rest = rest
skip-digits-by false d a h rest = h

skip-digits : (a : List ℕ) → AllDigits 10 a → AllDigits 10 (skip_zeros a)
skip-digits [] h = tt
skip-digits (d ∷ a) h = skip-digits-by (eqb d 48) d a h (skip-digits a h.1)

skip-first-by : (t : Bool) (d : ℕ) (a rest : List ℕ) → (t ≡ false → d ≢ 48) → (skip_zeros a ≡ 48 ∷ rest → ⊥) → cond t (skip_zeros a) (d ∷ a) ≡ 48 ∷ rest → ⊥
skip-first-by true d a rest other never e = never e
skip-first-by false d a rest other never e = other refl (cc e)

skip-first : (a rest : List ℕ) → skip_zeros a ≡ 48 ∷ rest → ⊥
skip-first [] rest e = absurd (cc e)
skip-first (d ∷ a) rest e = skip-first-by (eqb d 48) d a rest (eqb-false d 48) (skip-first a rest) e

-- digits before the first point
until-point : (a b p q : List ℕ) → AllDigits 10 a → AllDigits 10 b → a ++ part_text p ≡ b ++ part_text q → (a ≡ b) × (p ≡ q)
until-point [] [] [] [] ha hb e = (refl, refl)
until-point [] [] [] (d ∷ q) ha hb e = absurd (cc e)
until-point [] [] (c ∷ p) [] ha hb e = absurd (cc e)
until-point [] [] (c ∷ p) (d ∷ q) ha hb e = (refl, cc e)
until-point [] (d ∷ b) [] q ha hb e = absurd (cc e)
until-point [] (d ∷ b) (c ∷ p) q ha hb e = let point : 46 ≡ d = cc e in absurd (omega (arith, point, above-point d hb.0))
until-point (c ∷ a) [] p [] ha hb e = absurd (cc e)
until-point (c ∷ a) [] p (d ∷ q) ha hb e = let point : c ≡ 46 = cc e in absurd (omega (arith, point, above-point c ha.0))
until-point (c ∷ a) (d ∷ b) p q ha hb e =
    let first : c ≡ d = cc e in
    let more = until-point a b p q ha.1 hb.1 (cc e) in
    (ap₂ (λ x xs. x ∷ xs) first more.0, more.1)

digits-whole : (w : List ℕ) → AllDigits 10 w → AllDigits 10 (whole_text w)
digits-whole [] h = (omega arith, tt)
digits-whole (d ∷ w) h = h

-- "0" stands for no digit alone
whole-same : (w v : List ℕ) → ((rest : List ℕ) → w ≡ 48 ∷ rest → ⊥) → ((rest : List ℕ) → v ≡ 48 ∷ rest → ⊥) → whole_text w ≡ whole_text v → w ≡ v
whole-same [] [] hw hv e = refl
whole-same [] (d ∷ v) hw hv e = absurd (hv v (sym e ∙ ap (λ x. 48 ∷ x) (cc e)))
whole-same (c ∷ w) [] hw hv e = absurd (hw w (e ∙ ap (λ x. 48 ∷ x) (cc e)))
whole-same (c ∷ w) (d ∷ v) hw hv e = e

-- a minus is told from a digit
sign-same : (m n : Bool) (a b u v : List ℕ) → AllDigits 10 a → AllDigits 10 b → 0 < length a → 0 < length b
    → sign_text m ++ (a ++ u) ≡ sign_text n ++ (b ++ v) → (m ≡ n) × (a ++ u ≡ b ++ v)
sign-same true true a b u v ha hb la lb e = (refl, cc e)
sign-same false false a b u v ha hb la lb e = (refl, e)
sign-same true false a [] u v ha hb la lb e = absurd (omega (arith, lb))
sign-same true false a (d ∷ b) u v ha hb la lb e = let minus : 45 ≡ d = cc e in absurd (omega (arith, minus, above-point d hb.0))
sign-same false true [] b u v ha hb la lb e = absurd (omega (arith, la))
sign-same false true (c ∷ a) b u v ha hb la lb e = let minus : c ≡ 45 = cc e in absurd (omega (arith, minus, above-point c ha.0))

long-whole : (w : List ℕ) → 0 < length (whole_text w)
long-whole [] = omega arith
long-whole (d ∷ w) = omega arith

pub record Agrees (x y : Decimal) : Type 0 where
  pub negative : is_negative x ≡ is_negative y
  pub digits : SameDigits x.whole.now x.part.now y.whole.now y.part.now

pub of_texts : (x y : Decimal) → HasDigits x → HasDigits y → decimal_text x ≡ decimal_text y → Agrees x y
of_texts x y hx hy e =
    let hw = digits-whole (short_whole x) (skip-digits x.whole.now hx.whole) in
    let hv = digits-whole (short_whole y) (skip-digits y.whole.now hy.whole) in
    let signed = sign-same (is_negative x) (is_negative y) (whole_text (short_whole x)) (whole_text (short_whole y)) _ _ hw hv (long-whole (short_whole x)) (long-whole (short_whole y)) e in
    let parts = until-point (whole_text (short_whole x)) (whole_text (short_whole y)) (short_part x) (short_part y) hw hv signed.1 in
    record { negative = signed.0; digits = record { whole = whole-same (short_whole x) (short_whole y) (skip-first x.whole.now) (skip-first y.whole.now) parts.0; part = parts.1 } }

pub of_numbers : (x y : Decimal) → HasDigits x → HasDigits y → SameNumber x y → Agrees x y
of_numbers x y hx hy s = record { negative = s.sign; digits = numbers-same x y hx hy s }

pub to_numbers : (x y : Decimal) → Agrees x y → SameNumber x y
to_numbers x y a = record { size = same-of-digits x.whole.now x.part.now y.whole.now y.part.now a.digits; sign = a.negative }

pub to_texts : (x y : Decimal) → Agrees x y → decimal_text x ≡ decimal_text y
to_texts x y a = ap₂ (λ n body. sign_text n ++ body) a.negative (ap₂ (λ w p. whole_text w ++ part_text p) a.digits.whole a.digits.part)

pub agrees : (x y sx sy : Decimal) → IsShortest x sx → IsShortest y sy → SameShape sx sy → Agrees x y
agrees x y sx sy hx hy s = record {
  negative = sym hx.negative ∙ s.negative ∙ hy.negative;
  digits = record { whole = sym hx.whole ∙ s.whole ∙ hy.whole; part = sym hx.part ∙ s.part ∙ hy.part };
}

pub same-shape : (x y sx sy : Decimal) → IsShortest x sx → IsShortest y sy → Agrees x y → SameShape sx sy
same-shape x y sx sy hx hy a = record {
  negative = hx.negative ∙ a.negative ∙ sym hy.negative;
  whole = hx.whole ∙ a.digits.whole ∙ sym hy.whole;
  part = hx.part ∙ a.digits.part ∙ sym hy.part;
}
