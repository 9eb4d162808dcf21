-- Bytes that are compared piece by piece.
use Rattle.std.proofs.Common.{◌≡◌, ◌≢◌, ◌≤◌, ◌<◌, ◌+◌, ℕ, Bool, true, false, List, [], ◌++◌, Option, Some, None, length, take, refl, ap, arith, ◌∙◌, sym, length-append, ⊎_elim}
use Rattle.std.specs.Io.KnownBytes.{Consumes, IsAtEnd}
use Rattle.std.proofs.KnownBytes.{Consumes-trans}
use Rattle.std.proofs.lemmas.List.{length-take-le, take-append-le, append_cancel_left}
use Rattle.std.proofs.Math.Seq.{take-length}
use Rattle.std.proofs.lemmas.Bool.{cases_eq, cases_lt, false≢true}
use Rattle.example_dedupe.specs.Bytes.{SameBytes, SharesFront}

-- the front of equal lists is equal where it is equally long
front_of : (p q x' y' : List ℕ) → length p ≡ length q → p ++ x' ≡ q ++ y' → p ≡ q
front_of p q x' y' long same =
    let left : take (length p) (p ++ x') ≡ p = take-append-le (length p) p x' (omega arith) ∙ take-length p in
    let right : take (length p) (q ++ y') ≡ q = take-append-le (length p) q y' (omega arith) ∙ ap (λ (n : ℕ). take n q) long ∙ take-length q in
    sym left ∙ ap (take (length p)) same ∙ right

-- a list of which nothing is left behind a piece is no longer than one that has a longer piece
shorter : (p q x x' y y' : List ℕ) → x ≡ p ++ x' → x' ≡ [] → y ≡ q ++ y' → length p < length q → x ≡ y → ⊥
shorter p q x x' y y' left ends right less same =
    let e : length p + length x' ≡ length q + length y' = sym (length-append p x') ∙ ap length (sym left ∙ same ∙ right) ∙ length-append q y' in
    let none : length x' ≡ 0 = ap length ends in
    omega arith

different : (x x' y y' p q : List ℕ) (size : ℕ) → x ≡ p ++ x' → y ≡ q ++ y' → length p ≤ size → length q ≤ size → (length p < size → x' ≡ []) → (length q < size → y' ≡ []) → p ≢ q → x ≡ y → ⊥
different x x' y y' p q size left right left_in right_in left_end right_end differ same =
    ⊎_elim (λ (long : length p ≡ length q). differ (front_of p q x' y' long (sym left ∙ same ∙ right)))
    (λ (uneven : length p ≡ length q → ⊥). ⊎_elim
    (λ (less : length p < length q). shorter p q x x' y y' left (left_end (omega arith)) right less same)
    (λ (more : length q ≤ length p). shorter q p y y' x x' right (right_end (omega arith)) left (omega arith) (sym same))
    (cases_lt (length p) (length q)))
    (cases_eq (length p) (length q))

-- pieces differ: of readers that end only where a piece is short
pub pieces_differ : (a a' b b' : Option (List ℕ)) (p q : List ℕ) (size : ℕ) → Consumes a a' p → Consumes b b' q → length p ≤ size → length q ≤ size → (length p < size → IsAtEnd a') → (length q < size → IsAtEnd b') → p ≢ q → SameBytes false a b
pieces_differ None a' b b' p q size of_left of_right left_in right_in left_end right_end differ = tt
pieces_differ (Some x) None b b' p q size of_left of_right left_in right_in left_end right_end differ = absurd of_left
pieces_differ (Some x) (Some x') None b' p q size of_left of_right left_in right_in left_end right_end differ = tt
pieces_differ (Some x) (Some x') (Some y) None p q size of_left of_right left_in right_in left_end right_end differ = absurd of_right
pieces_differ (Some x) (Some x') (Some y) (Some y') p q size of_left of_right left_in right_in left_end right_end differ =
    ((λ (wrong : false ≡ true). absurd (false≢true wrong)), (λ (same : x ≡ y). absurd (different x x' y y' p q size of_left of_right left_in right_in left_end right_end differ same)))

-- pieces agree, and are short
pub pieces_end : (a a' b b' : Option (List ℕ)) (p q : List ℕ) → Consumes a a' p → Consumes b b' q → IsAtEnd a' → IsAtEnd b' → p ≡ q → SameBytes true a b
pieces_end None a' b b' p q of_left of_right left_end right_end same = tt
pieces_end (Some x) None b b' p q of_left of_right left_end right_end same = absurd of_left
pieces_end (Some x) (Some x') None b' p q of_left of_right left_end right_end same = tt
pieces_end (Some x) (Some x') (Some y) None p q of_left of_right left_end right_end same = absurd of_right
pieces_end (Some x) (Some x') (Some y) (Some y') p q of_left of_right left_end right_end same =
    let whole : x ≡ y = of_left ∙ ap (λ (l : List ℕ). p ++ l) (left_end ∙ sym right_end) ∙ ap (λ (l : List ℕ). l ++ y') same ∙ sym of_right in
    ((λ (yes : true ≡ true). whole), (λ (equal : x ≡ y). refl))

-- a property behind a common front holds for the whole
pub behind_front : (a a' b b' : Option (List ℕ)) (same : Bool) → SharesFront a a' b b' → SameBytes same a' b' → SameBytes same a b
behind_front None a' b b' same shared rest = tt
behind_front (Some x) None b b' same shared rest = absurd shared.of_left
behind_front (Some x) (Some x') None b' same shared rest = tt
behind_front (Some x) (Some x') (Some y) None same shared rest = absurd shared.of_right
behind_front (Some x) (Some x') (Some y) (Some y') same shared rest = (
  (λ (yes : same ≡ true). shared.of_left ∙ ap (λ (l : List ℕ). shared.front ++ l) (rest.0 yes) ∙ sym shared.of_right),
  (λ (equal : x ≡ y). rest.1 (append_cancel_left shared.front x' y' (sym shared.of_left ∙ equal ∙ shared.of_right))),
)

-- a longer common front
pub longer_front : (a a' a'' b b' b'' : Option (List ℕ)) → SharesFront a a' b b' → SharesFront a' a'' b' b'' → SharesFront a a'' b b''
longer_front a a' a'' b b' b'' first next = record {
  front = first.front ++ next.front;
  of_left = Consumes-trans a a' a'' first.front next.front first.of_left next.of_left;
  of_right = Consumes-trans b b' b'' first.front next.front first.of_right next.of_right;
}

pub no_front : (a b : Option (List ℕ)) → SharesFront a a b b
no_front a b = record { front = []; of_left = kept a; of_right = kept b }
  where
    kept : (o : Option (List ℕ)) → Consumes o o []
    kept None = tt
    kept (Some x) = refl

-- if the filled fronts of the buffers differ, so do the readers
pub read_differ : (a a' b b' : Option (List ℕ)) (left right : List ℕ) (n m : ℕ) → Consumes a a' (take n left) → Consumes b b' (take m right) → n ≤ length left → m ≤ length right → length left ≡ length right → (n < length left → IsAtEnd a') → (m < length right → IsAtEnd b') → take n left ≢ take m right → SameBytes false a b
read_differ a a' b b' left right n m of_left of_right left_in right_in size left_end right_end differ =
    let n_is : length (take n left) ≡ n = length-take-le n left left_in in
    let m_is : length (take m right) ≡ m = length-take-le m right right_in in
    pieces_differ a a' b b' (take n left) (take m right) (length left) of_left of_right (omega arith) (omega arith) (λ (less : length (take n left) < length left). left_end (omega arith)) (λ (less : length (take m right) < length left). right_end (omega arith)) differ

-- where they are equal, and end the readers
pub read_end : (a a' b b' : Option (List ℕ)) (left right : List ℕ) (n m : ℕ) → Consumes a a' (take n left) → Consumes b b' (take m right) → n ≤ length left → m ≤ length right → length left ≡ length right → (n < length left → IsAtEnd a') → (m < length right → IsAtEnd b') → n < length left → take n left ≡ take m right → SameBytes true a b
read_end a a' b b' left right n m of_left of_right left_in right_in size left_end right_end short same =
    let n_is : length (take n left) ≡ n = length-take-le n left left_in in
    let m_is : length (take m right) ≡ m = length-take-le m right right_in in
    let long : length (take n left) ≡ length (take m right) = ap length same in
    pieces_end a a' b b' (take n left) (take m right) of_left of_right (left_end short) (right_end (omega arith)) same
