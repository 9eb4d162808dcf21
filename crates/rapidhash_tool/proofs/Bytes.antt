-- The effect of a write or a read of a part on the known bytes.
use Rattle.std.proofs.Common.{◌≡◌, ℕ, ◌+◌, ◌-◌, List, take, drop, length, sym, subst, Option, arith, length-drop}
use Rattle.std.proofs.lemmas.List.{take_all}
use Rattle.std.proofs.Math.Seq.{take-add}
use Rattle.std.proofs.KnownBytes.{Appends-trans}
use Rattle.std.specs.Io.KnownBytes.{Appends}

-- the value of `&bytes[i..]`
pub rest_of : (bytes : List ℕ) (i : ℕ) → take (length bytes - i) (drop i bytes) ≡ drop i bytes
rest_of bytes i = take_all _ _ (omega (arith, length-drop i bytes))

-- after the first i bytes, the next n of the rest
pub Appends_more : (a b c : Option (List ℕ)) (bytes : List ℕ) (i n : ℕ) → Appends a b (take i bytes) → Appends b c (take n (take (length bytes - i) (drop i bytes))) → Appends a c (take (i + n) bytes)
Appends_more a b c bytes i n p q = subst (Appends a c) (sym (take-add i n bytes)) (Appends-trans a b c _ _ p (subst (λ rest. Appends b c (take n rest)) (rest_of bytes i) q))
