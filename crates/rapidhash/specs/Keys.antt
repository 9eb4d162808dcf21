-- The writes of a key of bytes to a hasher.
use Rattle.std.specs.Prelude.{ℕ, List, [], ◌∷◌, nat_eq}
use Rattle.std.specs.Cmp.Lexicographic.{pointwise}
use Rattle.std.specs.Hash.{HashWrites, Alike, same_Alike}
use Rattle.std.proofs.lemmas.Slice.Eq.{bytes_eq-Decides}

-- the bytes in a single write
abbrev pub one_write : List ℕ → HashWrites
one_write bytes = bytes ∷ []

-- equal bytes are written in the same way: the law of `Hash`
pub one_write-Alike : Alike (pointwise nat_eq) one_write
one_write-Alike = same_Alike one_write bytes_eq-Decides
