-- The items that a hasher absorbs, and their integers packed into blocks of 128 bits, at offsets that depend on the widths alone.
use Rattle.std.specs.Prelude.{ℕ, ◌≡◌, ◌+◌, ◌*◌, ◌^◌, ◌<◌, ◌⊎◌, if◌then◌else◌, nat_le, nat_eq, List, [], ◌∷◌, All}
use Rattle.std.proofs.Common.{lit≤, lit<}
use Rattle.rapidhash.specs.declared.inner.sponge.Sponge.{Sponge}

-- the sponge without pending integers
abbrev pub empty_sponge : Sponge
empty_sponge = record { bits = 0; width = 0; small = lit≤ tt; fits = lit< tt }

-- the item that a hasher absorbs: bytes, a number of 128 bits, or an integer with its width in bits and its value
pub data Item : Type 0 where
  Bytes : List ℕ → Item
  Wide : ℕ → Item
  Num : ℕ → ℕ → Item

-- the widths of integers
abbrev pub IsWidth : ℕ → Type 0
IsWidth width = (width ≡ 8) ⊎ (width ≡ 16) ⊎ (width ≡ 32) ⊎ (width ≡ 64)

-- an item whose numbers are in range
abbrev pub IsItem : Item → Type 0
IsItem (Bytes bytes) = All (λ byte. byte < 2 ^ 8) bytes
IsItem (Wide value) = value < 2 ^ 128
IsItem (Num width value) = IsWidth width × (value < 2 ^ width)

-- the block and the bit of an integer: after the previous integer, which ends at `end`, if the block has room; otherwise bit 0 of the next block
abbrev pub place_of : ℕ × ℕ → ℕ → ℕ × ℕ
place_of end width = if nat_le (end.1 + width) 128 then end else (end.0 + 1, 0)

-- the block and the bit at the end of the integers after a further item
abbrev pub end_after : ℕ × ℕ → Item → ℕ × ℕ
end_after end (Bytes bytes) = end
end_after end (Wide value) = end
end_after end (Num width value) = ((place_of end width).0, (place_of end width).1 + width)

-- the same after a list of items
abbrev pub end_from : ℕ × ℕ → List Item → ℕ × ℕ
end_from end [] = end
end_from end (item ∷ items) = end_from (end_after end item) items

-- the block and the bit at the end of the integers of a whole list
abbrev pub end_of : List Item → ℕ × ℕ
end_of items = end_from (0, 0) items

-- the number that an item adds to a block
abbrev pub share : ℕ → ℕ × ℕ → Item → ℕ
share place end (Bytes bytes) = 0
share place end (Wide value) = 0
share place end (Num width value) = if nat_eq (place_of end width).0 place then value * 2 ^ (place_of end width).1 else 0

-- the number that a list of items adds to it
abbrev pub block_from : ℕ → ℕ × ℕ → List Item → ℕ
block_from place end [] = 0
block_from place end (item ∷ items) = share place end item + block_from place (end_after end item) items

-- the number of a block: the sum of its integers, each times 2 to the power of its bit
abbrev pub block : List Item → ℕ → ℕ
block items place = block_from place (0, 0) items
