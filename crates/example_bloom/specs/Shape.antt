-- The size of a filter.
use Rattle.std.specs.Prelude.{◌≡◌, ℕ, ◌<◌, ◌≤◌, ◌-◌, ◌*◌, ◌/◌, ◌^◌, max, ◌⊎◌}
use Rattle.std.specs.Int.{div_ceil}
use Rattle.example_bloom.specs.declared.shape.Shape.{Shape}
use Rattle.example_bloom.specs.declared.shape.ShapeError.{ShapeError}

-- the number of bits for this number of keys and of marks: about 1.4427 per mark, so that half of the bits are set in the end
abbrev pub bits_of : ℕ → ℕ → ℕ
bits_of keys marks = keys * div_ceil (marks * 14427) 10000

-- with half of the bits set, at most one in `one_in` other keys has all marks, but more would with one mark fewer
pub record AreFewest (one_in marks : ℕ) : Type 0 where
  pub enough : one_in ≤ 2 ^ marks
  pub fewest : 2 ^ (marks - 1) < one_in

-- the shape is for this number of keys and this rate
pub record Serves (keys one_in : ℕ) (shape : Shape) : Type 0 where
  pub marks : AreFewest one_in shape.marks
  pub words : shape.last_word ≡ (max 1 (bits_of keys shape.marks) - 1) / 64
  pub fits : bits_of keys shape.marks ≤ 4294967296

-- there is no shape: the filter would find every key, or there are too many keys
abbrev pub Refuses : ℕ → ℕ → ShapeError → Type 0
Refuses keys one_in error =
    ((error ≡ ShapeError.Rate) × (one_in < 2))
    ⊎ ((error ≡ ShapeError.TooManyKeys) × (marks : ℕ) × AreFewest one_in marks × (4294967296 < bits_of keys marks))
