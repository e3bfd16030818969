-- What the laws of proofs/ShapeLaws.antt are stated with.
use Rattle.std.specs.Prelude.{ℕ, ◌*◌, ◌<◌, ◌≤◌, ◌≡◌, length, ℤ, pos, negsuc}
use mathlib.Core.List.{List, [], ◌∷◌}
use Rattle.automaton.specs.Shape.{product, Bound}

-- ---- what it is to be a place of a grid

-- Coordinates, one for each size and below it.
abbrev pub Inside : List ℕ → List ℕ → Type 0
Inside [] [] = Unit {0}
Inside [] (i ∷ is) = ⊥
Inside (n ∷ ns) [] = ⊥
Inside (n ∷ ns) (i ∷ is) = (i < n) × Inside ns is

-- No size is 0.
abbrev pub Positive : List ℕ → Type 0
Positive [] = Unit {0}
Positive (n ∷ ns) = (0 < n) × Positive ns

-- The sizes of a grid, or of a band's rows with its border rows: n of them, with at most so many cells, and so many entries for the fields.
pub record Shaped (n fields most : ℕ) (sizes : List ℕ) (lent : ℕ) : Type 0 where
  pub dims : length sizes ≡ n
  pub positive : Positive sizes
  pub cells : product sizes ≤ most
  pub entries : product sizes * fields ≡ lent

-- Two lists have one length: as many relative indices, or bounds, as dimensions.
abbrev pub Alike : {A B : Type 0} → List A → List B → Type 0
Alike [] [] = Unit {0}
Alike [] (b ∷ bs) = ⊥
Alike (a ∷ as') [] = ⊥
Alike (a ∷ as') (b ∷ bs) = Alike as' bs

-- ---- the box

-- An index within a bound.
abbrev pub Within : Bound → ℤ → Type 0
Within b (pos d) = d ≤ b.ahead
Within b (negsuc d) = d < b.back

-- A relative index within the bounds, in every dimension.
abbrev pub AllWithin : List Bound → List ℤ → Type 0
AllWithin [] [] = Unit {0}
AllWithin [] (d ∷ ds) = ⊥
AllWithin (b ∷ bs) [] = ⊥
AllWithin (b ∷ bs) (d ∷ ds) = Within b d × AllWithin bs ds

-- ---- the own cell

-- The relative index of the own cell.
abbrev pub zeros : {A : Type 0} → List A → List ℤ
zeros [] = []
zeros (a ∷ as') = pos 0 ∷ zeros as'
