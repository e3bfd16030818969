-- What the functions over marked cells promise: the next marked cell, its coordinates, and the exchange of fields.
use Rattle.std.specs.Prelude.{◌≡◌, true, false, cond, List, ℕ, ◌*◌, ◌<◌, ◌≤◌, length, get_or, ℤ, pos}
use Rattle.value.specs.Limits.{most_cells, most_fields}
use Rattle.automaton.specs.Step.{marked}
use Rattle.automaton.specs.Shape.{product, coordinates}
use Rattle.automaton.specs.Promises.ShapeLaws.{Positive}
use Rattle.automaton.specs.Grid.{cell_of}

-- ---- the next marked cell

-- r is the first marked cell from a cell on, or the number of cells
pub record NextMarked (marks : List ℕ) (from r : ℕ) : Type 0 where
  pub onward : from ≤ r
  pub within : r ≤ length marks
  pub skipped : (c : ℕ) → from ≤ c → c < r → marked marks c ≡ false
  pub found : r < length marks → marked marks r ≡ true

-- r is past a cell, and the cells between them are marked
pub record MarkedUpTo (marks : List ℕ) (from r : ℕ) : Type 0 where
  pub onward : from < r
  pub within : r ≤ length marks
  pub between : (c : ℕ) → from < c → c < r → marked marks c ≡ true

-- ---- a cell's coordinates

-- what is asked for coordinates, with room for so many
pub record PointFits (sizes : List ℕ) (room : ℕ) : Type 0 where
  pub dims : room ≡ length sizes
  pub positive : Positive sizes

-- where there is such a cell, these are its coordinates
abbrev pub PointSet : List ℕ → ℕ → List ℕ → Type 0
PointSet sizes cell point = cell < product sizes → point ≡ coordinates sizes cell

-- what is asked for going on from a cell's coordinates
pub record Moving (sizes : List ℕ) (cell after : ℕ) (point : List ℕ) : Type 0 where
  pub placing : PointFits sizes (length point)
  pub inside : cell < product sizes
  pub own : point ≡ coordinates sizes cell
  pub onward : cell < after
  pub small : after < 4294967296

-- ---- the exchange

-- what is asked of the numbers for an exchange of a part
pub record Swapping (a b from end : ℕ) : Type 0 where
  pub alike : b ≡ a
  pub order : from ≤ end
  pub within : end ≤ a

-- the part from `from` up to `end` is that of b; the rest of a stays
pub record Swapped (a b a' : List ℤ) (from end : ℕ) : Type 0 where
  pub size : length a' ≡ length a
  pub inside : (e : ℕ) → from ≤ e → e < end → get_or a' e (pos 0) ≡ get_or b e (pos 0)
  pub below : (e : ℕ) → e < from → get_or a' e (pos 0) ≡ get_or a e (pos 0)
  pub above : (e : ℕ) → end ≤ e → get_or a' e (pos 0) ≡ get_or a e (pos 0)

-- what is asked of the numbers for an exchange of the marked cells
pub record Exchanging (a b marks fields : ℕ) : Type 0 where
  pub alike : b ≡ a
  pub entries : marks * fields ≡ a
  pub few : marks ≤ most_cells
  pub most : fields ≤ most_fields

-- the marked cells have the fields of b; the others stay
pub record Exchanged (fields : ℕ) (marks : List ℕ) (a b a' : List ℤ) : Type 0 where
  pub size : length a' ≡ length a
  pub cells : (c : ℕ) → c < length marks → cell_of fields a' c ≡ cond (marked marks c) (cell_of fields b c) (cell_of fields a c)
