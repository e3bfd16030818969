-- The rows that a band is lent, copied from a grid.
use Rattle.std.specs.Prelude.{◌≡◌, List, ◌++◌, ℕ, ◌+◌, ◌*◌, ◌<◌, ◌≤◌, length, get_or, take, drop, ℤ}
use Rattle.automaton.specs.Shape.{product}
use Rattle.automaton.specs.Promises.BandSteps.{rows_lent}

-- what `copy_row` asks
pub record RowFits (entries lent from to width : ℕ) : Type 0 where
  pub source : from + width ≤ entries
  pub target : to + width ≤ lent

-- so many entries of a room are those of a grid from a position on; the others stay
abbrev pub copied : List ℤ → List ℤ → (from to width : ℕ) → List ℤ
copied grid room from to width = take to room ++ (take width (drop from grid) ++ drop width (drop to room))

-- what `fill_room` asks: `row` is the number of cells of a row; the border rows before are at most the grid's, and there is room for all rows
pub record Lending (sizes : List ℕ) (row fields entries first before count lent : ℕ) : Type 0 where
  pub some_dims : 0 < length sizes
  pub row_is : row ≡ product (drop 1 sizes)
  pub entries_are : product sizes * fields ≡ entries
  pub a_row : first < get_or sizes 0 0
  pub near : before ≤ get_or sizes 0 0
  pub room_fits : count * row * fields ≤ lent

-- the rows that are lent of a grid of these sizes, at the front of a room, whose rest stays
abbrev pub with_rows : (sizes : List ℕ) (fields first before count : ℕ) → List ℤ → List ℤ → List ℤ
with_rows sizes fields first before count grid room =
    rows_lent (drop 1 sizes) fields (get_or sizes 0 0) count before first grid ++ drop (count * product (drop 1 sizes) * fields) room
