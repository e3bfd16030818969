-- What the functions that count promise, in the order of the code.
use Rattle.std.specs.Prelude.{◌≡◌, true, false, List, ℕ, ◌+◌, ◌*◌, ◌≤◌, ◌<◌, length, get_or, drop, ℤ, pos}
use Rattle.value.specs.Limits.{most_cells}
use Rattle.value.specs.Number.{eq_z}
use Rattle.automaton.specs.Step.{marked}
use Rattle.automaton.specs.Shape.{product}
use Rattle.automaton.specs.Promises.ShapeLaws.{Positive}
use Rattle.automaton.specs.Grid.{cell_of}
use Rattle.automaton.specs.Rows.{row_counts}
use Rattle.automaton.proofs.Theorems.RowLaws.{bit}

-- how many cells a row has
abbrev pub row_size : List ℕ → ℕ
row_size sizes = product (drop 1 sizes)

-- 1 for an entry that is 0, else 0
abbrev pub zero_bit : List ℤ → ℕ → ℕ
zero_bit g at = bit (eq_z (get_or g at (pos 0)) (pos 0))

-- what `row_cells` asks
pub record Divisible (sizes : List ℕ) (cells : ℕ) : Type 0 where
  pub some_dims : 0 < length sizes
  pub positive : Positive sizes
  pub cells_are : cells ≡ product sizes

-- what `count_row` asks: the row lies in the grid
pub record RowCountable (entries from cells fields field : ℕ) : Type 0 where
  pub within : (from + cells) * fields ≤ entries
  pub some_cells : 0 < cells
  pub few : cells ≤ most_cells
  pub a_field : field < fields

-- what `fill_counts` asks: a grid of these sizes, a field of it, and as many counts as rows
pub record Countable (sizes : List ℕ) (fields field entries rows : ℕ) : Type 0 where
  pub some_dims : 0 < length sizes
  pub positive : Positive sizes
  pub few : product sizes ≤ most_cells
  pub entries_are : product sizes * fields ≡ entries
  pub a_field : field < fields
  pub rows_are : rows ≡ get_or sizes 0 0

-- what `count_cell` asks: a count that has what is taken off, and can grow by one
pub record CellCountable (old grid : List ℤ) (at row : ℕ) (counts : List ℕ) : Type 0 where
  pub alike : length old ≡ length grid
  pub an_entry : at < length grid
  pub a_row : row < length counts
  pub few : get_or counts row 0 ≤ most_cells
  pub has : zero_bit old at ≤ get_or counts row 0

-- what `row_from` asks
pub record NotBefore (row cells cell : ℕ) : Type 0 where
  pub some_cells : 0 < cells
  pub few : cells ≤ most_cells
  pub small : cell ≤ most_cells
  pub onward : row * cells ≤ cell

-- what `move_counts` asks: the counts are those of the grid before the step; `old` has the fields that the marked cells had there,
-- and the others keep theirs
pub record Movable (marks sizes : List ℕ) (fields field : ℕ) (old grid : List ℤ) (counts : List ℕ) : Type 0 where
  pub countable : Countable sizes fields field (length grid) (length counts)
  pub old_fits : length old ≡ length grid
  pub marks_fit : length marks ≡ product sizes
  pub before : List ℤ
  pub had : (c : ℕ) → c < product sizes → marked marks c ≡ true → cell_of fields old c ≡ cell_of fields before c
  pub kept : (c : ℕ) → c < product sizes → marked marks c ≡ false → cell_of fields grid c ≡ cell_of fields before c
  pub counted : counts ≡ row_counts sizes fields field before
