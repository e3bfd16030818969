-- What a step of the rows of one band promises. The rows that it is lent are a grid of their own.
use Rattle.std.specs.Prelude.{◌≡◌, List, ℕ, ◌+◌, ◌*◌, ◌<◌, ◌≤◌, length, get_or, drop, ℤ}
use Rattle.value.specs.Promises.Buffers.{most_room}
use Rattle.automaton.specs.Step as automaton
use Rattle.automaton.specs.Step.{no_fault, result, first_fault}
use Rattle.automaton.specs.Shape.{product}
use Rattle.automaton.specs.Promises.ShapeLaws.{Shaped}
use Rattle.automaton.specs.Grid.{cell_of}
use Rattle.automaton.specs.Bands.{reached, band_step}
use Rattle.program.specs.Syntax.{Program}
use Rattle.program.specs.declared.Rule.{Rule}
use Rattle.cell_meaning.specs.Evaluation.{evaluate}
use Rattle.cell_meaning.specs.Promises.Leaves.{Leaves}
use Rattle.cell_meaning.specs.Promises.Stands.{Holds}
use Rattle.program.specs.Promises.Fitting.{Sized}
use Rattle.run_step.specs.declared.Step.{Step}
use Rattle.run_step.specs.Promises.Stepping.{fault_in}
use Rattle.run_step.specs.Promises.Turns.{given}

-- ---- cells in rising order

-- what is asked: so many cells from a cell on are in the grid, and there is room for their next fields
pub record CellsReady (leaves words : List ℕ) (rule : Rule) (sizes : List ℕ) (from cells : ℕ) (grid : List ℤ) (lent time count : ℕ) : Type 0 where
  pub rule_fits : Sized (length words) rule
  pub roomed : Shaped rule.dims rule.fields most_room sizes (length grid)
  pub inside : from + cells ≤ product sizes
  pub next_fits : cells * rule.fields ≡ lent
  pub small : time < 2147483648
  pub countable : count + cells ≤ 18446744073709551615
  pub noted : Leaves leaves words sizes rule.tokens rule.fields rule.slots

-- their first fault, counted from the first of them, and how many are evaluated; without a fault their next fields
pub record CellsStepped (words : List ℕ) (rule : Rule) (sizes : List ℕ) (from cells : ℕ) (grid : List ℤ) (time count : ℕ) (r : Step) (next' : List ℤ) : Type 0 where
  pub fault : (p : Program) → Holds words rule p → fault_in r ≡ first_fault (λ i. given p rule.fields sizes grid time (from + i)) cells
  pub count_is : r.count ≡ count + reached cells (fault_in r)
  pub counted : r.count ≤ count + cells
  pub next : fault_in r ≡ no_fault → (p : Program) → Holds words rule p → (i : ℕ) → i < cells
      → given p rule.fields sizes grid time (from + i) ≡ result (cell_of rule.fields next' i)

-- ---- the rows of a band

-- what is asked: `row` is the number of cells of a row; the band's own rows are in the room, behind `before` others, and there is room for their next fields
pub record RowsReady (leaves words : List ℕ) (rule : Rule) (sizes : List ℕ) (row before own : ℕ) (room : List ℤ) (lent time count : ℕ) : Type 0 where
  pub rule_fits : Sized (length words) rule
  pub roomed : Shaped rule.dims rule.fields most_room sizes (length room)
  pub some_dims : 0 < length sizes
  pub row_is : row ≡ product (drop 1 sizes)
  pub inside : before + own ≤ get_or sizes 0 0
  pub next_fits : own * row * rule.fields ≡ lent
  pub small : time < 2147483648
  pub countable : count + own * row ≤ 18446744073709551615
  pub noted : Leaves leaves words sizes rule.tokens rule.fields rule.slots

-- the step of a band by a program, on the rows that it is lent: sizes are those of the room
abbrev pub band_gives : Program → ℕ → List ℕ → (before own : ℕ) → List ℤ → ℕ → automaton.Step (List ℤ)
band_gives p fields sizes before own room time = band_step (drop 1 sizes) fields (evaluate p) (get_or sizes 0 0) before own room time

-- whichever program stands in the table, fault, count and next rows are those of the definition's step of the band
pub record RowsStepped (words : List ℕ) (rule : Rule) (sizes : List ℕ) (before own : ℕ) (room : List ℤ) (time count : ℕ) (r : Step) (next' : List ℤ) : Type 0 where
  pub fault : (p : Program) → Holds words rule p → fault_in r ≡ (band_gives p rule.fields sizes before own room time).fault
  pub count_is : (p : Program) → Holds words rule p → r.count ≡ count + (band_gives p rule.fields sizes before own room time).count
  pub next_is : fault_in r ≡ no_fault → (p : Program) → Holds words rule p → next' ≡ (band_gives p rule.fields sizes before own room time).grid
  pub evaluated : r.count ≡ count + reached (own * product (drop 1 sizes)) (fault_in r)
  pub counted : r.count ≤ count + own * product (drop 1 sizes)
