-- A step made of bands of rows.
use Rattle.std.specs.Prelude.{◌≡◌, true, List, ℕ, suc, ◌+◌, ◌-◌, ◌*◌, ◌<◌, ◌≤◌, length, get_or, drop, ℤ}
use Rattle.value.specs.Limits.{most_cells}
use Rattle.value.specs.Promises.Buffers.{most_room}
use Rattle.automaton.specs.Step.{no_fault, result, first_fault, marked}
use Rattle.automaton.specs.Shape.{product, Bound}
use Rattle.automaton.specs.Grid.{cell_of}
use Rattle.automaton.specs.Bands.{reached}
use Rattle.automaton.specs.Promises.ShapeLaws.{Shaped}
use Rattle.program.specs.Syntax.{Program}
use Rattle.program.specs.declared.Rule.{Rule}
use Rattle.cell_meaning.specs.Promises.Leaves.{Leaves}
use Rattle.cell_meaning.specs.Promises.Stands.{Holds}
use Rattle.program.specs.Promises.Fitting.{Sized}
use Rattle.run_meaning.proofs.Theorems.Locality.{Flagged}
use Rattle.band_meaning.specs.Edge.{edge}
use Rattle.band_meaning.specs.Plans.{plan_right}
use Rattle.run_step.specs.declared.Step.{Step}
use Rattle.run_step.specs.Promises.Stepping.{fault_in}
use Rattle.run_step.specs.Promises.Turns.{given}

-- the programs for which a step by bands holds: they stand in the table, and have these border rows
pub record Bordered (words : List ℕ) (rule : Rule) (border : Bound) (p : Program) : Type 0 where
  pub holds : Holds words rule p
  pub flagged : Flagged p
  pub border_is : edge p ≡ border

-- what every band asks: a grid with its scratch; and a room, a grid of its own, as wide as the grid
pub record Grounds (leaves words : List ℕ) (rule : Rule) (sizes room-sizes : List ℕ) (row : ℕ) (border : Bound) (entries scratch lent time : ℕ) : Type 0 where
  pub rule_fits : Sized (length words) rule
  pub shaped : Shaped rule.dims rule.fields most_cells sizes entries
  pub some_dims : 0 < length sizes
  pub row_is : row ≡ product (drop 1 sizes)
  pub near : border.back ≤ get_or sizes 0 0
  pub scratch_fits : scratch ≡ entries
  pub roomed : Shaped rule.dims rule.fields most_room room-sizes lent
  pub room_dims : 0 < length room-sizes
  pub alike : drop 1 room-sizes ≡ drop 1 sizes
  pub small : time < 2147483648
  pub noted : Leaves leaves words room-sizes rule.tokens rule.fields rule.slots

-- ---- one band

-- the band is in the grid, and its rows with bound are in the room
pub record BandFits (sizes room-sizes : List ℕ) (row : ℕ) (border : Bound) (first last count : ℕ) : Type 0 where
  pub order : first ≤ last
  pub inside : last < get_or sizes 0 0
  pub held : border.back + (suc last - first) + border.ahead ≤ get_or room-sizes 0 0
  pub countable : count + (suc last - first) * row ≤ 18446744073709551615

-- the cells from a cell on are evaluated, of the programs held: their first fault, counted from there, and without a fault their next fields, in scratch.
-- The parts of the cells before them stay
pub record BandEvaluated (Held : Program → Type 0) (rule : Rule) (sizes : List ℕ) (from cells : ℕ) (grid scratch : List ℤ) (time count : ℕ) (r : Step) (scratch' : List ℤ) : Type 0 where
  pub fault : (p : Program) → Held p → fault_in r ≡ first_fault (λ i. given p rule.fields sizes grid time (from + i)) cells
  pub count_is : r.count ≡ count + reached cells (fault_in r)
  pub counted : r.count ≤ count + cells
  pub next : fault_in r ≡ no_fault → (p : Program) → Held p → (i : ℕ) → i < cells
      → given p rule.fields sizes grid time (from + i) ≡ result (cell_of rule.fields scratch' (from + i))
  pub kept : (c : ℕ) → c < from → cell_of rule.fields scratch' c ≡ cell_of rule.fields scratch c

-- ---- all bands

-- all cells are evaluated
pub record AllEvaluated (Held : Program → Type 0) (rule : Rule) (sizes : List ℕ) (grid : List ℤ) (time count : ℕ) (r : Step) (scratch' : List ℤ) : Type 0 where
  pub fault : (p : Program) → Held p → fault_in r ≡ first_fault (given p rule.fields sizes grid time) (product sizes)
  pub count_is : r.count ≡ count + reached (product sizes) (fault_in r)
  pub counted : r.count ≤ count + product sizes
  pub next : fault_in r ≡ no_fault → (p : Program) → Held p → (c : ℕ) → c < product sizes
      → given p rule.fields sizes grid time c ≡ result (cell_of rule.fields scratch' c)

-- the plan is accepted, where so many rows can be held as the room has
pub record PlanRuns (sizes room-sizes : List ℕ) (border : Bound) (plan : List ℕ) (count : ℕ) : Type 0 where
  pub right : plan_right (get_or sizes 0 0) border (get_or room-sizes 0 0) plan ≡ true
  pub countable : count + product sizes ≤ 18446744073709551615

-- every cell is marked
pub record AllMarked (sizes marks : List ℕ) : Type 0 where
  pub marks_fit : length marks ≡ product sizes
  pub all : (c : ℕ) → c < product sizes → marked marks c ≡ true
