-- What the parts of a step promise: the evaluation of one cell, and of all marked cells.
use Rattle.std.specs.Prelude.{◌≡◌, true, false, List, ℕ, ◌+◌, ◌*◌, ◌<◌, ◌≤◌, length, ℤ}
use Rattle.value.specs.Promises.Buffers.{most_room}
use Rattle.automaton.specs.Step as Step
use Rattle.automaton.specs.Step.{no_fault, result, marked, quiet_step}
use Rattle.automaton.specs.Shape.{product, coordinates, neighbour}
use Rattle.automaton.specs.Promises.ShapeLaws.{Shaped}
use Rattle.automaton.specs.Grid.{cell_of}
use Rattle.program.specs.Syntax.{Program}
use Rattle.program.specs.declared.Rule.{Rule}
use Rattle.cell_meaning.specs.Evaluation.{evaluate}
use Rattle.cell_meaning.specs.Promises.Leaves.{Leaves}
use Rattle.cell_meaning.specs.Promises.Stands.{Holds}
use Rattle.cell_statements.specs.Promises.Running.{outcome_is}
use Rattle.run_meaning.specs.Reach.{running}
use Rattle.program.specs.Promises.Fitting.{Sized}
use Rattle.run_step.specs.declared.Evaluation.{Evaluation}
use Rattle.run_step.specs.declared.Step as Told
use Rattle.run_step.specs.Promises.Stepping.{fault_in}

-- ---- one cell

-- the outcome of a cell whose next fields are `next`
abbrev pub outcome_in : Evaluation → List ℤ → Step.Outcome (List ℤ)
outcome_in r next = outcome_is r.outcome next

-- what evaluating a cell by a program gives
abbrev pub given : Program → ℕ → List ℕ → List ℤ → ℕ → ℕ → Step.Outcome (List ℤ)
given p fields sizes grid time cell = evaluate p (λ ds. cell_of fields grid (neighbour sizes cell ds)) time

-- whichever program stands in the table, the outcome is what its evaluation gives; and the cell is counted
pub record CellsCounted (words : List ℕ) (rule : Rule) (sizes : List ℕ) (cell : ℕ) (grid next : List ℤ) (time count : ℕ) (r : Evaluation) : Type 0 where
  pub says : (p : Program) → Holds words rule p → outcome_in r next ≡ given p rule.fields sizes grid time cell
  pub count_is : r.count ≡ count + 1

-- what is asked of a cell's turn, beside its mark: it is evaluated into the part of the cell `to`
pub record Turning (leaves words : List ℕ) (rule : Rule) (sizes point : List ℕ) (cell to : ℕ) (grid : List ℤ) (lent time count : ℕ) : Type 0 where
  pub rule_fits : Sized (length words) rule
  pub roomed : Shaped rule.dims rule.fields most_room sizes (length grid)
  pub part_fits : to * rule.fields + rule.fields ≤ lent
  pub inside : cell < product sizes
  pub own : point ≡ coordinates sizes cell
  pub small : time < 2147483648
  pub countable : count < 18446744073709551615
  pub noted : Leaves leaves words sizes rule.tokens rule.fields rule.slots

-- the cell's next fields are in the part of the cell `to`, and the other cells' parts stay
pub record CellTurned (words : List ℕ) (rule : Rule) (sizes : List ℕ) (cell to : ℕ) (grid scratch scratch' : List ℤ) (time count : ℕ) (r : Evaluation) : Type 0 where
  pub says : (p : Program) → Holds words rule p → outcome_in r (cell_of rule.fields scratch' to) ≡ given p rule.fields sizes grid time cell
  pub kept : (c : ℕ) → (c ≡ to → ⊥) → cell_of rule.fields scratch' c ≡ cell_of rule.fields scratch c
  pub count_is : r.count ≡ count + 1

-- ---- all marked cells

-- what evaluating the marked cells into scratch gives, of the programs held: fault and count of the step, and without a fault the next fields of the marked cells
pub record FilledFor (Held : Program → Type 0) (rule : Rule) (sizes : List ℕ) (grid scratch : List ℤ) (marks : List ℕ) (time count : ℕ) (r : Told.Step) (scratch' : List ℤ) : Type 0 where
  pub fault : (p : Program) → Held p → fault_in r ≡ (quiet_step (running p sizes) marks grid time).fault
  pub count_is : (p : Program) → Held p → r.count ≡ count + (quiet_step (running p sizes) marks grid time).count
  pub counted : r.count ≤ count + product sizes
  pub next : fault_in r ≡ no_fault → (p : Program) → Held p → (c : ℕ) → c < product sizes → marked marks c ≡ true
      → given p rule.fields sizes grid time c ≡ result (cell_of rule.fields scratch' c)
  pub kept : (c : ℕ) → c < product sizes → marked marks c ≡ false → cell_of rule.fields scratch' c ≡ cell_of rule.fields scratch c

-- the same of every program that stands in the table
abbrev pub Filled : (words : List ℕ) (rule : Rule) (sizes : List ℕ) (grid scratch : List ℤ) (marks : List ℕ) (time count : ℕ) (r : Told.Step) (scratch' : List ℤ) → Type 0
Filled words rule = FilledFor (Holds words rule) rule
