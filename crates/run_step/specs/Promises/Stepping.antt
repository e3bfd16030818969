-- What one step under marks promises.
use Rattle.std.specs.Prelude.{◌≡◌, ⊤, Result, Ok, Err, false, cond, List, ℕ, ◌+◌, ◌<◌, ◌≤◌, length, ℤ}
use Rattle.value.specs.Limits.{most_cells}
use Rattle.automaton.specs.Step.{Fault, no_fault, fault_at, marked, quiet_step}
use Rattle.automaton.specs.Shape.{product}
use Rattle.automaton.specs.Grid.{cell_of}
use Rattle.automaton.specs.Promises.ShapeLaws.{Shaped}
use Rattle.program.specs.Syntax.{Program}
use Rattle.program.specs.declared.Rule.{Rule}
use Rattle.cell_meaning.specs.Promises.Leaves.{Leaves}
use Rattle.cell_meaning.specs.Promises.Stands.{Holds}
use Rattle.run_meaning.specs.Reach.{running}
use Rattle.program.specs.Promises.Fitting.{Sized}
use Rattle.run_step.specs.declared.Step.{Step}
use Rattle.run_step.specs.declared.CellFault.{CellFault}

-- the fault that an outcome tells
abbrev pub fault_told : Result ⊤ CellFault → Fault
fault_told (Ok done) = no_fault
fault_told (Err f) = fault_at f.cell f.fault.number f.fault.place

-- the fault that a step returns
abbrev pub fault_in : Step → Fault
fault_in r = fault_told r.outcome

-- what a step asks of its numbers; nothing is asked of what the word table holds, but the leaf table must be its own
pub record StepReady (leaves words : List ℕ) (rule : Rule) (sizes : List ℕ) (grid scratch : List ℤ) (marks : List ℕ) (time count : ℕ) : Type 0 where
  pub rule_fits : Sized (length words) rule
  pub shaped : Shaped rule.dims rule.fields most_cells sizes (length grid)
  pub scratch_fits : length scratch ≡ length grid
  pub marks_fit : length marks ≡ product sizes
  pub small : time < 2147483648
  pub room : count + product sizes ≤ 18446744073709551615
  pub noted : Leaves leaves words sizes rule.tokens rule.fields rule.slots

-- what a step gives of the programs held, under any marks, right or wrong
pub record SteppedFor (Held : Program → Type 0) (rule : Rule) (sizes : List ℕ) (grid scratch : List ℤ) (marks : List ℕ) (time count : ℕ) (r : Step) (grid' scratch' : List ℤ) : Type 0 where
  -- fault, grid and count are those of the definition's step under these marks
  pub fault : (p : Program) → Held p → fault_in r ≡ (quiet_step (running p sizes) marks grid time).fault
  pub grid_is : (p : Program) → Held p → grid' ≡ (quiet_step (running p sizes) marks grid time).grid
  pub count_is : (p : Program) → Held p → r.count ≡ count + (quiet_step (running p sizes) marks grid time).count
  pub counted : r.count ≤ count + product sizes
  pub grid_size : length grid' ≡ length grid
  pub scratch_size : length scratch' ≡ length scratch
  -- a cell with mark 0 keeps its fields, whatever stands in the table
  pub kept : (c : ℕ) → c < product sizes → marked marks c ≡ false → cell_of rule.fields grid' c ≡ cell_of rule.fields grid c
  -- without a fault, scratch is left with the old fields of the marked cells; those of the others stay
  pub old : fault_in r ≡ no_fault → (c : ℕ) → c < product sizes
      → cell_of rule.fields scratch' c ≡ cond (marked marks c) (cell_of rule.fields grid c) (cell_of rule.fields scratch c)

-- the same, whichever program stands in the table
abbrev pub Stepped : (words : List ℕ) (rule : Rule) (sizes : List ℕ) (grid scratch : List ℤ) (marks : List ℕ) (time count : ℕ) (r : Step) (grid' scratch' : List ℤ) → Type 0
Stepped words rule = SteppedFor (Holds words rule) rule
