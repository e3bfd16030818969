-- What the loop over the steps of a run promises.
use Rattle.std.specs.Prelude.{◌≡◌, Bool, true, false, not, cond, ◌&&◌, ◌||◌, List, ℕ, ◌+◌, ◌*◌, ◌<◌, ◌≤◌, length, get_or, replicate, ℤ}
use Rattle.std.proofs.Math.Option.{none}
use Rattle.value.specs.Limits.{most_cells}
use Rattle.automaton.specs.Step.{Blocks, Quiet, every_cell, marks_of, marked, open_in, quiet_run}
use Rattle.automaton.specs.Shape.{product}
use Rattle.automaton.specs.Grid.{cell_of}
use Rattle.automaton.proofs.Theorems.Going.{Going}
use Rattle.automaton.specs.Promises.ShapeLaws.{Shaped}
use Rattle.program.specs.Syntax.{Program}
use Rattle.program.specs.declared.Rule.{Rule}
use Rattle.cell_meaning.specs.Promises.Stands.{Holds}
use Rattle.cell_meaning.specs.Places.{places}
use Rattle.run_meaning.specs.declared.Bounds.{Bounds}
use Rattle.run_meaning.specs.declared.Reach.{Reach}
use Rattle.run_meaning.specs.Reach.{box, running}
use Rattle.run_meaning.specs.Report as report
use Rattle.run_meaning.specs.Report.{ended}
use Rattle.run_meaning.proofs.Theorems.Locality.{Flagged}
use Rattle.program.specs.Promises.Fitting.{Sized}
use Rattle.run_meaning.specs.Promises.Fitting.{bounds_of, Near, places_of}
use Rattle.list_meaning.specs.Lines.{said}
use Rattle.list_meaning.specs.ListChecking.{Limits}
use Rattle.list_meaning.specs.Setting.{set_block}
use Rattle.list_meaning.specs.Promises.Passing.{LinePasses}
use Rattle.list_reader.specs.Promises.Points.{Dimensions}
use Rattle.run_marking.specs.Promises.Opened.{opened, Ways, Sound}
use Rattle.run_steps.specs.declared.Report.{Report}
use Rattle.run_steps.specs.Told.{told}

-- the value list passes its check, for a run that begins at a time
pub record Listed (sizes text : List ℕ) (start : ℕ) : Type 0 where
  pub limits : Limits
  pub sizes_are : limits.sizes ≡ sizes
  pub first_is : limits.first ≡ start
  pub passes : LinePasses limits none 1 (said text)

-- what a run asks of its numbers and its list; nothing is asked of what the table holds
pub record Begins (words : List ℕ) (rule : Rule) (sizes : List ℕ) (r : Reach) (grid scratch : List ℤ) (marks text : List ℕ) (start steps : ℕ) : Type 0 where
  pub rule_fits : Sized (length words) rule
  pub some_dims : 0 < rule.dims
  pub shaped : Shaped rule.dims rule.fields most_cells sizes (length grid)
  pub scratch_fits : length scratch ≡ length grid
  pub marks_fit : length marks ≡ product sizes
  pub near : Near sizes r.bounds
  pub sound : Sound r rule.dims
  pub times : start + steps ≤ 2147483647
  pub dimensions : Dimensions sizes
  pub listed : Listed sizes text start

-- what is set into the grid at each time
abbrev pub blocks_in : List ℕ → Rule → List ℕ → Blocks (List ℤ)
blocks_in sizes rule text = set_block sizes rule.fields text

-- the program stands in the table with this reach; all cells are open in every step exactly if its flag `timed` is set, which it is
-- where `time` stands in its statements
pub record Runs (words : List ℕ) (rule : Rule) (r : Reach) (all_open : Bool) (p : Program) : Type 0 where
  pub holds : Holds words rule p
  pub reaches : box p ≡ bounds_of r.bounds rule.dims
  pub lists : places p ≡ places_of r rule.dims
  pub timed : p.timed ≡ all_open
  pub flagged : Flagged p

-- ---- the marks at the beginning

-- what is asked for copying a grid
pub record Copying (grid scratch : List ℤ) : Type 0 where
  pub alike : length scratch ≡ length grid
  pub few : length grid ≤ 8388608

-- whether a run begins from the marks that it is lent
abbrev pub from_lent : Bool → Bool → Bool
from_lent resumed all_open = resumed && not all_open

-- the cells that are pending then: those whose lent mark is not 0, in a resumed run, else all
abbrev pub pending_in : Bool → List ℕ → ℕ → Bool
pending_in true marks = marked marks
pending_in false marks = every_cell

-- all cells are marked; or, from lent marks, those whose mark is not 0, and scratch is the grid
pub record Started (lent : Bool) (grid : List ℤ) (marks : List ℕ) (scratch' : List ℤ) (marks' : List ℕ) : Type 0 where
  pub fresh : lent ≡ false → marks' ≡ replicate (length marks) 1
  pub resumed : lent ≡ true → (scratch' ≡ grid) × (marks' ≡ marks_of (marked marks) (length marks))

-- ---- the marks for the next step

-- the marks stay, where all cells are open; else they are those of the cells that the step opened, for the index vectors that the way stands for
pub record Renewed (sizes : List ℕ) (bounds : Bounds) (backs : List ℕ) (listed : ℕ) (all_open : Bool) (fields : ℕ) (old grid : List ℤ) (marks marks' : List ℕ) : Type 0 where
  pub is : (dss : List (List ℤ)) → Ways sizes bounds backs listed dss → marks' ≡ cond all_open marks (marks_of (opened sizes dss fields old grid) (product sizes))

-- ---- the loop

-- the marks that a step begins with: a cell with mark 0 has the same fields in grid and scratch; all are marked, where all are open
pub record Standing (rule : Rule) (sizes : List ℕ) (all_open : Bool) (grid scratch : List ℤ) (marks : List ℕ) : Type 0 where
  pub plain : (c : ℕ) → c < product sizes → get_or marks c 0 ≤ 1
  pub still : (c : ℕ) → c < product sizes → get_or marks c 0 ≡ 0 → cell_of rule.fields scratch c ≡ cell_of rule.fields grid c
  pub all_marked : all_open ≡ true → marks ≡ marks_of every_cell (product sizes)

-- `done` steps are done without a fault, and `count` cells counted
pub record Halfway (rule : Rule) (sizes : List ℕ) (all_open : Bool) (entries steps done count : ℕ) (grid scratch : List ℤ) (marks : List ℕ) : Type 0 where
  pub few_steps : done ≤ steps
  pub few_cells : count ≤ done * most_cells
  pub grid_size : length grid ≡ entries
  pub scratch_size : length scratch ≡ entries
  pub marks_size : length marks ≡ product sizes
  pub standing : Standing rule sizes all_open grid scratch marks

-- the marks with which a run begins are those of all cells, or of the pending ones
abbrev pub Begun : List ℕ → Bool → List ℕ → (ℕ → Bool) → Type 0
Begun sizes all_open marks o = marks ≡ marks_of (λ c. all_open || o c) (product sizes)

-- what a run does that began with these marks: the block of the time led from `before` to the grid, and the marks are those of the open cells
pub record RunGoes (words : List ℕ) (rule : Rule) (sizes : List ℕ) (r : Reach) (all_open : Bool) (text : List ℕ) (grid₀ : List ℤ) (marks₀ : List ℕ) (start steps done count : ℕ) (before grid : List ℤ) (marks : List ℕ) : Type 0 where
  pub is : (p : Program) → Runs words rule r all_open p → (o : ℕ → Bool) → Begun sizes all_open marks₀ o
      → (pending : ℕ → Bool) × (marks ≡ marks_of (open_in (running p sizes) pending before grid) (product sizes)) × Going (running p sizes) (blocks_in sizes rule text) o steps start grid₀ pending done count before

-- the block of the time is not set yet
pub record Underway (words : List ℕ) (rule : Rule) (sizes : List ℕ) (r : Reach) (all_open : Bool) (text : List ℕ) (grid₀ : List ℤ) (marks₀ : List ℕ) (start steps done count : ℕ) (grid scratch : List ℤ) (marks : List ℕ) : Type 0 where
  pub so_far : Halfway rule sizes all_open (length grid₀) steps done count grid scratch marks
  pub goes : RunGoes words rule sizes r all_open text grid₀ marks₀ start steps done count grid grid marks

-- it is set
pub record BlockPlaced (words : List ℕ) (rule : Rule) (sizes : List ℕ) (r : Reach) (all_open : Bool) (text : List ℕ) (grid₀ : List ℤ) (marks₀ : List ℕ) (start steps done count : ℕ) (grid scratch : List ℤ) (marks : List ℕ) : Type 0 where
  pub so_far : Halfway rule sizes all_open (length grid₀) steps done count grid scratch marks
  pub before : List ℤ
  pub set_is : grid ≡ blocks_in sizes rule text (start + done) before
  pub goes : RunGoes words rule sizes r all_open text grid₀ marks₀ start steps done count before grid marks

abbrev pub without_fault : ℕ → ℕ → Report
without_fault steps count = record { number = 0; place = 0; line = 0; cell = 0; steps = steps; count = count }

-- what n steps with their blocks give, of which each evaluates the open cells, begun with these cells pending
abbrev pub steps_give : Program → List ℕ → Blocks (List ℤ) → (ℕ → Bool) → ℕ → ℕ → List ℤ → Quiet (List ℤ)
steps_give p sizes block o n t g = quiet_run (running p sizes) block o n t g

-- its report
abbrev pub report_in : Quiet (List ℤ) → report.Report
report_in q = ended q.run.fault q.run.steps q.count q.run.grid

-- the report and the marks that stand are those of these steps
pub record Ran (words : List ℕ) (rule : Rule) (sizes : List ℕ) (r : Reach) (all_open : Bool) (text : List ℕ) (start steps : ℕ) (o : ℕ → Bool) (grid : List ℤ) (said : Report) (grid' : List ℤ) (marks' : List ℕ) : Type 0 where
  pub says : (p : Program) → Runs words rule r all_open p → told said grid' ≡ report_in (steps_give p sizes (blocks_in sizes rule text) o steps start grid)
  pub stand : (p : Program) → Runs words rule r all_open p → marks' ≡ (steps_give p sizes (blocks_in sizes rule text) o steps start grid).marks

-- the same, begun with these marks
pub record RanMarked (words : List ℕ) (rule : Rule) (sizes : List ℕ) (r : Reach) (all_open : Bool) (text : List ℕ) (start steps : ℕ) (grid : List ℤ) (marks : List ℕ) (said : Report) (grid' : List ℤ) (marks' : List ℕ) : Type 0 where
  pub from : (o : ℕ → Bool) → Begun sizes all_open marks o → Ran words rule sizes r all_open text start steps o grid said grid' marks'
