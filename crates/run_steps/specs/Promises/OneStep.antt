-- One step of a run: of the whole grid, or made of bands of rows.
use Rattle.std.specs.Prelude.{◌≡◌, Bool, true, false, List, ℕ, ◌≤◌, length, get_or, drop, ℤ}
use Rattle.value.specs.Promises.Buffers.{most_room}
use Rattle.automaton.specs.Shape.{product, Bound}
use Rattle.automaton.specs.Promises.ShapeLaws.{Shaped}
use Rattle.program.specs.Syntax.{Program}
use Rattle.program.specs.declared.Rule.{Rule}
use Rattle.cell_meaning.specs.Promises.Stands.{Holds}
use Rattle.run_meaning.specs.declared.Reach.{Reach}
use Rattle.band_meaning.specs.Edge.{edge}
use Rattle.band_meaning.specs.Bounds.{bound}
use Rattle.band_meaning.specs.Plans.{plan_right}
use Rattle.run_step.specs.Promises.Stepping.{StepReady}
use Rattle.run_step.specs.Promises.Turns.{}
use Rattle.band_step.specs.Promises.Bandwise.{Bordered, Grounds, PlanRuns, AllMarked}
use Rattle.run_steps.specs.declared.Bands.{Bands}
use Rattle.run_steps.specs.Promises.Stepwise.{Runs}

-- the border rows of a band
abbrev pub border_in : Bands → Bound
border_in b = bound b.before b.behind

-- the programs for which a step holds: those that stand in the table; of a step by bands, those that have these border rows besides
abbrev pub ToldBy : Bool → List ℕ → Rule → Bound → Program → Type 0
ToldBy true words rule border p = Bordered words rule border p
ToldBy false words rule border p = Holds words rule p

-- what `one_step` asks: `shape` are the sizes of the room where the step is made of bands
pub record Steppable (leaves words : List ℕ) (rule : Rule) (sizes shape : List ℕ) (bands : Bands) (plan : List ℕ) (grid scratch : List ℤ) (lent : ℕ) (marks : List ℕ) (time count : ℕ) : Type 0 where
  pub whole : bands.banded ≡ false → StepReady leaves words rule sizes grid scratch marks time count
  pub by_bands : bands.banded ≡ true
      → Grounds leaves words rule sizes shape bands.row (border_in bands) (length grid) (length scratch) lent time × PlanRuns sizes shape (border_in bands) plan count × AllMarked sizes marks

-- ---- the steps of a run

-- what a run by bands asks: every cell is open in each step; the room is as wide as the grid, and the plan is accepted, where so many rows can be
-- held as the room has
pub record Bandable (words : List ℕ) (rule : Rule) (sizes shape : List ℕ) (bands : Bands) (plan : List ℕ) (r : Reach) (all_open : Bool) (lent : ℕ) : Type 0 where
  pub all : all_open ≡ true
  pub row_is : bands.row ≡ product (drop 1 sizes)
  pub near : bands.before ≤ get_or sizes 0 0
  pub roomed : Shaped rule.dims rule.fields most_room shape lent
  pub alike : drop 1 shape ≡ drop 1 sizes
  pub right : plan_right (get_or sizes 0 0) (border_in bands) (get_or shape 0 0) plan ≡ true
  pub borders : (p : Program) → Runs words rule r all_open p → edge p ≡ border_in bands

-- the leaf table is of the sizes in `shape`: those of the grid, or of the room
pub record Making (words : List ℕ) (rule : Rule) (sizes shape : List ℕ) (bands : Bands) (plan : List ℕ) (r : Reach) (all_open : Bool) (lent : ℕ) : Type 0 where
  pub whole : bands.banded ≡ false → shape ≡ sizes
  pub by_bands : bands.banded ≡ true → Bandable words rule sizes shape bands plan r all_open lent
