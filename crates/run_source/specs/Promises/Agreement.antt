-- How the report of a run stands to that of the full run.
use Rattle.std.specs.Prelude.{◌≡◌, false, ◌≤◌}
use Rattle.run_meaning.specs.Report.{Report}
use Rattle.run_steps.specs.declared.Manner.{Manner as Way}
use Rattle.run_source.specs.Promises.Public.{is_resumed}

-- a quiet run's report beside a full run's: the same answer and grid, at a fault too, and no more cells counted
pub record Agree (q f : Report) : Type 0 where
  pub number : q.number ≡ f.number
  pub place : q.place ≡ f.place
  pub line : q.line ≡ f.line
  pub cell : q.cell ≡ f.cell
  pub steps : q.steps ≡ f.steps
  pub grid : q.grid ≡ f.grid
  pub count : q.count ≤ f.count

-- the same of a run that does not begin from lent marks
pub record AgreesFresh (way : Way) (q f : Report) : Type 0 where
  pub agree : is_resumed way ≡ false → Agree q f
