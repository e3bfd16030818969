-- What the functions of a run under a plan promise.
use Rattle.std.specs.Prelude.{◌≡◌, true, List, ℕ, ◌*◌, ◌≤◌, get_or, drop, ℤ}
use Rattle.automaton.specs.Shape.{product, Bound}
use Rattle.token.specs.Lexeme.{is_built_in}
use Rattle.program.specs.Syntax.{Program}
use Rattle.program.specs.declared.Rule.{Rule}
use Rattle.run_meaning.specs.declared.Reach.{Reach}
use Rattle.run_calls.specs.Calls.{NameForm, flat_names, Memory}
use Rattle.band_meaning.specs.Edge.{edge}
use Rattle.band_meaning.specs.Plans.{plan_right}
use Rattle.run_steps.specs.declared.Report.{Report}
use Rattle.run_steps.specs.Promises.Stepwise.{Runs}
use Rattle.run_steps.specs.Told.{told}
use Rattle.band_run.specs.BandedRun.{BandedLent, banded_left}

-- `run_admitted`: what is asked beside a run: the border rows are those of the program and no more than the grid's rows, the plan is accepted, and the
-- room is of as many rows as can be held
pub record UnderPlan (words : List ℕ) (rule : Rule) (sizes : List ℕ) (r : Reach) (border : Bound) (held : ℕ) (plan : List ℕ) (room : ℕ) : Type 0 where
  pub back : border.back ≤ get_or sizes 0 0
  pub ahead : border.ahead ≤ get_or sizes 0 0
  pub borders : (p : Program) → Runs words rule r true p → edge p ≡ border
  pub right : plan_right (get_or sizes 0 0) border held plan ≡ true
  pub room_is : room ≡ held * product (drop 1 sizes) * rule.fields

-- `run_banded`: the numbers that it returns, and the memory and the room that it leaves, are those of the definition
pub record BandedLeaves {N : Type 0} (form : NameForm N) (l : BandedLent N) (r : Report) (m : Memory N) (room : List ℤ) : Type 0 where
  pub is : record { left = record { report = told r m.grid; memory = m }; room = room } ≡ banded_left form l

-- `run_planned`: the same of every built-in list; `lends` is what is lent, by the list
pub record BandsListed (lends : List ℕ → BandedLent ℕ) (r : Report) (m : Memory ℕ) (room : List ℤ) : Type 0 where
  pub each : (list : List ℕ) → is_built_in list ≡ true → BandedLeaves flat_names (lends list) r m room
