-- The answer of a run, and the grid that it leaves; and the manners of a run.
use Rattle.std.specs.Prelude.{Bool, List, ℕ, ℤ}
use Rattle.automaton.specs.Step.{Fault, no_fault, fault_at, Automaton, Blocks, Run, run_of, full_count, open_count, quiet_run, every_cell, marked}

-- the reply's number, its place, its line in the value list, the faulting cell, the steps done, the count of evaluated cells, and the grid
abbrev pub Report : Type 0
Report = record { number : ℕ; place : ℕ; line : ℕ; cell : ℕ; steps : ℕ; count : ℕ; grid : List ℤ }

-- the report of a refused run: nothing is changed
abbrev pub refused : ℕ → ℕ → ℕ → List ℤ → Report
refused number place line grid = record { number = number; place = place; line = line; cell = 0; steps = 0; count = 0; grid = grid }

-- the report of a run that began
abbrev pub ended : Fault → ℕ → ℕ → List ℤ → Report
ended no_fault steps count grid = record { number = 0; place = 0; line = 0; cell = 0; steps = steps; count = count; grid = grid }
ended (fault_at cell number place) steps count grid =
    record { number = number; place = place; line = 0; cell = cell; steps = steps; count = count; grid = grid }

-- ---- the manners of a run

pub data Manner : Type 0 where
  -- every cell is evaluated in each step
  full : Manner
  -- the open cells alone; in the first step all are open
  quiet : Manner
  -- the same, and the marks are left standing
  pausing : Manner
  -- the same, and in the first step the cells are open whose lent mark is not 0, and those that its block or `time` opens
  resuming : (marks : List ℕ) → Manner

-- the cells that are pending when a run begins: all, or those whose lent mark is not 0
abbrev pub pending_of : Manner → ℕ → Bool
pending_of full = every_cell
pending_of quiet = every_cell
pending_of pausing = every_cell
pending_of (resuming marks) = marked marks

module _ {Grid State : Type 0} where
  -- n steps from a time on. Of a run that begins from lent marks these are the steps that evaluate the open cells alone, since the marks may be any
  abbrev pub run_by : Manner → Automaton Grid State → Blocks Grid → ℕ → ℕ → Grid → Run Grid
  run_by full M block n t g = run_of M block n t g
  run_by quiet M block n t g = run_of M block n t g
  run_by pausing M block n t g = run_of M block n t g
  run_by (resuming marks) M block n t g = (quiet_run M block (marked marks) n t g).run

  -- how many cells are counted in them: all, or the open ones
  abbrev pub count_of : Manner → Automaton Grid State → Blocks Grid → ℕ → ℕ → Grid → ℕ
  count_of full M block n t g = full_count M block n t g
  count_of quiet M block n t g = open_count M block every_cell n t g
  count_of pausing M block n t g = open_count M block every_cell n t g
  count_of (resuming marks) M block n t g = (quiet_run M block (marked marks) n t g).count
