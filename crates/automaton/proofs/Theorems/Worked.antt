-- Worked examples of runs with blocks, of pausing and resuming, of bands and of row counts: by computation.
use Prim.Native.Nat.{ℕ}
use mathlib.Core.Path.{◌≡◌, refl}
use mathlib.Core.Bool.{true, false}
use mathlib.Core.List.{List, [], ◌∷◌}
use mathlib.Core.Option.{some, none}
use lib.IntN.{ℤ, pos, negsuc}
use lib.ListN.{set}
use Rattle.automaton.specs.Listed.{list_of}
use Rattle.automaton.specs.Step.{result, no_fault, Automaton, first_fault, how_many, any_of, marks_of, marked, Quiet, every_cell, step_of, quiet_outcome, quiet_step, changed, touched, open_in, run_of, open_count, full_count, quiet_run}
use Rattle.automaton.proofs.Theorems.Blocks.{no_blocks}
use Rattle.automaton.specs.Shape.{neighbour, box_indices, reach_of}
use Rattle.automaton.specs.Grid.{cell_of, grid_of, CellRule, automaton}
use Rattle.automaton.proofs.Theorems.Blocks.{Block, blocks_of}
use Rattle.automaton.specs.Bands.{runs_on, accepts, plannable, longest, plan_of, part_step, band_outcome, band_step}
use Rattle.automaton.specs.Promises.BandSteps.{rows_lent, bands_of, step_under}
use Rattle.automaton.specs.Rows.{has_zero, counts_by, row_counts, in_rows, lowest, first_row}

-- each cell gets its left neighbour's value, on five cells: `cell := [-1]`
abbrev left : CellRule
left look t = result (look (negsuc 0 ∷ []))

abbrev shifting : Automaton (List ℤ) (List ℤ)
shifting = automaton (5 ∷ []) 1 false (box_indices (record { back = 1; ahead = 0 } ∷ [])) left

abbrev bits : List ℕ → List ℤ
bits [] = []
bits (n ∷ ns) = pos n ∷ bits ns

-- one cell set to 1, at a time
abbrev one_at : ℕ → ℕ → Block (List ℤ)
one_at t c = record { time = t; set = λ g. set g c (pos 1) }

abbrev ended : ℕ → List ℕ → ℕ → List ℕ → Quiet (List ℤ)
ended steps grid count marks = record { run = record { fault = no_fault; steps = steps; grid = bits grid }; count = count; marks = marks }

record Claims : Type 0 where
  -- no step: all cells are open in the first
  no_step : quiet_run shifting no_blocks every_cell 0 0 (bits (1 ∷ 0 ∷ 0 ∷ 0 ∷ 0 ∷ [])) ≡ ended 0 (1 ∷ 0 ∷ 0 ∷ 0 ∷ 0 ∷ []) 0 (1 ∷ 1 ∷ 1 ∷ 1 ∷ 1 ∷ [])
  -- one step, and one from its marks: together M5
  first : quiet_run shifting no_blocks every_cell 1 0 (bits (1 ∷ 0 ∷ 0 ∷ 0 ∷ 0 ∷ [])) ≡ ended 1 (0 ∷ 1 ∷ 0 ∷ 0 ∷ 0 ∷ []) 5 (1 ∷ 1 ∷ 1 ∷ 0 ∷ 0 ∷ [])
  then : quiet_run shifting no_blocks (marked (1 ∷ 1 ∷ 1 ∷ 0 ∷ 0 ∷ [])) 1 1 (bits (0 ∷ 1 ∷ 0 ∷ 0 ∷ 0 ∷ [])) ≡ ended 1 (0 ∷ 0 ∷ 1 ∷ 0 ∷ 0 ∷ []) 3 (0 ∷ 1 ∷ 1 ∷ 1 ∷ 0 ∷ [])
  -- wrong marks: a cell that is not open keeps its fields
  wrong : quiet_run shifting no_blocks (marked (0 ∷ 7 ∷ 0 ∷ 0 ∷ 0 ∷ [])) 1 0 (bits (1 ∷ 0 ∷ 0 ∷ 0 ∷ 0 ∷ [])) ≡ ended 1 (1 ∷ 1 ∷ 0 ∷ 0 ∷ 0 ∷ []) 1 (0 ∷ 1 ∷ 1 ∷ 0 ∷ 0 ∷ [])
  -- a block behind the last step opens too
  block : quiet_run shifting (blocks_of (one_at 1 3 ∷ [])) every_cell 1 0 (bits (1 ∷ 0 ∷ 0 ∷ 0 ∷ 0 ∷ [])) ≡ ended 1 (0 ∷ 1 ∷ 0 ∷ 1 ∷ 0 ∷ []) 5 (1 ∷ 1 ∷ 1 ∷ 1 ∷ 1 ∷ [])
  -- no step, from lent marks, with a block
  still : quiet_run shifting (blocks_of (one_at 4 0 ∷ [])) (marked (0 ∷ 0 ∷ 3 ∷ 0 ∷ 0 ∷ [])) 0 4 (bits (0 ∷ 0 ∷ 1 ∷ 0 ∷ 0 ∷ [])) ≡ ended 0 (1 ∷ 0 ∷ 1 ∷ 0 ∷ 0 ∷ []) 0 (1 ∷ 1 ∷ 1 ∷ 0 ∷ 0 ∷ [])
  -- plans
  plan : plan_of 5 (record { back = 1; ahead = 0 }) 3 ≡ record { first = 0; last = 1 } ∷ record { first = 2; last = 3 } ∷ record { first = 4; last = 4 } ∷ []
  taken : accepts 5 (record { back = 1; ahead = 0 }) 3 (record { first = 0; last = 0 } ∷ record { first = 1; last = 2 } ∷ record { first = 3; last = 4 } ∷ []) ≡ true
  gap : accepts 5 (record { back = 1; ahead = 0 }) 3 (record { first = 0; last = 0 } ∷ record { first = 2; last = 3 } ∷ record { first = 4; last = 4 } ∷ []) ≡ false
  -- the row before the first is the last
  lent : rows_lent [] 1 5 3 1 0 (bits (5 ∷ 6 ∷ 7 ∷ 8 ∷ 9 ∷ [])) ≡ bits (9 ∷ 5 ∷ 6 ∷ [])
  -- border rows repeat
  repeated : rows_lent [] 1 2 7 3 0 (bits (5 ∷ 6 ∷ [])) ≡ bits (6 ∷ 5 ∷ 6 ∷ 5 ∷ 6 ∷ 5 ∷ 6 ∷ [])
  step : step_under [] 1 left 5 (record { back = 1; ahead = 0 }) (record { first = 0; last = 1 } ∷ record { first = 2; last = 4 } ∷ []) (bits (5 ∷ 6 ∷ 7 ∷ 8 ∷ 9 ∷ [])) 0
      ≡ record { fault = no_fault; grid = bits (9 ∷ 5 ∷ 6 ∷ 7 ∷ 8 ∷ []); count = 5 }
  -- row counts
  rows : row_counts (5 ∷ 2 ∷ []) 1 0 (bits (0 ∷ 0 ∷ 1 ∷ 1 ∷ 0 ∷ 1 ∷ 1 ∷ 0 ∷ 1 ∷ 1 ∷ [])) ≡ 2 ∷ 0 ∷ 1 ∷ 1 ∷ 0 ∷ []
  some_rows : in_rows (2 ∷ 0 ∷ 1 ∷ 1 ∷ 0 ∷ []) 1 3 ≡ 2
  first_with : first_row (0 ∷ 0 ∷ 1 ∷ 1 ∷ 0 ∷ []) ≡ some 2
  no_row : first_row (0 ∷ 0 ∷ []) ≡ none

claims : Claims
unfolding list_of first_fault how_many any_of marks_of marked step_of quiet_outcome quiet_step changed touched open_in run_of open_count full_count quiet_run neighbour box_indices reach_of cell_of grid_of automaton blocks_of runs_on accepts plannable longest plan_of part_step band_outcome band_step rows_lent bands_of step_under has_zero counts_by in_rows lowest first_row
claims = record {
  no_step = refl;
  first = refl;
  then = refl;
  wrong = refl;
  block = refl;
  still = refl;
  plan = refl;
  taken = refl;
  gap = refl;
  lent = refl;
  repeated = refl;
  step = refl;
  rows = refl;
  some_rows = refl;
  first_with = refl;
  no_row = refl;
}
