-- Worked cases of a run under a plan, as one list with one claim.
use mathlib.Core.Path.{◌≡◌, refl}
use mathlib.Core.Bool.{Bool, true, false, not, ◌&&◌}
use mathlib.Core.List.{List, [], ◌∷◌}
use Prim.Native.Nat.{ℕ}
use lib.ListN.{length, replicate}
use lib.IntN.{ℤ, pos, negsuc}
use Rattle.value.proofs.Theorems.Truth.{failing}
use Rattle.automaton.specs.Grid.{differ}
use Rattle.automaton.specs.Bands
use Rattle.token.specs.Bytes.{as_bytes, same}
use Rattle.token.specs.Lexeme.{built_in_names}
use Rattle.run_calls.proofs.Theorems.Cases
use Rattle.run_calls.proofs.Theorems.Cases.{same_report, report}
use Rattle.run_calls.specs.Calls
use Rattle.run_calls.specs.Calls.{NameForm, memory, lent}
use Rattle.band_meaning.specs.Edge
use Rattle.band_meaning.specs.Plans
use Rattle.run_meaning.specs.Report.{Report}
use Rattle.band_run.specs.BandedRun
use Rattle.band_run.specs.BandedRun.{BandedLent, banded_left}

-- what is asked: a source, sizes, a grid, a value list, start and steps; how many rows can be held, a plan, and how long the room is. Scratch and marks
-- are of the right length, and field 0 is counted, in one entry a row
record Asks : Type 0 where
  source : List ℕ
  sizes : List ℕ
  grid : List ℤ
  values : List ℕ
  start : ℤ
  steps : ℤ
  held : ℕ
  plan : List ℕ
  room : ℕ

data Case : Type 0 where
  -- what is asked, the report, and the counts; a run that began leaves zeros in scratch, marks and room, and a refused one what they were lent with
  runs : Asks → Report → List ℕ → (began : Bool) → Case

-- word table and name list are taken as they are lent
abbrev any_names : NameForm ℕ
any_names = record { fit = λ words names. true; none = 0; entries = λ words. words }

abbrev marks_in : Asks → ℕ
marks_in q = length q.grid

abbrev lends : Asks → BandedLent ℕ
lends q =
    record {
      run = lent q.source built_in_names q.sizes (memory [] [] q.grid (replicate (length q.grid) (pos 7)) (replicate (marks_in q) 7) (replicate (Plans.rows q.sizes) 7)) q.values q.start q.steps true 0;
      held = q.held;
      plan = q.plan;
      room = replicate q.room (pos 7);
    }

-- a room that is lent with 7 in every entry is left so, or with zeros
abbrev ended : Bool → ℤ
ended true = pos 0
ended false = pos 7

abbrev ended_mark : Bool → ℕ
ended_mark true = 0
ended_mark false = 7

-- a case holds. What it computes with is opened by `Cases` of the services, and by the names here
unfoldable holds : Case → Bool
unfolding Cases.holds Bands.runs_on Bands.accepts Edge.edge_of Edge.edge Plans.bands_in Plans.plan_right Plans.plan_fits
    Calls.run_left BandedRun.room_right BandedRun.admitted_under BandedRun.banded_left
holds (runs q said counts began) =
    let r = banded_left any_names (lends q) in
    let m = r.left.memory in
    same_report r.left.report said && same m.counts counts && not (differ m.grid said.grid)
    && not (differ m.scratch (replicate (length q.grid) (ended began))) && same m.marks (replicate (marks_in q) (ended_mark began))
    && not (differ r.room (replicate q.room (ended began)))

-- the numbers, from n on, of the cases that do not hold
-- numbers
abbrev of : List ℕ → List ℤ
of [] = []
of (n ∷ ns) = pos n ∷ of ns

-- the cells 5, 6, 7, 8 and 9, which take the value before them, where four rows can be held
abbrev line : (plan : List ℕ) (room : ℕ) (values : List ℕ) (start steps : ℤ) → Asks
line plan room values start steps =
    record { source = as_bytes "1 dimensions of 0..9 cell := [-1]"; sizes = 5 ∷ []; grid = of (5 ∷ 6 ∷ 7 ∷ 8 ∷ 9 ∷ []); values = values; start = start; steps = steps; held = 4; plan = plan; room = room }

-- that were not changed
abbrev refused : (number line : ℕ) → Report
refused number line = record { number = number; place = 0; line = line; cell = 0; steps = 0; count = 0; grid = of (5 ∷ 6 ∷ 7 ∷ 8 ∷ 9 ∷ []) }

-- five cells that are counted up, where two rows can be held
abbrev up : List ℕ → List ℕ → Asks
up grid plan =
    record { source = as_bytes "1 dimensions of 0..3 cell := cell + 1"; sizes = 5 ∷ []; grid = of grid; values = []; start = pos 0; steps = pos 2; held = 2; plan = plan; room = 2 }

-- counts that are not filled
abbrev none : List ℕ
none = 7 ∷ 7 ∷ 7 ∷ 7 ∷ 7 ∷ []

unfoldable cases : List Case
cases =
    -- one step, two, and none
    runs (line (0 ∷ 1 ∷ 2 ∷ 4 ∷ []) 4 [] (pos 0) (pos 1)) (report 0 0 0 1 5 (of (9 ∷ 5 ∷ 6 ∷ 7 ∷ 8 ∷ []))) (0 ∷ 0 ∷ 0 ∷ 0 ∷ 0 ∷ []) true
    ∷ runs (line (0 ∷ 0 ∷ 1 ∷ 3 ∷ 4 ∷ 4 ∷ []) 4 [] (pos 0) (pos 2)) (report 0 0 0 2 10 (of (8 ∷ 9 ∷ 5 ∷ 6 ∷ 7 ∷ []))) (0 ∷ 0 ∷ 0 ∷ 0 ∷ 0 ∷ []) true
    ∷ runs (line (0 ∷ 1 ∷ 2 ∷ 4 ∷ []) 4 [] (pos 0) (pos 0)) (report 0 0 0 0 0 (of (5 ∷ 6 ∷ 7 ∷ 8 ∷ 9 ∷ []))) (0 ∷ 0 ∷ 0 ∷ 0 ∷ 0 ∷ []) true
    -- a block sets the first cell to 0 before the second step
    ∷ runs (line (0 ∷ 1 ∷ 2 ∷ 4 ∷ []) 4 (as_bytes "1\n[0] = 0\n") (pos 0) (pos 2)) (report 0 0 0 2 10 (of (8 ∷ 0 ∷ 5 ∷ 6 ∷ 7 ∷ []))) (0 ∷ 1 ∷ 0 ∷ 0 ∷ 0 ∷ []) true
    -- a fault in the second band, in the first step; in the third, in the second step
    ∷ runs (up (0 ∷ 3 ∷ 1 ∷ 3 ∷ 2 ∷ []) (0 ∷ 0 ∷ 1 ∷ 2 ∷ 3 ∷ 4 ∷ [])) (report 33 26 1 0 2 (of (0 ∷ 3 ∷ 1 ∷ 3 ∷ 2 ∷ []))) (1 ∷ 0 ∷ 0 ∷ 0 ∷ 0 ∷ []) true
    ∷ runs (up (0 ∷ 0 ∷ 1 ∷ 2 ∷ 1 ∷ []) (0 ∷ 0 ∷ 1 ∷ 2 ∷ 3 ∷ 4 ∷ [])) (report 33 26 3 1 9 (of (1 ∷ 1 ∷ 2 ∷ 3 ∷ 2 ∷ []))) (0 ∷ 0 ∷ 0 ∷ 0 ∷ 0 ∷ []) true
    -- a plan that ends early, one that is not for so few rows, and none
    ∷ runs (line (0 ∷ 1 ∷ 2 ∷ 3 ∷ []) 4 [] (pos 0) (pos 1)) (refused 60 0) none false
    ∷ runs (line (0 ∷ 3 ∷ 4 ∷ 4 ∷ []) 4 [] (pos 0) (pos 1)) (refused 60 0) none false
    ∷ runs (line [] 4 [] (pos 0) (pos 0)) (refused 60 0) none false
    -- the order of the replies: 21 for the room, 22, the list, 60
    ∷ runs (line [] 3 (as_bytes "x") (negsuc 0) (pos 1)) (refused 21 0) none false
    ∷ runs (line [] 4 (as_bytes "x") (negsuc 0) (pos 1)) (refused 22 0) none false
    ∷ runs (line [] 4 (as_bytes "x") (pos 0) (pos 1)) (refused 50 1) none false
    ∷ []

-- none fails
cases_hold : failing holds 1 cases ≡ []
unfolding cases failing holds
cases_hold = refl
