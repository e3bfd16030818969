-- Calls of a run that is paused and resumed: when one call goes on where another stopped, what both are at once, and what they give together.
use Rattle.std.specs.Prelude.{◌≡◌, Bool, true, ◌&&◌, List, [], ◌∷◌, ◌++◌, ℕ, ◌+◌, pos, nat_abs}
use Rattle.std.proofs.Math.Option.{Option, some, none}
use Rattle.grammar.specs.Checking.{read_source}
use Rattle.run_meaning.specs.Report.{Manner, full, quiet, pausing, resuming, Report}
use Rattle.list_meaning.specs.Lines.{Said, bad, time, cell, said}
use Rattle.list_meaning.specs.ListChecking.{rises}
use Rattle.run_calls.specs.Running.{Asked, ask}
use Rattle.run_calls.specs.Services.{run_source, run_begins, marks_after}

-- ---- two calls

-- the times of a list's lines
unfoldable pub times_in : List Said → List ℕ
times_in [] = []
times_in (bad ∷ ss) = times_in ss
times_in (time t ∷ ss) = t ∷ times_in ss
times_in (cell is vs ∷ ss) = times_in ss

-- times rise strictly, behind another one if there is one
unfoldable pub rising : Option ℕ → List ℕ → Bool
rising before [] = true
rising before (t ∷ ts) = rises before t && rising (some t) ts

-- the times of two value lists, joined, rise strictly
abbrev pub joined_rise : List ℕ → List ℕ → Bool
joined_rise xs ys = rising none (times_in (said xs) ++ times_in (said ys))

-- the manners that leave their marks standing
abbrev pub Pauses : Manner → Type 0
Pauses full = ⊥
Pauses quiet = ⊥
Pauses pausing = Unit {0}
Pauses (resuming marks) = Unit {0}

-- A call goes on where another one stopped: both are admitted; the earlier one did all its steps, so that it has no fault; the sizes are the same, the grid is
-- as left, the start has moved on by the steps, and the times of the two lists, joined, rise strictly.
pub record GoesOn (manner : Manner) (fit : Bool) (source : List ℕ) (q r : Asked) : Type 0 where
  pub earlier : run_begins source q (read_source fit source) ≡ true
  pub later : run_begins source r (read_source fit source) ≡ true
  pub done : (run_source manner fit source q).steps ≡ nat_abs q.request.steps
  pub sizes : r.request.sizes ≡ q.request.sizes
  pub grid : r.request.grid ≡ (run_source manner fit source q).grid
  pub start : nat_abs r.request.start ≡ nat_abs q.request.start + nat_abs q.request.steps
  pub times : joined_rise q.values r.values ≡ true

-- the manner of the call that begins from the marks that a call left
abbrev pub joined_after : Manner → Bool → List ℕ → Asked → List ℕ → Manner
joined_after manner fit source q marks = resuming (marks_after manner fit source q marks)

-- both calls at once: the steps of both, with the joined list, and the row counts that the earlier one keeps
abbrev pub at_once : Asked → Asked → Asked
at_once q r =
    ask
    (record {
      sizes = q.request.sizes;
      grid = q.request.grid;
      start = q.request.start;
      steps = pos (nat_abs q.request.steps + nat_abs r.request.steps);
      scratch = q.request.scratch;
      marks = q.request.marks;
    })
    (q.values ++ r.values)
    q.counts

-- what two calls give together: the later one's answer and grid, and the sums of the steps and of the counts
abbrev pub together : Report → Report → Report
together a b =
    record {
      number = b.number;
      place = b.place;
      line = b.line;
      cell = b.cell;
      steps = a.steps + b.steps;
      count = a.count + b.count;
      grid = b.grid;
    }

-- ---- any number of calls

-- all calls at once
abbrev pub all_at_once : Asked → List Asked → Asked
all_at_once q [] = q
all_at_once q (r ∷ rs) = at_once q (all_at_once r rs)

-- what calls give together that are made one after the other, each from the marks that the one before left; `marks` are those lent to the first
unfoldable pub all_together : Manner → Bool → List ℕ → Asked → List Asked → List ℕ → Report
all_together manner fit source q [] marks = run_source manner fit source q
all_together manner fit source q (r ∷ rs) marks =
    together (run_source manner fit source q) (all_together (joined_after manner fit source q marks) fit source r rs (marks_after manner fit source q marks))

-- the marks that the last of them leaves
unfoldable pub last_marks : Manner → Bool → List ℕ → Asked → List Asked → List ℕ → List ℕ
last_marks manner fit source q [] marks = marks_after manner fit source q marks
last_marks manner fit source q (r ∷ rs) marks = last_marks (joined_after manner fit source q marks) fit source r rs (marks_after manner fit source q marks)

-- each goes on where the one before stopped, and the times of all lists, joined, rise strictly
abbrev pub Chain : Manner → Bool → List ℕ → Asked → List Asked → List ℕ → Type 0
Chain manner fit source q [] marks = run_begins source q (read_source fit source) ≡ true
Chain manner fit source q (r ∷ rs) marks =
    GoesOn manner fit source q r × (joined_rise q.values (all_at_once r rs).values ≡ true)
    × Chain (joined_after manner fit source q marks) fit source r rs (marks_after manner fit source q marks)
