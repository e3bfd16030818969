-- What is claimed of runs of a source that moves a pixel once, with or without a value list.
use Rattle.std.specs.Prelude.{◌≡◌, List, [], ℕ, suc, ◌+◌, ◌<◌, ◌≤◌, length, ℤ, pos, nat_abs}
use Rattle.automaton.specs.Step.{Outcome, result, no_fault, Run, Step, step_of, run_of}
use Rattle.automaton.specs.Shape.{product}
use Rattle.automaton.specs.Grid.{cell_of}
use Rattle.program.specs.Syntax.{Program}
use Rattle.cell_meaning.specs.Evaluation.{entry}
use Rattle.run_meaning.specs.Reach.{running}
use Rattle.run_meaning.specs.Report.{Manner, full, quiet, pausing, resuming, Report}
use Rattle.run_calls.specs.Running.{Asked, blocks}

-- ---- the steps of a run that is asked for

-- its first k steps with their blocks, and the block of the time reached: so its grid is the one that the step k begins from
abbrev pub first_steps : Program → Asked → ℕ → Run (List ℤ)
first_steps p q k = run_of (running p q.request.sizes) (blocks p q) k (nat_abs q.request.start) q.request.grid

-- the step that goes on from there
abbrev pub next_step : Program → Asked → ℕ → Step (List ℤ)
next_step p q k = step_of (running p q.request.sizes) (first_steps p q k).grid (nat_abs q.request.start + k)

-- what evaluating a cell gives in it
abbrev pub next_of : Program → Asked → ℕ → ℕ → Outcome (List ℤ)
next_of p q k c = (running p q.request.sizes).next (first_steps p q k).grid (nat_abs q.request.start + k) c

-- the fields of a cell, and its flag, where the field f is the flag
abbrev pub fields_of : Program → List ℤ → ℕ → List ℤ
fields_of p g c = cell_of (length p.fields) g c

abbrev pub flag_at : ℕ → Program → List ℤ → ℕ → ℤ
flag_at f p g c = entry (fields_of p g c) f

-- the manners that do not begin from lent marks
abbrev pub Fresh : Manner → Type 0
Fresh full = Unit {0}
Fresh quiet = Unit {0}
Fresh pausing = Unit {0}
Fresh (resuming marks) = ⊥

-- ---- the claims

-- The steps of a run, where the field f is the flag.
pub record MovesOnce (f : ℕ) (p : Program) (q : Asked) : Type 0 where
  -- a cell's flag that is 1 where a step begins is 1 where every later one does
  pub stays : (k m : ℕ) → k ≤ m → (first_steps p q m).fault ≡ no_fault → (c : ℕ) → c < product q.request.sizes
      → flag_at f p (first_steps p q k).grid c ≡ pos 1 → flag_at f p (first_steps p q m).grid c ≡ pos 1
  -- no later step changes that cell, and it faults in none
  pub never_changes : (k m : ℕ) → k ≤ m → (first_steps p q m).fault ≡ no_fault → (c : ℕ) → c < product q.request.sizes
      → flag_at f p (first_steps p q k).grid c ≡ pos 1 → next_of p q m c ≡ result (fields_of p (first_steps p q m).grid c)
  -- after one completed step every flag is 1
  pub all_moved : (k : ℕ) → (first_steps p q (suc k)).fault ≡ no_fault → (c : ℕ) → c < product q.request.sizes → flag_at f p (first_steps p q (suc k)).grid c ≡ pos 1
  -- every later step completes, and changes nothing
  pub rests : (k : ℕ) → (first_steps p q (suc k)).fault ≡ no_fault → ((next_step p q (suc k)).fault ≡ no_fault) × ((next_step p q (suc k)).grid ≡ (first_steps p q (suc k)).grid)
  -- so that no fault follows a completed step
  pub no_faults : (first_steps p q 1).fault ≡ no_fault → (k : ℕ) → (first_steps p q (suc k)).fault ≡ no_fault
  -- and without a list the grid stays as the first step left it
  pub unlisted : q.values ≡ [] → (first_steps p q 1).fault ≡ no_fault → (k : ℕ) → (first_steps p q (suc k)).grid ≡ (first_steps p q 1).grid

-- The answer of a run that did a step: it has no fault and did all its steps, and every flag in the grid that it leaves is 1.
pub record Settled (f : ℕ) (p : Program) (q : Asked) (r : Report) : Type 0 where
  pub number : r.number ≡ 0
  pub steps : r.steps ≡ nat_abs q.request.steps
  pub flags : (c : ℕ) → c < product q.request.sizes → flag_at f p r.grid c ≡ pos 1

pub record Settles (f : ℕ) (p : Program) (q : Asked) (r : Report) : Type 0 where
  pub settled : 1 ≤ r.steps → Settled f p q r
