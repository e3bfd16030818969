-- Property 3, as one claim over all steps of a run of a source: the quiet run skips cells, and still gives the full run's answer and grid.
-- That a quiet run gives the report `run_source quiet` is the contract of `run` (`RunLeaves`).
use mathlib.Core.Path.{◌≡◌, refl, sym, ◌∙◌, subst}
use mathlib.Core.Bool.{Bool, true, false}
use mathlib.Core.List.{List}
use mathlib.Core.Option.{Option}
use Prim.Native.Nat.{ℕ, ◌≤◌}
use native.Mathlib.Nat.{le_refl}
use lib.ListN.{length}
use lib.Dec.{eqb}
use lib.IntN.{ℤ, nat_abs}
use Rattle.automaton.specs.Step.{Fault, no_fault, fault_at, every_cell, Blocks, run_of}
use Rattle.automaton.proofs.Theorems.Quiet.{QuietAgrees, open_le_full}
use Rattle.automaton.proofs.Theorems.Going.{open_is_full}
use Rattle.automaton.specs.Grid.{automaton}
use Rattle.program.specs.Syntax.{Program}
use Rattle.grammar.specs.Source.{Accepted}
use Rattle.grammar.specs.Checking as checking
use Rattle.grammar.specs.Checking.{SourceRead, turned_away, accepted, read_source}
use Rattle.run_meaning.specs.Reach.{running}
use Rattle.run_meaning.specs.Report.{full, quiet, pausing, Report, ended}
use Rattle.run_meaning.proofs.Theorems.Covering as covering
use Rattle.move_meaning.specs.Profile.{profile_flag}
use Rattle.run_calls.specs.Running.{Asked, admitted, blocks, report_of, run}
use Rattle.run_calls.specs.Services.{run_read, run_source}
use Rattle.run_calls.proofs.Theorems.AcceptedSources.{accepted_flagged}
use Rattle.run_source.specs.Promises.Agreement.{Agree}

-- what property 3 says of a source and what is asked of a run
pub record Property3 (fit : Bool) (source : List ℕ) (q : Asked) : Type 0 where
  -- the reports of the definition
  pub agree : Agree (run_source quiet fit source q) (run_source full fit source q)
  -- a run that leaves its marks standing gives the quiet run's report
  pub paused : run_source pausing fit source q ≡ run_source quiet fit source q
  -- where `time` stands in the source, the counts are equal
  pub timed : (a : Accepted) → read_source fit source ≡ accepted a → a.program.timed ≡ true → (run_source quiet fit source q).count ≡ (run_source full fit source q).count
  -- the run that evaluates the open cells alone gives the run of the definition, and counts the definition's open cells, whatever blocks are set
  pub skips : (a : Accepted) → read_source fit source ≡ accepted a → length q.request.sizes ≡ a.program.dims → (block : Blocks (List ℤ)) (n t : ℕ)
      → QuietAgrees (running a.program q.request.sizes) block n t q.request.grid

-- a report agrees with itself
pub same : (r : Report) → Agree r r
same r = record { number = refl; place = refl; line = refl; cell = refl; steps = refl; grid = refl; count = le_refl r.count }

ended_agree : (f : Fault) (steps : ℕ) {c d : ℕ} (g : List ℤ) → c ≤ d → Agree (ended f steps c g) (ended f steps d g)
ended_agree no_fault steps g l = record { number = refl; place = refl; line = refl; cell = refl; steps = refl; grid = refl; count = l }
ended_agree (fault_at cell number place) steps g l = record { number = refl; place = refl; line = refl; cell = refl; steps = refl; grid = refl; count = l }

reports_agree : (p : Program) (q : Asked) → Agree (report_of quiet p q) (report_of full p q)
unfolding report_of
reports_agree p q =
    let r = run_of (running p q.request.sizes) (blocks p q) (nat_abs q.request.steps) (nat_abs q.request.start) q.request.grid in
    ended_agree r.fault r.steps r.grid (open_le_full (running p q.request.sizes) (blocks p q) (nat_abs q.request.steps) every_cell (nat_abs q.request.start) q.request.grid)

runs_agree : (p : Program) (flag : Option ℕ) (q : Asked) → Agree (run quiet p flag q) (run full p flag q)
unfolding run
runs_agree p flag q = by (eqb (admitted p flag q).number 0) refl
  where
    by : (b : Bool) → eqb (admitted p flag q).number 0 ≡ b → Agree (run quiet p flag q) (run full p flag q)
    by true e = rw (e, run) (reports_agree p q)
    by false e = rw (e, run) (same _)

outcomes_agree : (source : List ℕ) (q : Asked) (o : SourceRead) → Agree (run_read quiet source q o) (run_read full source q o)
outcomes_agree source q (turned_away number place) = same _
outcomes_agree source q (checking.refused number place) = same _
outcomes_agree source q (accepted a) = runs_agree a.program (profile_flag source a) q

-- ---- a run that leaves its marks standing

reports_paused : (p : Program) (q : Asked) → report_of pausing p q ≡ report_of quiet p q
unfolding report_of
reports_paused p q = refl

runs_paused : (p : Program) (flag : Option ℕ) (q : Asked) → run pausing p flag q ≡ run quiet p flag q
unfolding run
runs_paused p flag q = by (eqb (admitted p flag q).number 0) refl
  where
    by : (b : Bool) → eqb (admitted p flag q).number 0 ≡ b → run pausing p flag q ≡ run quiet p flag q
    by true e = rw (e, run) (reports_paused p q)
    by false e = rw (e, run)

outcomes_paused : (source : List ℕ) (q : Asked) (o : SourceRead) → run_read pausing source q o ≡ run_read quiet source q o
outcomes_paused source q (turned_away number place) = refl
outcomes_paused source q (checking.refused number place) = refl
outcomes_paused source q (accepted a) = runs_paused a.program (profile_flag source a) q

-- ---- where `time` stands in the source

ended_count : (f : Fault) (steps c : ℕ) (g : List ℤ) → (ended f steps c g).count ≡ c
ended_count no_fault steps c g = refl
ended_count (fault_at cell number place) steps c g = refl

reports_count : (p : Program) (q : Asked) → p.timed ≡ true → (report_of quiet p q).count ≡ (report_of full p q).count
unfolding report_of running automaton
reports_count p q e =
    let r = run_of (running p q.request.sizes) (blocks p q) (nat_abs q.request.steps) (nat_abs q.request.start) q.request.grid in
    ended_count r.fault r.steps _ r.grid ∙ open_is_full (running p q.request.sizes) e (blocks p q) (nat_abs q.request.steps) every_cell (nat_abs q.request.start) q.request.grid
    ∙ sym (ended_count r.fault r.steps _ r.grid)

runs_count : (p : Program) (flag : Option ℕ) (q : Asked) → p.timed ≡ true → (run quiet p flag q).count ≡ (run full p flag q).count
unfolding run
runs_count p flag q e = by (eqb (admitted p flag q).number 0) refl
  where
    by : (b : Bool) → eqb (admitted p flag q).number 0 ≡ b → (run quiet p flag q).count ≡ (run full p flag q).count
    by true h = rw (h, run) (reports_count p q e)
    by false h = rw (h, run)

-- Property 3 holds of every source and every run that is asked of it.
pub property_3 : (fit : Bool) (source : List ℕ) (q : Asked) → Property3 fit source q
unfolding run_source
property_3 fit source q =
    record {
      agree = outcomes_agree source q (read_source fit source);
      paused = outcomes_paused source q (read_source fit source);
      timed = λ a e t. rw e (runs_count a.program (profile_flag source a) q t);
      skips = λ a e dims block n t.
          covering.property_3 a.program q.request.sizes dims (accepted_flagged fit source a e) block n t q.request.grid;
    }

-- So a run that leaves its marks standing agrees with the full run.
pub paused_agrees : (fit : Bool) (source : List ℕ) (q : Asked) → Agree (run_source pausing fit source q) (run_source full fit source q)
paused_agrees fit source q =
    let p = property_3 fit source q in
    subst (λ (r : Report). Agree r (run_source full fit source q)) (sym p.paused) p.agree
