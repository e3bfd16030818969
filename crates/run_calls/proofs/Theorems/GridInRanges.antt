-- Property 2, the ranges: each field of the grid that a run of a source leaves lies in its declared range, at a fault too.
use mathlib.Core.Path.{◌≡◌, refl, sym, ap, ◌∙◌, subst}
use mathlib.Core.Bool.{Bool, true, false}
use mathlib.Core.List.{List}
use mathlib.Core.Option.{Option}
use Prim.Native.Nat.{ℕ, ◌%◌}
use lib.ListN.{length, get_or}
use lib.Dec.{eqb}
use lib.IntN.{ℤ, nat_abs}
use borrow.Author.Tests.{eqb-true, eqb-false, eq-eqb}
use Rattle.value.proofs.Theorems.Laws.{never}
use Rattle.automaton.specs.Step.{Fault, no_fault, fault_at, Blocks, marked}
use Rattle.program.specs.Syntax.{no_range, Program}
use Rattle.grammar.specs.Source.{Accepted}
use Rattle.grammar.specs.Checking as checking
use Rattle.grammar.specs.Checking.{SourceRead, turned_away, accepted, read_source}
use Rattle.move_meaning.specs.Profile.{profile_flag}
use Rattle.cell_meaning.specs.Evaluation.{entry, in_field}
use Rattle.run_meaning.specs.Reach.{running}
use Rattle.run_meaning.specs.Report as report
use Rattle.run_meaning.specs.Report.{Manner, full, quiet, pausing, resuming, run_by, ended}
use Rattle.run_meaning.proofs.Theorems.Ranges.{FieldsInRange, entry_in_range, run_keeps, quiet_run_keeps, admitted_dims, admitted_in_range, admitted_on}
use Rattle.run_meaning.specs.Admission.{on_grid}
use Rattle.list_meaning.specs.ListChecking.{limits_of}
use Rattle.list_meaning.proofs.Theorems.Kept.{set_block_keeps}
use Rattle.run_calls.specs.Running.{Asked, ask, admitted, blocks, report_of, run}
use Rattle.run_calls.proofs.Theorems.RunningLaws.{request_admitted, counts_admitted, list_passes, all_admit, run_admitted, run_refused}
use Rattle.run_calls.specs.Services.{run_read, run_source, run_begins}
use Rattle.run_calls.specs.RangesKept.{RangesKept}

-- a run that did not begin leaves the grid as it was
unbegun : (source : List ℕ) (read : SourceRead) (q : Asked) → run_begins source q read ≡ false → RangesKept source read q q.request.grid
unbegun source read q e = record { entries = refl; within = λ a r b. never (sym e ∙ b); again = refl }

-- steps in any manner, with blocks that keep the ranges, keep them
run_by_keeps : (manner : Manner) (p : Program) (sizes : List ℕ) → length sizes ≡ p.dims → (block : Blocks (List ℤ)) → ((t : ℕ) (g : List ℤ) → FieldsInRange p sizes g → FieldsInRange p sizes (block t g))
    → (n t : ℕ) (g : List ℤ) → FieldsInRange p sizes g → FieldsInRange p sizes (run_by manner (running p sizes) block n t g).grid
run_by_keeps full p sizes dims block kept = run_keeps p sizes dims block kept
run_by_keeps quiet p sizes dims block kept = run_keeps p sizes dims block kept
run_by_keeps pausing p sizes dims block kept = run_keeps p sizes dims block kept
run_by_keeps (resuming marks) p sizes dims block kept = quiet_run_keeps p sizes dims block kept (marked marks)

-- every entry of the grid that an admitted run leaves is in its field's range
report_in_range : (manner : Manner) (p : Program) (flag : Option ℕ) (q : Asked) → (admitted p flag q).number ≡ 0 → FieldsInRange p q.request.sizes (report_of manner p q).grid
unfolding report_of
report_in_range manner p flag q e =
    let sizes = q.request.sizes in
    let passed = request_admitted p flag q e in
    let r = run_by manner (running p sizes) (blocks p q) (nat_abs q.request.steps) (nat_abs q.request.start) q.request.grid in
    subst (FieldsInRange p sizes) (sym (ended_grid r.fault r.steps _ r.grid))
    (run_by_keeps manner p sizes (admitted_dims p q.request passed) (blocks p q) (set_block_keeps p sizes (limits_of p flag q.request) refl refl q.values (list_passes p flag q e))
    (nat_abs q.request.steps) (nat_abs q.request.start) q.request.grid (admitted_in_range p q.request passed))
  where
    ended_grid : (f : Fault) (steps count : ℕ) (g : List ℤ) → (ended f steps count g).grid ≡ g
    ended_grid no_fault steps count g = refl
    ended_grid (fault_at cell number place) steps count g = refl

run_kept : (manner : Manner) (source : List ℕ) (a : Accepted) (q : Asked) → RangesKept source (accepted a) q (run manner a.program (profile_flag source a) q).grid
run_kept manner source a q = by (eqb (admitted a.program flag q).number 0) refl
  where
    flag : Option ℕ
    flag = profile_flag source a

    grid_of : {x y : report.Report} → x ≡ y → x.grid ≡ y.grid
    grid_of e = ap (λ (r : report.Report). r.grid) e

    by : (b : Bool) → eqb (admitted a.program flag q).number 0 ≡ b → RangesKept source (accepted a) q (run manner a.program flag q).grid
    by false e = subst (RangesKept source (accepted a) q) (sym (grid_of (run_refused a.program flag q manner (eqb-false _ 0 e)))) (unbegun source (accepted a) q e)
    by true e =
        let began = eqb-true (admitted a.program flag q).number 0 e in
        let passed = request_admitted a.program flag q began in
        let left = subst (FieldsInRange a.program q.request.sizes) (sym (grid_of (run_admitted a.program flag q manner began))) (report_in_range manner a.program flag q began) in
        record {
          entries = left.entries ∙ sym (admitted_in_range a.program q.request passed).entries;
          within = λ a' r b k l. subst (λ (p : Program). in_field (get_or p.fields (k % length p.fields) no_range) (entry (run manner a.program flag q).grid k) ≡ true) (same r) (entry_in_range left k l);
          again = eq-eqb _ 0 (all_admit a.program flag (ask (on_grid q.request _) q.values q.counts) (admitted_on a.program q.request passed _ left) (counts_admitted a.program flag q began) (list_passes a.program flag q began)) ∙ sym e;
        }
      where
        same : {a' : Accepted} → accepted a ≡ accepted a' → a.program ≡ a'.program
        same r = cc

read_kept : (manner : Manner) (source : List ℕ) (read : SourceRead) (q : Asked) → RangesKept source read q (run_read manner source q read).grid
read_kept manner source (turned_away number place) q = unbegun source _ q refl
read_kept manner source (checking.refused number place) q = unbegun source _ q refl
read_kept manner source (accepted a) q = run_kept manner source a q

-- It holds of every run of every source, in any manner.
pub grid_in_ranges : (manner : Manner) (fit : Bool) (source : List ℕ) (q : Asked) → RangesKept source (read_source fit source) q (run_source manner fit source q).grid
unfolding run_source
grid_in_ranges manner fit source q = read_kept manner source (read_source fit source) q
