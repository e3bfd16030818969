-- The report of a run whose word table, row of records and built-in list are right, and the marks and row counts that it leaves.
use Rattle.std.proofs.Common.{◌≡◌, ℕ, Bool, true, ◌&&◌, List, length, ℤ, refl, ap, ◌∙◌, ap₂, w64, SFits, to_z, of_z}
use Rattle.token.specs.Lexeme.{is_built_in, built_in_names}
use Rattle.run_meaning.specs.Report.{Manner}
use Rattle.run_calls.specs.Running.{Asked}
use Rattle.run_calls.specs.Services.{run_source, marks_after, counts_after}
use Rattle.run_calls.specs.Calls.{NameForm, Memory, memory, Lent, lent, fits, asked, run_left}
use Rattle.run_steps.specs.declared.Report.{Report}
use Rattle.run_source.specs.Promises.Public.{RunLeaves}
use Rattle.run_source.proofs.RunLaws.{left_report, the_list, read_times}
use Rattle.api_records.specs.declared.Name.{Name}
use Rattle.cellang.specs.Left.{rows_fit, row_names}
use Rattle.run_rule.specs.Promises.Runs.{asked_of, RunsRule}

fit : {words names : ℕ} → 16384 ≡ words → 256 ≡ names → rows_fit words names ≡ true
unfolding rows_fit
fit w n = rw (← w, ← n) refl

left_marks : {N : Type 0} {form : NameForm N} {manner : Manner} {l : Lent N} {said : Report} {m : Memory N} → RunLeaves form manner l said m
    → m.marks ≡ marks_after manner (fits form l) l.source (asked l) l.memory.marks
unfolding run_left
left_marks h = ap (λ x. x.memory.marks) h.is

left_counts : {N : Type 0} {form : NameForm N} {manner : Manner} {l : Lent N} {said : Report} {m : Memory N} → RunLeaves form manner l said m
    → m.counts ≡ counts_after manner (fits form l) l.source (asked l) l.memory.counts
unfolding run_left
left_counts h = ap (λ x. x.memory.counts) h.is

-- the times as the machine reads them
pub runs_of : {manner : Manner} {source ws : List ℕ} {ns : List Name} {sizes : List ℕ} {grid scratch : List ℤ} {marks values : List ℕ} {start steps : ℤ} {counted : Bool} {field : ℕ} {counts : List ℕ} {r : Report} {left : Memory Name}
    → 16384 ≡ length ws → 256 ≡ length ns → SFits w64 start → SFits w64 steps
    → RunLeaves row_names manner (lent source built_in_names sizes (memory ws ns grid scratch marks counts) values (to_z w64 (of_z w64 start)) (to_z w64 (of_z w64 steps)) counted field) r left
    → RunsRule manner source sizes grid (length scratch) marks values start steps counted field counts r left.grid left.marks left.counts
runs_of {manner} {source} {ws} {ns} {sizes} {grid} {scratch} {marks} {values} {start} {steps} {counted} {field} {counts} w n h k leaves =
    let run = read_times h k leaves in
    let q : Asked = asked_of sizes grid (length scratch) (length marks) values start steps counted field (length counts) in
    let right : is_built_in built_in_names && rows_fit (length ws) (length ns) ≡ true = ap₂ (λ (a b : Bool). a && b) the_list (fit w n) in
    record {
      report = left_report run ∙ ap (λ (fits : Bool). run_source manner fits source q) right;
      marks_are = left_marks run ∙ ap (λ (fits : Bool). marks_after manner fits source q marks) right;
      counts_are = left_counts run ∙ ap (λ (fits : Bool). counts_after manner fits source q counts) right;
    }
