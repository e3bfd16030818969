-- What a run promises, whose word table and name list are of the right length.
use Rattle.std.specs.Prelude.{◌≡◌, ℕ, Bool, true, List, length, ℤ}
use Rattle.run_meaning.specs.Report.{Manner}
use Rattle.run_calls.specs.Running.{counts_of, Asked, ask}
use Rattle.run_calls.specs.Services.{run_source, marks_after, counts_after}
use Rattle.run_admission.specs.Promises.Admitting.{request_of}
use Rattle.run_steps.specs.declared.Report.{Report}
use Rattle.run_steps.specs.Told.{told}

-- what is asked of a run
abbrev pub asked_of : List ℕ → List ℤ → ℕ → ℕ → List ℕ → ℤ → ℤ → Bool → ℕ → ℕ → Asked
asked_of sizes grid scratch marks values start steps counted field rows = ask (request_of sizes grid scratch marks start steps) values (counts_of counted field rows)

-- the report with the grid that is left, the marks and the row counts that are left are those of the definition; the manner of a resumed run has the marks
-- that are lent
pub record RunsRule (manner : Manner) (source sizes : List ℕ) (grid : List ℤ) (scratch : ℕ) (marks values : List ℕ) (start steps : ℤ) (counted : Bool) (field : ℕ) (counts : List ℕ) (r : Report) (grid' : List ℤ) (marks' counts' : List ℕ) : Type 0 where
  pub report : told r grid' ≡ run_source manner true source (asked_of sizes grid scratch (length marks) values start steps counted field (length counts))
  pub marks_are : marks' ≡ marks_after manner true source (asked_of sizes grid scratch (length marks) values start steps counted field (length counts)) marks
  pub counts_are : counts' ≡ counts_after manner true source (asked_of sizes grid scratch (length marks) values start steps counted field (length counts)) counts
