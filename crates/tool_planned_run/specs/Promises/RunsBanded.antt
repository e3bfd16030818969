-- What a run by bands of rows promises.
use Rattle.std.specs.Prelude.{◌≡◌, Bool, List, ℕ, ℤ}
use Rattle.token.specs.Lexeme.{built_in_names}
use Rattle.run_calls.specs.Calls.{Memory, flat_names, lent}
use Rattle.run_steps.specs.declared.Report.{Report}
use Rattle.run_steps.specs.Told.{told}
use Rattle.band_run.specs.BandedRun.{BandedLent, banded_lent, banded_left}

-- what is lent to a run under a plan, with the built-in list
abbrev pub lent_listed : List ℕ → List ℕ → Memory ℕ → List ℕ → ℤ → ℤ → Bool → ℕ → ℕ → List ℕ → List ℤ → BandedLent ℕ
lent_listed source sizes memory values start steps counted field held plan room =
    banded_lent (lent source built_in_names sizes memory values start steps counted field) held plan room

-- `run_under`: the report with the grid that is left, the marks and the row counts that are left are those of the definition
pub record RunsBanded (l : BandedLent ℕ) (r : Report) (grid' : List ℤ) (marks' counts' : List ℕ) : Type 0 where
  pub report : told r grid' ≡ (banded_left flat_names l).left.report
  pub marks_are : marks' ≡ (banded_left flat_names l).left.memory.marks
  pub counts_are : counts' ≡ (banded_left flat_names l).left.memory.counts
