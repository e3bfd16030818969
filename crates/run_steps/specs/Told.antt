-- The report of a run as code gives it.
use Rattle.std.specs.Prelude.{List, ℤ}
use Rattle.run_meaning.specs.Report as report
use Rattle.run_steps.specs.declared.Report.{Report}

-- the report that a run gives, with the grid that it leaves
abbrev pub told : Report → List ℤ → report.Report
told r grid = record { number = r.number; place = r.place; line = r.line; cell = r.cell; steps = r.steps; count = r.count; grid = grid }
