-- What the run promises: it leaves `run_left` of what it is lent (`Calls` in `run_calls`).
use Rattle.std.specs.Prelude.{◌≡◌, Bool, true, false, List, ℕ}
use Rattle.run_meaning.specs.Report.{Manner, full, quiet, pausing, resuming}
use Rattle.run_calls.specs.Calls.{NameForm, Memory, Lent, run_left}
use Rattle.run_steps.specs.declared.Report.{Report}
use Rattle.run_steps.specs.declared.Manner.{Manner as Way}
use Rattle.run_steps.specs.declared.Manner.TheVariants.{Full, Quiet, Pausing, Resuming}
use Rattle.run_steps.specs.Told.{told}

-- the manner of a run that is lent these marks
abbrev pub manner_of : Way → List ℕ → Manner
manner_of Full marks = full
manner_of Quiet marks = quiet
manner_of Pausing marks = pausing
manner_of Resuming marks = resuming marks

-- whether a run begins from the marks that it is lent
abbrev pub is_resumed : Way → Bool
is_resumed Full = false
is_resumed Quiet = false
is_resumed Pausing = false
is_resumed Resuming = true

-- the numbers that a run returns, and the memory that it leaves, are those of the definition
pub record RunLeaves {N : Type 0} (form : NameForm N) (manner : Manner) (l : Lent N) (r : Report) (m : Memory N) : Type 0 where
  pub is : record { report = told r m.grid; memory = m } ≡ run_left form manner l
