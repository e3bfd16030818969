-- What property 2 says of the ranges: each field of the grid that a run of a source leaves lies in its declared range, at a fault too.
use Rattle.std.specs.Prelude.{◌≡◌, true, List, ℕ, ◌%◌, ◌<◌, length, get_or, ℤ}
use Rattle.program.specs.Syntax.{no_range}
use Rattle.grammar.specs.Source.{Accepted}
use Rattle.grammar.specs.Checking.{SourceRead, accepted}
use Rattle.cell_meaning.specs.Evaluation.{entry, in_field}
use Rattle.run_meaning.specs.Admission.{on_grid}
use Rattle.run_calls.specs.Running.{Asked, ask}
use Rattle.run_calls.specs.Services.{run_begins}

-- The grid that a run leaves, by the source, what is read of it and what is asked of the run.
pub record RangesKept (source : List ℕ) (read : SourceRead) (q : Asked) (left : List ℤ) : Type 0 where
  -- there are as many entries as before
  pub entries : length left ≡ length q.request.grid
  -- after a run that began, each entry is in the range that is declared for its field
  pub within : (a : Accepted) → read ≡ accepted a → run_begins source q read ≡ true → (e : ℕ) → e < length left
      → in_field (get_or a.program.fields (e % length a.program.fields) no_range) (entry left e) ≡ true
  -- a run on the grid left would begin if this one did, and not otherwise
  pub again : run_begins source (ask (on_grid q.request left) q.values q.counts) read ≡ run_begins source q read
