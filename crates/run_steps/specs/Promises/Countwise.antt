-- What keeping row counts in a run promises.
use Rattle.std.specs.Prelude.{◌≡◌, Bool, true, false, List, ℕ, ◌<◌, get_or, ℤ}
use Rattle.automaton.specs.Rows.{row_counts}
use Rattle.program.specs.Syntax.{Program}
use Rattle.program.specs.declared.Rule.{Rule}
use Rattle.run_meaning.specs.declared.Reach.{Reach}
use Rattle.run_steps.specs.Promises.Stepwise.{Runs}

-- what is asked of a run that keeps counts: a field that there is, and one count a row
pub record CountsFit (counted : Bool) (fields : ℕ) (sizes : List ℕ) (field rows : ℕ) : Type 0 where
  pub a_field : counted ≡ true → field < fields
  pub rows_are : counted ≡ true → rows ≡ get_or sizes 0 0

-- where it is asked for, the counts are those of the grid; else they stay
pub record CountsFilled (asked : Bool) (sizes : List ℕ) (fields field : ℕ) (grid : List ℤ) (counts counts' : List ℕ) : Type 0 where
  pub fills : asked ≡ true → counts' ≡ row_counts sizes fields field grid
  pub stays : asked ≡ false → counts' ≡ counts

-- the same behind a run, of whatever program stands in the table
pub record Tallied (words : List ℕ) (rule : Rule) (sizes : List ℕ) (r : Reach) (all_open counted : Bool) (field : ℕ) (grid : List ℤ) (counts counts' : List ℕ) : Type 0 where
  pub tells : (p : Program) → Runs words rule r all_open p → CountsFilled counted sizes rule.fields field grid counts counts'
