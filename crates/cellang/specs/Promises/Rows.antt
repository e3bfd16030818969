-- What the public calls over a row of records promise.
use Rattle.std.specs.Prelude.{◌≡◌, List, ℕ}
use Rattle.run_calls.specs.Calls.{SourceLeft}
use Rattle.api_records.specs.declared.Name.{Name}

-- the answer, the words of the table and the row of records that a call leaves are those of the definition
pub record LeavesRows {A : Type 0} (left : SourceLeft Name A) (answer : A) (ws' : List ℕ) (ns' : List Name) : Type 0 where
  pub is : record { answer = answer; words = ws'; names = ns' } ≡ left
