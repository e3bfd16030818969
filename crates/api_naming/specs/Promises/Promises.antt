-- What the calls on a row of records by value promise.
use Rattle.std.specs.Prelude.{◌≡◌, Bool, List, ℕ, get_or}
use Rattle.program.specs.Refusal.{refusal}
use Rattle.grammar.specs.Checking.{check, words_after}
use Rattle.read_source.specs.declared.checking.Reply.{Reply}
use Rattle.api_records.specs.declared.Name.{Name}
use Rattle.api_records.specs.Rows.{no_name, FindsField}

-- a check: the reply, and the words of the table; `fit` says whether what is lent beside the source fits
pub record ChecksNamed (fit : Bool) (source ws : List ℕ) (r : Reply) (ws' : List ℕ) : Type 0 where
  pub reply : refusal r.number r.place ≡ check fit source
  pub words : ws' ≡ words_after fit source ws

-- the record of the field that has a number, the zero record if there is none
pub record NamesField (rows : List Name) (number : ℕ) (r : Name) : Type 0 where
  pub slot : ℕ
  pub finds : FindsField rows number slot
  pub is : r ≡ get_or rows slot no_name
