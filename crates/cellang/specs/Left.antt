-- The row of records as a form of the name list (`NameForm`).
use Rattle.std.specs.Prelude.{Bool, ◌&&◌, ℕ, eqb}
use Rattle.value.specs.Limits.{table_words, most_names}
use Rattle.run_calls.specs.Calls.{NameForm}
use Rattle.api_records.specs.declared.Name.{Name}
use Rattle.api_records.specs.Rows.{no_name, rows_of}

-- the word table and the row of records are of the right length
unfoldable pub rows_fit : ℕ → ℕ → Bool
rows_fit words names = eqb words table_words && eqb names most_names

-- the name list as a row of records
abbrev pub row_names : NameForm Name
row_names = record { fit = rows_fit; none = no_name; entries = rows_of }
