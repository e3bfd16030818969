-- Whether a row of records has room, and how many records are stored in it.
use Rattle.std.specs.Prelude.{Bool, not, ◌&&◌, List, ℕ, eqb, ltb, if◌then◌else◌}
use Rattle.value.specs.Limits.{most_bytes, table_words, most_names}
use Rattle.token.specs.Lexeme.{is_built_in}
use Rattle.cellang.specs.Left.{rows_fit}

-- the word table and the row of records are of the right length, and the list that is lent beside the source is the built-in list
abbrev pub lent_rows_fit : List ℕ → ℕ → ℕ → Bool
lent_rows_fit list words names = is_built_in list && rows_fit words names

-- the built-in list, and room for every record
unfoldable pub row_fits : List ℕ → ℕ → Bool
row_fits list names = is_built_in list && eqb names most_names

-- how many records are stored, where there is room for all: none if the source is turned away before it is read
unfoldable pub stored_of : ℕ → ℕ → ℕ
stored_of source words = if eqb words table_words && not (ltb most_bytes source) then most_names else 0
