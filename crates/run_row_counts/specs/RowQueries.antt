-- What is asked of the row counts alone: how many in some rows, and the first row with one. The counts are those of `Rows`, of the automaton.
use Rattle.std.specs.Prelude.{Bool, ◌&&◌, List, ℕ, suc, ◌-◌, length, ltb, leb, if◌then◌else◌}
use Rattle.std.proofs.Math.Option.{Option, none, some}
use Rattle.value.specs.Limits.{most_along}
use Rattle.automaton.specs.Rows.{in_rows, first_row}

-- What a query returns: the reply's number, and what was asked, or 0.
abbrev pub RowReply : Type 0
RowReply = record { number : ℕ; value : ℕ }

abbrev pub row_reply : ℕ → ℕ → RowReply
row_reply number value = record { number = number; value = value }

-- The counts are not one a row, or the rows are reversed or outside.
abbrev pub counts_refused : RowReply
counts_refused = row_reply 61 0

-- Whether so many counts can be one for each row of a grid.
unfoldable pub one_a_row : ℕ → Bool
one_a_row counts = ltb 0 counts && leb counts most_along

-- Whether the rows a to b, both included, are rows of a grid with so many counts.
unfoldable pub rows_within : ℕ → ℕ → ℕ → Bool
rows_within counts a b = one_a_row counts && leb a b && ltb b counts

-- How many in the rows a to b.
unfoldable pub rows_asked : List ℕ → ℕ → ℕ → RowReply
rows_asked counts a b = if rows_within (length counts) a b then row_reply 0 (in_rows counts a (suc b - a)) else counts_refused

-- The reply with a row, or 62 where there is none.
abbrev pub row_found : Option ℕ → RowReply
row_found none = row_reply 62 0
row_found (some r) = row_reply 0 r

-- The first row with one.
unfoldable pub row_asked : List ℕ → RowReply
row_asked counts = if one_a_row (length counts) then row_found (first_row counts) else counts_refused
