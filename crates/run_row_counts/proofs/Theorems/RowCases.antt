-- Worked examples: row counts of grids and what is asked of them, as one list with one claim.
use mathlib.Core.Path.{◌≡◌, refl}
use mathlib.Core.List.{List, [], ◌∷◌, map}
use Prim.Native.Nat.{ℕ}
use lib.ListN.{replicate}
use lib.IntN.{pos}
use Rattle.automaton.specs.Listed.{list_of}
use Rattle.automaton.specs.Step.{how_many}
use Rattle.automaton.specs.Rows.{has_zero, counts_by, row_counts, in_rows, lowest, first_row}
use Rattle.run_row_counts.specs.RowQueries.{RowReply, one_a_row, rows_within, rows_asked, row_asked}

-- what is asked: the counts of a grid, by its sizes, the number of fields and a field; how many in some rows; the first row with one
data Question : Type 0 where
  counts_of : (sizes : List ℕ) (fields field : ℕ) (grid : List ℕ) → Question
  from_to : (counts : List ℕ) (a b : ℕ) → Question
  first_of : (counts : List ℕ) → Question

abbrev flat : RowReply → List ℕ
flat r = r.number ∷ r.value ∷ []

-- the counts, or number and value of the reply
abbrev answer : Question → List ℕ
answer (counts_of sizes fields field grid) = row_counts sizes fields field (map pos grid)
answer (from_to counts a b) = flat (rows_asked counts a b)
answer (first_of counts) = flat (row_asked counts)

record Case : Type 0 where
  question : Question
  expected : List ℕ

infix 2 ◌is◌
abbrev ◌is◌ : Question → List ℕ → Case
q is e = record { question = q; expected = e }

-- five rows of two cells
abbrev five_by_two : List ℕ
five_by_two = 0 ∷ 0 ∷ 1 ∷ 1 ∷ 0 ∷ 1 ∷ 1 ∷ 0 ∷ 1 ∷ 1 ∷ []

-- its counts
abbrev five : List ℕ
five = 2 ∷ 0 ∷ 1 ∷ 1 ∷ 0 ∷ []

cases : List Case
cases =
    -- rows of one cell
    (counts_of (5 ∷ []) 1 0 (1 ∷ 0 ∷ 0 ∷ 0 ∷ 0 ∷ []) is 0 ∷ 1 ∷ 1 ∷ 1 ∷ 1 ∷ [])
    ∷ (counts_of (5 ∷ []) 1 0 (0 ∷ 0 ∷ 1 ∷ 0 ∷ 0 ∷ []) is 1 ∷ 1 ∷ 0 ∷ 1 ∷ 1 ∷ [])
    ∷ (counts_of (3 ∷ []) 1 0 (1 ∷ 3 ∷ 2 ∷ []) is 0 ∷ 0 ∷ 0 ∷ [])
    ∷ (counts_of (3 ∷ []) 1 0 (0 ∷ 3 ∷ 2 ∷ []) is 1 ∷ 0 ∷ 0 ∷ [])
    -- rows of two cells; the second of two fields
    ∷ (counts_of (5 ∷ 2 ∷ []) 1 0 five_by_two is five)
    ∷ (counts_of (2 ∷ 2 ∷ []) 2 1 (0 ∷ 1 ∷ 1 ∷ 0 ∷ 0 ∷ 0 ∷ 1 ∷ 0 ∷ []) is 1 ∷ 2 ∷ [])
    -- how many in some rows; rows reversed, and outside
    ∷ (from_to five 1 3 is 0 ∷ 2 ∷ [])
    ∷ (from_to five 0 4 is 0 ∷ 4 ∷ [])
    ∷ (from_to five 3 1 is 61 ∷ 0 ∷ [])
    ∷ (from_to five 0 5 is 61 ∷ 0 ∷ [])
    -- the first row with one; none; no counts, and too many
    ∷ (first_of five is 0 ∷ 0 ∷ [])
    ∷ (first_of (0 ∷ 0 ∷ 1 ∷ 1 ∷ 0 ∷ []) is 0 ∷ 2 ∷ [])
    ∷ (first_of (0 ∷ 0 ∷ []) is 62 ∷ 0 ∷ [])
    ∷ (first_of [] is 61 ∷ 0 ∷ [])
    ∷ (first_of (replicate 4097 1) is 61 ∷ 0 ∷ [])
    ∷ []

cases_hold : map (λ (c : Case). answer c.question) cases ≡ map (λ (c : Case). c.expected) cases
unfolding cases list_of how_many has_zero counts_by in_rows lowest first_row one_a_row rows_within rows_asked row_asked
cases_hold = refl
