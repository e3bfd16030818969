-- What is asked of a grid's row counts is what the whole grid tells.
use Prim.Native.Nat.{ℕ, suc, ◌-◌, ◌<◌, ◌≤◌}
use native.Mathlib.Omega.{arith}
use mathlib.Core.Path.{◌≡◌, sym, ap, ◌∙◌}
use mathlib.Core.Bool.{true}
use mathlib.Core.List.{List, ◌∷◌}
use lib.ListN.{length}
use lib.IntN.{ℤ}
use borrow.Author.Tests.{lt-ltb, le-leb}
use Rattle.automaton.specs.Promises.ListedLaws.{length_list_of}
use Rattle.automaton.specs.Shape.{product}
use Rattle.automaton.specs.Rows.{has_zero, counts_by, row_counts, in_rows, first_row}
use Rattle.automaton.specs.Promises.RowsOfGrid.{cells_in_rows, first_row_with}
use Rattle.automaton.proofs.Theorems.RowLaws.{in_rows_is, first_row_is}
use Rattle.run_row_counts.specs.RowQueries.{row_reply, one_a_row, rows_within, rows_asked, row_found, row_asked}
use Rattle.run_row_counts.proofs.QueryLaws.{rows_answered, row_answered}

module _ (n : ℕ) (ns : List ℕ) (fields field : ℕ) (g : List ℤ) (counts : List ℕ) (are : counts ≡ row_counts (n ∷ ns) fields field g) (few : n ≤ 4096) where
  -- as many counts as rows
  length_is : length counts ≡ n
  unfolding counts_by
  length_is = ap length are ∙ length_list_of _ n

  one_each : 0 < n → one_a_row (length counts) ≡ true
  unfolding one_a_row
  one_each l = rw (length_is, lt-ltb 0 n l, le-leb n 4096 few)

  within : (a b : ℕ) → a ≤ b → b < n → rows_within (length counts) a b ≡ true
  unfolding rows_within
  within a b l m = rw (one_each (omega arith), le-leb a b l, length_is, lt-ltb b n m)

  -- How many in the rows a to b.
  pub rows_asked_is : (a b : ℕ) → a ≤ b → b < n → rows_asked counts a b ≡ row_reply 0 (cells_in_rows (has_zero fields field g) (product ns) a (suc b - a))
  rows_asked_is a b l m =
      sym (rows_answered counts a b (within a b l m))
      ∙ ap (row_reply 0) (ap (λ (cs : List ℕ). in_rows cs a (suc b - a)) are ∙ in_rows_is (has_zero fields field g) n (product ns) a (suc b - a) (omega arith))

  -- The first row with one: 0 and the row, or 62 and 0 where there is none.
  pub row_asked_is : 0 < n → row_asked counts ≡ row_found (first_row_with (has_zero fields field g) n (product ns))
  row_asked_is l = sym (row_answered counts (one_each l) _ (ap first_row are ∙ first_row_is (has_zero fields field g) n (product ns)))
