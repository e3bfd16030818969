-- What row counts answer, taken from the whole grid.
use Rattle.std.specs.Prelude.{ℕ, zero, suc, ◌+◌, ◌*◌, Bool, false, ◌||◌}
use Rattle.std.proofs.Math.Option.{Option}
use Rattle.automaton.specs.Step.{how_many}
use Rattle.automaton.specs.Rows.{lowest}

-- How many of the cells in k rows of q cells, from the row a on, pass a test.
unfoldable pub cells_in_rows : (ℕ → Bool) → ℕ → ℕ → ℕ → ℕ
cells_in_rows p q a k = how_many (λ i. p (a * q + i)) (k * q)

-- Whether some number below n passes a test.
unfoldable pub some_below : (ℕ → Bool) → ℕ → Bool
some_below p zero = false
some_below p (suc n) = some_below p n || p n

-- The first of n rows of q cells that has a cell which passes a test.
unfoldable pub first_row_with : (ℕ → Bool) → ℕ → ℕ → Option ℕ
first_row_with p n q = lowest (λ r. some_below (λ j. p (r * q + j)) q) n
