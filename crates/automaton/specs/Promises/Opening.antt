-- The cells that a change of a cell opens.
use Rattle.std.specs.Prelude.{ℕ, List, map, ℤ, neg_ℤ}
use Rattle.automaton.specs.Shape.{neighbour}

-- The cells that a change of the cell x opens: those at the given relative indices, negated, from it.
unfoldable pub opens_of : List ℕ → List (List ℤ) → ℕ → List ℕ
opens_of ns dss x = map (λ ds. neighbour ns x (map neg_ℤ ds)) dss
