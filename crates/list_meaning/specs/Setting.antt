-- Setting a block: what the lines of a list do to a grid at their time.
use Rattle.std.specs.Prelude.{Bool, true, false, List, [], ◌∷◌, ℕ, suc, ◌*◌, set, eqb, ℤ}
use Rattle.std.proofs.Math.Option.{Option, some, none}
use Rattle.automaton.specs.Shape as shape
use Rattle.list_meaning.specs.Lines.{Said, bad, time, cell, said}

-- the grid with values stored from an entry on; a missing one leaves its entry
unfoldable pub store_values : List ℤ → ℕ → List (Option ℤ) → List ℤ
store_values g e [] = g
store_values g e (none ∷ vs) = store_values g (suc e) vs
store_values g e (some z ∷ vs) = store_values (set g e z) (suc e) vs

-- the grid after lines are set in order, on cells of so many fields: those of the block with time t. `within` says whether the lines at
-- the head are of that block
unfoldable pub set_lines : List ℕ → ℕ → ℕ → Bool → List ℤ → List Said → List ℤ
set_lines sizes fields t within g [] = g
set_lines sizes fields t within g (bad ∷ ss) = set_lines sizes fields t within g ss
set_lines sizes fields t within g (time u ∷ ss) = set_lines sizes fields t (eqb u t) g ss
set_lines sizes fields t within g (cell is vs ∷ ss) =
    elim within [
      | true ↦ set_lines sizes fields t true (store_values g (shape.cell_number sizes is * fields) vs) ss
      | false ↦ set_lines sizes fields t false g ss
    ]

-- the grid after the block of the time t is set; the grid itself where the list has no such block
unfoldable pub set_block : List ℕ → ℕ → List ℕ → ℕ → List ℤ → List ℤ
set_block sizes fields text t g = set_lines sizes fields t false g (said text)
