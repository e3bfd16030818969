-- The border rows of a program: how far its reach goes in the first dimension.
use Rattle.std.specs.Prelude.{List, [], ◌∷◌, ℤ, pos}
use Rattle.automaton.specs.Shape.{Bound}
use Rattle.program.specs.Syntax.{range, Program}
use Rattle.run_meaning.specs.Reach.{own_only, widen, reach}

-- the index in the first dimension
abbrev pub first_index : List ℤ → ℤ
first_index [] = pos 0
first_index (d ∷ ds) = d

-- the lowest and the highest index of index vectors in the first dimension, 0 included
unfoldable pub edge_of : List (List ℤ) → Bound
edge_of [] = own_only
edge_of (ds ∷ dss) = widen (edge_of dss) (range (first_index ds) (first_index ds))

-- how many border rows a band of rows has before and behind it: the reach's lowest and highest index in the first dimension
unfoldable pub edge : Program → Bound
edge p = edge_of (reach p)
