-- The reach of a program, and the program as an automaton.
use Rattle.std.specs.Prelude.{List, [], ◌∷◌, ℕ, suc, max, length, get_or, set, replicate, ℤ, pos, negsuc}
use Rattle.std.proofs.Math.Option.{Option, none, some}
use Rattle.automaton.specs.Step.{Automaton}
use Rattle.automaton.specs.Shape.{Bound, box_indices}
use Rattle.automaton.specs.Grid.{automaton}
use Rattle.program.specs.Syntax.{Range, Program}
use Rattle.cell_meaning.specs.Evaluation.{evaluate}
use Rattle.cell_meaning.specs.Written.{Written, written_in}
use Rattle.cell_meaning.specs.Places.{places}

-- how far a value lies below 0
abbrev pub below : ℤ → ℕ
below (pos n) = 0
below (negsuc n) = suc n

-- how far a value lies above 0
abbrev pub above : ℤ → ℕ
above (pos n) = n
above (negsuc n) = 0

-- the bound that has 0 alone
abbrev pub own_only : Bound
own_only = record { back = 0; ahead = 0 }

-- a bound widened by a range
abbrev pub widen : Bound → Range → Bound
widen b r = record { back = max b.back (below r.low); ahead = max b.ahead (above r.high) }

-- bounds, one for each dimension, widened by each written index in turn
unfoldable pub widened : List Bound → List Written → List Bound
widened bs [] = bs
widened bs (w ∷ ws) = widened (set bs w.dim (widen (get_or bs w.dim own_only) w.values)) ws

-- the box: in each dimension the lowest and highest index written anywhere, 0 included
unfoldable pub box : Program → List Bound
box p = widened (replicate p.dims own_only) (written_in p)

-- the index vectors of a reach: listed places, or without a list those of a box
abbrev pub reach_from : List Bound → Option (List (List ℤ)) → List (List ℤ)
reach_from bs none = box_indices bs
reach_from bs (some ps) = ps

-- the reach: the places that the program can read; the box, if there would be more than 256
unfoldable pub reach : Program → List (List ℤ)
reach p = reach_from (box p) (places p)

-- a program on a grid of given sizes
unfoldable pub running : Program → List ℕ → Automaton (List ℤ) (List ℤ)
running p sizes = automaton sizes (length p.fields) p.timed (reach p) (evaluate p)
