-- What the functions that find the border rows promise.
use Rattle.std.specs.Prelude.{◌≡◌, List, ℕ, ◌<◌}
use Rattle.value.specs.Worked.{decode_of}
use Rattle.automaton.specs.Listed.{list_of}
use Rattle.automaton.specs.Shape.{Bound}
use Rattle.program.specs.Syntax.{range}
use Rattle.run_meaning.specs.declared.Reach.{Reach}
use Rattle.run_meaning.specs.Reach.{widen, reach_from}
use Rattle.run_meaning.specs.Promises.Fitting.{bounds_of, place_at, places_of}
use Rattle.band_meaning.specs.Edge.{edge_of}
use Rattle.band_meaning.specs.Bounds.{bound}
use Rattle.band_planner.specs.declared.borders.Border.{Border}

-- border rows as a bound
abbrev pub border_of : Border → Bound
border_of b = bound b.before b.behind

-- `widened`: one index more
pub record WidensBorder (b : Border) (word : ℕ) (r : Border) : Type 0 where
  pub is : border_of r ≡ widen (border_of b) (range (decode_of word) (decode_of word))

-- `listed_border`: those of so many places, in any number of dimensions
pub record ListedBorder (places : List (List ℕ)) (count : ℕ) (r : Border) : Type 0 where
  pub is : (dims : ℕ) → 0 < dims → border_of r ≡ edge_of (list_of (place_at places dims) count)

-- `border_rows`: those of a reach, in any number of dimensions
pub record BordersOf (reach : Reach) (r : Border) : Type 0 where
  pub is : (dims : ℕ) → 0 < dims → border_of r ≡ edge_of (reach_from (bounds_of reach.bounds dims) (places_of reach dims))
