use Prim.Native.Nat.{ℕ, ◌<◌}
use mathlib.Core.Path.{◌≡◌}
use Rattle.automaton.specs.Listed.{list_of}
use Rattle.run_meaning.specs.Promises.Fitting.{place_at}
use Rattle.band_meaning.specs.Edge.{edge_of}
use Rattle.band_planner.specs.Promises.Borders.{border_of}
use Rattle.band_planner.proofs.borders.listed_border.Given as goal

abbrev pub invariant-loop-k : goal.invariant-loop-k
invariant-loop-k l = (dims : ℕ) → 0 < dims → border_of l.r ≡ edge_of (list_of (place_at l.places dims) l.k)
