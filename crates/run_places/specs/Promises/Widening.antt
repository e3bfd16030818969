-- What it is to widen a reach.
use Rattle.std.specs.Prelude.{◌≡◌, List, ℕ, ℤ}
use Rattle.std.proofs.Math.Option.{Option, none, some}
use Rattle.cell_meaning.specs.Places.{add_places}
use Rattle.run_meaning.specs.declared.Reach.{Reach}
use Rattle.run_meaning.specs.Promises.Fitting.{places_of}

-- places with those of an index added; none, if either has too many
abbrev pub joined : Option (List (List ℤ)) → Option (List (List ℤ)) → Option (List (List ℤ))
joined ps none = none
joined ps (some dss) = add_places ps dss

-- a reach has the bounds given beside the places of a relative index, and these places added to its own
pub record Widens (reach index : Reach) (dims : ℕ) (r : Reach) : Type 0 where
  pub bounded : r.bounds ≡ index.bounds
  pub places : places_of r dims ≡ joined (places_of reach dims) (places_of index dims)
