use Rattle.run_meaning.specs.Promises.Fitting.{place_at}
use Rattle.run_places.specs.Promises.Vectors.{vector_values}
use Rattle.run_places.proofs.ListLaws.{Missing}
use Rattle.run_places.proofs.listing.has_place.Given as goal

abbrev pub invariant-loop-listed : goal.invariant-loop-listed
invariant-loop-listed l = Missing (place_at l.places l.dims) (vector_values l.place l.dims) l.listed-index
