use Rattle.run_meaning.specs.Promises.Fitting.{place_at, place_list}
use Rattle.run_places.proofs.ListLaws.{Adding}
use Rattle.run_places.proofs.listing.add_places.Given as goal

abbrev pub invariant-loop-place : goal.invariant-loop-place
invariant-loop-place l = Adding l.dims (place_at l.list l.dims) (place_list l.initial.places l.dims l.initial.count) l.places l.count l.place-index
