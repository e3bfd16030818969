use Rattle.run_places.proofs.ListLaws.{Agreeing}
use Rattle.run_places.proofs.listing.same_place.Given as goal

abbrev pub invariant-loop-d : goal.invariant-loop-d
invariant-loop-d l = Agreeing l.a l.b l.d
