use lib.ListN.{length}
use Rattle.run_places.proofs.ListLaws.{missing_found}
use Rattle.run_places.proofs.listing.has_place.Goals as goal

pub returns-then-same_place : goal.returns-then-same_place
returns-then-same_place c = missing_found _ _ (length c.args.places.now) c.loop-listed.listed-index c.loop-listed-test.true c.same_place.ensures c.if-same_place.true
