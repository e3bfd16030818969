use Rattle.band_planner.proofs.BorderLaws.{box_border}
use Rattle.band_planner.proofs.borders.border_rows.Goals as goal

pub returns-then-reach-gt-PLACES_LISTED : goal.returns-then-reach-gt-PLACES_LISTED
returns-then-reach-gt-PLACES_LISTED c = box_border c.args.reach c.if-reach-gt-PLACES_LISTED.true
