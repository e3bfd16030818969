use mathlib.Core.Path.{◌∙◌}
use Rattle.run_marking.proofs.WayLaws.{way_past, way_full, way_list}
use Rattle.run_marking.proofs.ways.set_ways.Goals as goal

pub returns-then-count-gt-MOST_PLACES : goal.returns-then-count-gt-MOST_PLACES
returns-then-count-gt-MOST_PLACES c = way_past c.args.sizes.now c.args.reach c.requires.0 c.args.steps.now c.requires.1 c.if-count-gt-MOST_PLACES.true

pub returns-then-count-box_count : goal.returns-then-count-box_count
returns-then-count-box_count c = way_full c.args.sizes.now c.args.reach c.requires.0 c.args.steps.now c.requires.1 c.if-count-gt-MOST_PLACES.false c.box_count.ensures c.if-count-box_count.true

pub returns : goal.returns
returns c = way_list c.args.sizes.now c.args.reach c.requires.0 _ (c.set_steps.ensures.len ∙ c.requires.1) c.if-count-gt-MOST_PLACES.false c.set_steps.ensures
