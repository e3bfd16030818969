use mathlib.Core.Path.{refl}
use Rattle.band_planner.specs.Promises.Borders.{border_of}
use Rattle.band_planner.proofs.PlanningLaws.{no_plan, a_plan}
use Rattle.band_planner.proofs.planning.put_plan.Goals as goal

pub returns-then-held-borders : goal.returns-then-held-borders
returns-then-held-borders c = no_plan c.args.rows (border_of c.args.border) c.args.held _ c.if-held-borders.true c.new.ensures

pub returns : goal.returns
returns c = a_plan c.args.rows (border_of c.args.border) c.args.held _ c.if-held-borders.false refl c.write_plan.ensures
