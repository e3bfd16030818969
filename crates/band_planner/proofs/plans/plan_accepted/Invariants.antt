use Prim.Native.Nat.{◌*◌}
use mathlib.Core.Path.{◌≡◌}
use lib.ListN.{drop}
use Rattle.band_meaning.specs.Plans.{plan_right}
use Rattle.band_planner.specs.Promises.Borders.{border_of}
use Rattle.band_planner.proofs.PlanLaws.{left_runs}
use Rattle.band_planner.proofs.plans.plan_accepted.Given as goal

abbrev pub invariant-loop-k : goal.invariant-loop-k
invariant-loop-k l = plan_right l.rows (border_of l.border) l.held l.plan ≡ left_runs l.rows (border_of l.border) l.held l.from (drop (2 * l.k) l.plan)
