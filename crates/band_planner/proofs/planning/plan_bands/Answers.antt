use Rattle.run_calls.specs.Calls.{source_lent}
use Rattle.band_planner.proofs.PlanningLaws as laws
use Rattle.band_planner.proofs.PlanningLaws.{plan_unlisted}
use Rattle.band_planner.proofs.planning.plan_bands.Goals as goal

pub returns-then-not-is_built_in : goal.returns-then-not-is_built_in
returns-then-not-is_built_in c =
    plan_unlisted (source_lent c.args.source.now c.args.list.now _ _) c.args.sizes.now c.args.held _ c.is_built_in.ensures c.if-not-is_built_in.true-raw c.new.ensures

pub returns : goal.returns
returns c =
    laws.plan_listed (source_lent c.args.source.now c.args.list.now _ _) c.args.sizes.now c.args.held _ c.is_built_in.ensures c.if-not-is_built_in.false-raw c.plan_listed.ensures
