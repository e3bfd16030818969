use Rattle.run_calls.specs.Calls.{source_lent}
use Rattle.band_planner.proofs.PlanningLaws as laws
use Rattle.band_planner.proofs.PlanningLaws.{check_unlisted}
use Rattle.band_planner.proofs.planning.check_plan.Goals as goal

pub returns-then-not-is_built_in : goal.returns-then-not-is_built_in
returns-then-not-is_built_in c =
    check_unlisted (source_lent c.args.source.now c.args.list.now _ _) c.args.sizes.now c.args.held c.args.plan.now c.is_built_in.ensures c.if-not-is_built_in.true-raw c.new.ensures

pub returns : goal.returns
returns c =
    laws.check_listed (source_lent c.args.source.now c.args.list.now _ _) c.args.sizes.now c.args.held c.args.plan.now c.is_built_in.ensures c.if-not-is_built_in.false-raw c.check_listed.ensures
