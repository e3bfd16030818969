use Rattle.run_calls.specs.Calls.{source_lent}
use Rattle.band_planner.proofs.BorderCallLaws.{borders_unlisted, borders_read}
use Rattle.band_planner.proofs.border_call.borders_of.Goals as goal

pub returns-then-not-is_built_in : goal.returns-then-not-is_built_in
returns-then-not-is_built_in c =
    borders_unlisted (source_lent c.args.source.now c.args.list.now _ _) c.args.sizes.now c.is_built_in.ensures c.if-not-is_built_in.true-raw c.new.ensures

pub returns : goal.returns
returns c =
    borders_read (source_lent c.args.source.now c.args.list.now _ _) c.args.sizes.now c.is_built_in.ensures c.if-not-is_built_in.false-raw c.borders_listed.ensures
