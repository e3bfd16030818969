use Rattle.move_profile.proofs.FlagLaws.{other_list, built_in_list}
use Rattle.move_profile.proofs.check_one_move.Goals as goal

pub returns-then-not-is_built_in : goal.returns-then-not-is_built_in
returns-then-not-is_built_in c = other_list c.args.list.now c.is_built_in.ensures c.if-not-is_built_in.true-raw c.new.ensures

pub returns : goal.returns
returns c = built_in_list c.args.list.now c.is_built_in.ensures c.if-not-is_built_in.false-raw c.check_listed.ensures
