use mathlib.Core.Path.{refl}
use borrow.Author.Rules.{rules}
use Rattle.move_profile.proofs.FlagLaws.{not_loaded, can_miss, told_missed}
use Rattle.move_profile.proofs.check_listed.Goals as goal

pub rule_missed-requires : goal.rule_missed-requires
rule_missed-requires c =
    can_miss (rw c.in-Ok.is at c.load.ensures.checks) (rw c.in-Ok.is at c.load.ensures.loads) refl (search (c.load.auto, rules))

pub returns-in-Ok : goal.returns-in-Ok
returns-in-Ok c = told_missed (rw c.in-Ok.is at c.load.ensures.checks) (rw c.in-Ok.is at c.load.ensures.loads) refl c.rule_missed.ensures

pub returns-in-Err : goal.returns-in-Err
returns-in-Err c = not_loaded (rw c.in-Err.is at c.load.ensures.checks) (rw c.in-Err.is at c.load.ensures.loads) refl
