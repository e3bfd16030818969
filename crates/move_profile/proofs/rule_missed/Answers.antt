use Rattle.move_profile.proofs.FlagLaws.{missed_three, missed_none}
use Rattle.move_profile.proofs.rule_missed.Goals as goal

pub returns-then-flag_of-rule : goal.returns-then-flag_of-rule
returns-then-flag_of-rule c = missed_three c.flag_field.ensures c.if-flag_field-rule.false c.flag_of.ensures c.if-flag_of-rule.true

pub returns : goal.returns
returns c = missed_none c.flag_field.ensures c.if-flag_field-rule.false c.flag_of.ensures c.if-flag_of-rule.false
