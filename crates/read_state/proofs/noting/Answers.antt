use mathlib.Core.Path.{sym, ◌∙◌}
use Rattle.read_state.proofs.Leaves.{noted_before, noted_new, noted_first}
use Rattle.read_state.proofs.noting.Goals as goal

pub returns-in-Some : goal.returns-in-Some
returns-in-Some c = noted_before _ c.token_at-place.ensures c.in-Some.is c.into.ensures c.new.ensures (sym c.goes_before.ensures ∙ c.if-goes_before.true)

pub returns-in_default : goal.returns-in_default
returns-in_default c = noted_new _ c.token_at-place.ensures c.in-Some.is c.into.ensures c.new.ensures (sym c.goes_before.ensures ∙ c.if-goes_before.false)

pub returns-in_default-2 : goal.returns-in_default-2
returns-in_default-2 c = noted_first _ c.token_at-place.ensures c.in_default.is
