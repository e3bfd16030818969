use mathlib.Core.Path.{refl, sym, ◌∙◌}
use Rattle.grammar.specs.Ranking.{first_of}
use Rattle.read_state.proofs.Leaves.{first_noted, first_new}
use Rattle.read_state.proofs.first.Goals as goal

pub returns-in-Some : goal.returns-in-Some
returns-in-Some c = c.into-in-Some.ensures ∙ rw c.in-Some.is (sym (first_noted _ _ c.into.ensures (sym c.goes_before.ensures ∙ c.if-goes_before.true)))

pub returns-in_default : goal.returns-in_default
returns-in_default c = rw c.in-Some.is (sym (first_new _ _ c.into.ensures (sym c.goes_before.ensures ∙ c.if-goes_before.false)))

pub returns-in_default-2 : goal.returns-in_default-2
unfolding first_of
returns-in_default-2 c = rw c.in_default.is refl
