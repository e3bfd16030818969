use native.Mathlib.Omega.{arith}
use Rattle.grammar.specs.Expressions.{plain}
use Rattle.read_state.proofs.Steps.{on, off}
use Rattle.read_state.proofs.Going.{nowhere, went, further}
use Rattle.read_expressions.proofs.plain.Goals as goal

pub returns-in_default : goal.returns-in_default
unfolding plain
returns-in_default c =
    let forbid = c.forbid-r in
    record { gives = λ source ns. off _ (forbid.ensures.gives _ _) c.in_default.is; onward = nowhere c.in_default.is }

pub returns : goal.returns
unfolding plain
returns c =
    let forbid = c.forbid-r in
    let forbid2 = c.forbid in
    let w = went forbid.ensures.onward c.in-Ok.is in
    record {
      gives = λ source ns. on _ (forbid.ensures.gives _ _) c.in-Ok.is (λ _ _. forbid2.ensures.gives _ _);
      onward = further forbid2.ensures.onward (omega (arith, w.past)) w.few;
    }
