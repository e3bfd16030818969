use Rattle.read_state.proofs.Going.{passed}
use native.Mathlib.Omega.{arith}
use Rattle.grammar.specs.Expressions.{dot_field}
use Rattle.read_state.proofs.Steps.{on, off}
use Rattle.read_state.proofs.Going.{nowhere, went, further}
use Rattle.read_expressions.proofs.dot_field.Goals as goal

pub returns-in_err-a : goal.returns-in_err-a
unfolding dot_field
returns-in_err-a c =
    let expect = c.expect in
    rw (passed c.from_residual.ensures.1 c.in_err-a.was)
    record { gives = off _ (expect.ensures.gives _ _) c.in_err-a.was; onward = nowhere c.in_err-a.was }

pub returns : goal.returns
unfolding dot_field
returns c =
    let expect = c.expect in
    let field_name = c.field_name in
    let w = went expect.ensures.onward c.in_ok-a.was in
    record {
      gives = on _ (expect.ensures.gives _ _) c.in_ok-a.was (λ _ _. field_name.ensures.gives);
      onward = further field_name.ensures.onward (omega (arith, w.past)) w.few;
    }
