use Rattle.read_state.proofs.Going.{passed}
use Rattle.read_state.proofs.Steps.{on, off, token, here, advanced, put_in}
use Rattle.read_state.proofs.Going.{nowhere, went, goes_on}
use native.Mathlib.Omega.{arith}
use mathlib.Core.Path.{refl}
use Rattle.grammar.specs.Statements.{when_clause}
use Rattle.read_statements.proofs.Single.{expression, turn_told}
use Rattle.read_statements.proofs.when_clause.Goals as goal

pub returns-in_err-b : goal.returns-in_err-b
unfolding when_clause
returns-in_err-b c =
    let moved = c.moved-a in
    let read_expression = c.read_expression in
    rw (passed c.from_residual.ensures.1 c.in_err-b.was)
    record {
      gives = λ b _. on _ (advanced moved.ensures) refl (λ _ _. here _ (off _ (expression read_expression.ensures).gives c.in_err-b.was));
      onward = nowhere c.in_err-b.was;
    }

pub returns : goal.returns
unfolding when_clause
returns c =
    let read_expression = c.read_expression in
    let m = c.moved-a.ensures in
    let w = went read_expression.ensures.onward c.in_ok-b.was in
    let k = c.with_more.ensures in
    record {
      gives = λ b _. on _ (advanced m) refl (λ _ _. here _ (on _ (expression read_expression.ensures).gives c.in_ok-b.was (λ d _. on _ (put_in _ _ _ c.put_word.ensures) refl (λ _ _. token _ c.token_at-t.ensures (turn_told _ _ k)))));
      onward = goes_on (omega (arith, w.past, k.at, m.at)) (omega (arith, w.within, k.at)) (omega (arith, w.few, k.count, m.count));
    }
