use Rattle.read_expressions.proofs.Operands.{looked}
use Rattle.read_state.proofs.Steps.{on, off, here, returned, put_in}
use Rattle.read_state.proofs.Going.{nowhere, went, goes_on}
use native.Mathlib.Omega.{arith}
use mathlib.Core.Path.{refl}
use Rattle.grammar.specs.Statements.{clause_turn}
use Rattle.read_statements.proofs.Single.{expression}
use Rattle.read_statements.proofs.read_clause.Goals as goal

pub returns-in_default : goal.returns-in_default
unfolding clause_turn
returns-in_default c =
    let expect = c.expect-r in
    record { gives = λ got h. here _ (looked _ (off _ (expect.ensures.gives _ _) c.in_default.is)); onward = nowhere c.in_default.is }

pub returns-in_default-q : goal.returns-in_default-q
unfolding clause_turn
returns-in_default-q c =
    let expect = c.expect-r in
    let read_expression = c.read_expression-q in
    record {
      gives = λ got h. here _ (looked _ (on _ (expect.ensures.gives _ _) c.in-Ok.is (λ _ _. off _ (expression read_expression.ensures).gives c.in_default-q.is)));
      onward = nowhere c.in_default-q.is;
    }

pub returns-in_default-p : goal.returns-in_default-p
unfolding clause_turn
returns-in_default-p c =
    let expect = c.expect-r in
    let read_expression = c.read_expression-q in
    let clause_end = c.clause_end-p in
    record {
      gives = λ got h. here _ (looked _ (on _ (expect.ensures.gives _ _) c.in-Ok.is (λ _ _. on _ (expression read_expression.ensures).gives c.in-Ok-q.is (λ e _. off _ (clause_end.ensures.gives (record { got = got; token = _; expr = e }) h) c.in_default-p.is))));
      onward = nowhere c.in_default-p.is;
    }

pub returns : goal.returns
unfolding clause_turn
returns c =
    let expect = c.expect-r in
    let read_expression = c.read_expression-q in
    let clause_end = c.clause_end-p in
    let put_word = c.put_word in
    let u = went expect.ensures.onward c.in-Ok.is in
    let v = went read_expression.ensures.onward c.in-Ok-q.is in
    let w = went clause_end.ensures.onward c.in-Ok-p.is in
    record {
      gives = λ got h. here _ (looked _ (on _ (expect.ensures.gives _ _) c.in-Ok.is (λ _ _. on _ (expression read_expression.ensures).gives c.in-Ok-q.is (λ e _. on _ (clause_end.ensures.gives (record { got = got; token = _; expr = e }) h) c.in-Ok-p.is (λ turn t. here _ (on _ (put_in _ _ _ put_word.ensures) refl (λ _ _. returned turn t)))))));
      onward = goes_on (omega (arith, u.past, v.past, w.past)) w.within (omega (arith, u.few, v.few, w.few));
    }
