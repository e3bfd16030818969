use Rattle.program.specs.Syntax.{to_field, to_variable}
use Rattle.read_state.specs.Promises.Reading.{InNumber}
use Rattle.read_state.proofs.Steps.{on, on_told, off, made, so, other, token, refused, carried}
use Rattle.read_state.proofs.Going.{nowhere, went, goes_on, further}
use native.Mathlib.Omega.{arith}
use mathlib.Core.Path.{sym}
use borrow.Author.Tests.{eq-eqb, ne_eqb}
use Rattle.grammar.specs.Statements.{read_target}
use Rattle.read_statements.proofs.read_target.Goals as goal

pub returns-then-t-eq-TIME : goal.returns-then-t-eq-TIME
unfolding read_target
returns-then-t-eq-TIME c =
    let token_at = c.token_at-t in
    let if1 = c.if-t-eq-TIME in
    let refuse = c.refuse in
    let y = refuse.ensures in record { gives = token _ token_at.ensures (so _ _ (eq-eqb _ _ if1.true) (refused _ y)); onward = nowhere y }

pub returns-then-t-eq-CELL : goal.returns-then-t-eq-CELL
unfolding read_target
returns-then-t-eq-CELL c =
    let pre = c.requires in
    let token_at = c.token_at-t in
    let if1 = c.if-t-eq-TIME in
    let if2 = c.if-t-eq-CELL in
    let field_target = c.field_target in
    record {
      gives = token _ token_at.ensures (other _ _ (ne_eqb _ _ if1.false) (so _ _ (eq-eqb _ _ if2.true) (made to_field field_target.ensures.gives (λ a t p. p))));
      onward = further field_target.ensures.onward (omega arith) pre.0.few;
    }

pub returns-in_default : goal.returns-in_default
unfolding read_target
returns-in_default c =
    let token_at = c.token_at-t in
    let if1 = c.if-t-eq-TIME in
    let if2 = c.if-t-eq-CELL in
    let variable-target = c.variable_target-r in
    record {
      gives = token _ token_at.ensures (other _ _ (ne_eqb _ _ if1.false) (other _ _ (ne_eqb _ _ if2.false) (off {R = InNumber} _ (off _ variable-target.ensures.gives c.in_default.is) c.in_default.is)));
      onward = nowhere c.in_default.is;
    }

pub returns-in_default-q : goal.returns-in_default-q
unfolding read_target
returns-in_default-q c =
    let token_at = c.token_at-t in
    let if1 = c.if-t-eq-TIME in
    let if2 = c.if-t-eq-CELL in
    let variable-target = c.variable_target-r in
    let forbid = c.forbid-q in
    record {
      gives = token _ token_at.ensures (other _ _ (ne_eqb _ _ if1.false) (other _ _ (ne_eqb _ _ if2.false) (off {R = InNumber} _ (on_told _ variable-target.ensures.gives c.in-Ok.is (off _ (forbid.ensures.gives _ _) c.in_default-q.is)) c.in_default-q.is)));
      onward = nowhere c.in_default-q.is;
    }

pub returns : goal.returns
unfolding read_target
returns c =
    let token_at = c.token_at-t in
    let if1 = c.if-t-eq-TIME in
    let if2 = c.if-t-eq-CELL in
    let variable-target = c.variable_target-r in
    let forbid = c.forbid-q in
    let carrying_number = c.with_number in
    let v = went variable-target.ensures.onward c.in-Ok.is in
    let w = went forbid.ensures.onward c.in-Ok-q.is in
    let k = carrying_number.ensures in
    record {
      gives = token _ token_at.ensures (other _ _ (ne_eqb _ _ if1.false) (other _ _ (ne_eqb _ _ if2.false) (made {R = InNumber} to_variable (on_told _ variable-target.ensures.gives c.in-Ok.is (on _ (forbid.ensures.gives _ _) c.in-Ok-q.is (λ _ _. carried _ k (sym k.number)))) (λ a t p. p))));
      onward = goes_on (omega (arith, v.past, w.past, k.at)) (omega (arith, w.within, k.at)) (omega (arith, v.few, w.few, k.count));
    }
