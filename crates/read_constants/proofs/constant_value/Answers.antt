use Rattle.grammar.specs.Constants.{constant_value}
use Rattle.read_state.proofs.Steps.{so, other, token, refused}
use Rattle.read_state.proofs.Going.{nowhere}
use borrow.Author.Tests.{eq-eqb, ne_eqb}
use Rattle.read_constants.proofs.constant_value.Goals as goal

pub returns-then-t-eq-ASSIGN : goal.returns-then-t-eq-ASSIGN
unfolding constant_value
returns-then-t-eq-ASSIGN c =
    let token_at = c.token_at-t in
    let if1 = c.if-t-eq-ASSIGN in
    let simple_constant = c.simple_constant in
    record {
      gives =
          token _ token_at.ensures
          (so _ _ (eq-eqb _ _ if1.true)
          simple_constant.ensures.gives);
      onward = simple_constant.ensures.onward;
    }

pub returns-then-t-eq-BRACKET : goal.returns-then-t-eq-BRACKET
unfolding constant_value
returns-then-t-eq-BRACKET c =
    let token_at = c.token_at-t in
    let if1 = c.if-t-eq-ASSIGN in
    let if2 = c.if-t-eq-BRACKET in
    let array_constant = c.array_constant in
    record {
      gives =
          token _ token_at.ensures
          (other _ _ (ne_eqb _ _ if1.false)
          (so _ _ (eq-eqb _ _ if2.true)
          array_constant.ensures.gives));
      onward = array_constant.ensures.onward;
    }

pub returns : goal.returns
unfolding constant_value
returns c =
    let token_at = c.token_at-t in
    let if1 = c.if-t-eq-ASSIGN in
    let if2 = c.if-t-eq-BRACKET in
    let refuse = c.refuse in
    let y = refuse.ensures in
    record {
      gives =
          token _ token_at.ensures
          (other _ _ (ne_eqb _ _ if1.false)
          (other _ _ (ne_eqb _ _ if2.false)
          (refused _ y)));
      onward = nowhere y;
    }
