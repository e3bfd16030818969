use mathlib.Core.Path.{◌∙◌, sym}
use mathlib.Core.List.{[]}
use Rattle.grammar.specs.Expressions.{read_index}
use Rattle.read_state.proofs.Steps.{so, other, token, found_it, missed_it, refused}
use Rattle.read_state.proofs.Going.{nowhere}
use Rattle.read_expressions.proofs.read_index.Goals as goal

pub returns-in_default : goal.returns-in_default
unfolding read_index
returns-in_default c =
    let token_at = c.token_at-t in
    let is_name = c.is_name in
    let if1 = c.if-is_name in
    let find_name = c.find_name in
    let refuse = c.refuse in
    let y = refuse.ensures in
    record {
      gives = token _ token_at.ensures (so _ _ (sym is_name.ensures.is ∙ if1.true) (missed_it _ _ _ find_name.ensures c.in_default.is (refused _ y)));
      onward = nowhere y;
    }

pub returns-then-is_name : goal.returns-then-is_name
unfolding read_index
returns-then-is_name c =
    let token_at = c.token_at-t in
    let is_name = c.is_name in
    let if1 = c.if-is_name in
    let find_name = c.find_name in
    let named_index = c.named_index in
    record {
      gives = token _ token_at.ensures (so _ _ (sym is_name.ensures.is ∙ if1.true) (found_it _ _ _ find_name.ensures c.in-Some.is (named_index.ensures _ token_at.result).gives));
      onward = (named_index.ensures [] token_at.result).onward;
    }

pub returns : goal.returns
unfolding read_index
returns c =
    let token_at = c.token_at-t in
    let is_name = c.is_name in
    let if1 = c.if-is_name in
    let fixed_index = c.fixed_index in
    record {
      gives = token _ token_at.ensures (other _ _ (sym is_name.ensures.is ∙ if1.false) (fixed_index.ensures token_at.result).gives);
      onward = (fixed_index.ensures token_at.result).onward;
    }
