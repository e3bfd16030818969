use mathlib.Core.Path.{◌∙◌, refl, sym}
use native.Mathlib.Omega.{arith}
use Rattle.grammar.specs.Expressions.{field_name}
use Rattle.read_state.proofs.Steps.{on, so, other, token, found_it, missed_it, below_slot, refused, carried, advanced}
use Rattle.read_state.proofs.Going.{nowhere, goes_on}
use Rattle.read_expressions.proofs.field_name.Goals as goal

pub returns-in_default : goal.returns-in_default
unfolding field_name
returns-in_default c =
    let token_at = c.token_at-t in
    let is_name = c.is_name in
    let if1 = c.if-is_name in
    let find_name = c.find_name in
    let refuse = c.refuse in
    let y = refuse.ensures in
    record {
      gives = token _ token_at.ensures (so _ _ (sym is_name.ensures.is ∙ if1.true) (missed_it _ _ _ find_name.ensures c.in_default.is (refused _ y)));
      onward = nowhere y;
    }

pub returns-then-is_name : goal.returns-then-is_name
unfolding field_name
returns-then-is_name c =
    let token_at = c.token_at-t in
    let is_name = c.is_name in
    let if1 = c.if-is_name in
    let find_name = c.find_name in
    let moved = c.moved in
    let carrying_number = c.with_number in
    let m = moved.ensures in
    let k = carrying_number.ensures in
    let l = below_slot find_name.ensures.below c.in-Some.is in
    record {
      gives = token _ token_at.ensures (so _ _ (sym is_name.ensures.is ∙ if1.true) (found_it _ _ _ find_name.ensures c.in-Some.is (on _ (advanced m) refl (λ _ _. carried _ k (sym k.number, omega (arith, k.number, k.count, m.count, l))))));
      onward = goes_on (omega (arith, m.at, k.at)) (omega (arith, m.at, k.at, token_at.ensures.inside, is_name.ensures.kind if1.true)) (omega (arith, k.count, m.count));
    }

pub returns : goal.returns
unfolding field_name
returns c =
    let token_at = c.token_at-t in
    let is_name = c.is_name in
    let if1 = c.if-is_name in
    let refuse2 = c.refuse-2 in
    let y = refuse2.ensures in record { gives = token _ token_at.ensures (other _ _ (sym is_name.ensures.is ∙ if1.false) (refused _ y)); onward = nowhere y }
