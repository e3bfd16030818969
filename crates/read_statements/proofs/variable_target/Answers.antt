use Rattle.read_state.proofs.Going.{passed}
use Rattle.read_state.proofs.Steps.{on, on_told, off, so, other, stated, named, found_it, missed_it, refused, carried, advanced, declared}
use Rattle.read_state.proofs.Going.{nowhere, went, goes_on}
use native.Mathlib.Omega.{arith}
use mathlib.Core.Path.{refl, sym, ◌∙◌}
use borrow.Author.Tests.{eq-eqb, ne_eqb}
use Rattle.grammar.specs.Statements.{old_variable, new_variable}
use Rattle.read_statements.proofs.variable_target.Goals as goal

pub returns-in_err-a : goal.returns-in_err-a
unfolding new_variable
returns-in_err-a c =
    let find_name = c.find_name in
    let fresh = c.fresh in
    rw (passed c.from_residual.ensures.1 c.in_err-a.was)
    record { gives = missed_it _ _ _ find_name.ensures c.in_default.is (off _ fresh.ensures.gives c.in_err-a.was); onward = nowhere c.in_err-a.was }

pub returns-in_default : goal.returns-in_default
unfolding new_variable
returns-in_default c =
    let find_name = c.find_name in
    let fresh = c.fresh in
    let count = c.count_variables-k.ensures in
    let declare = c.declare-b in
    let k = c.with_number.ensures in
    let w = went fresh.ensures.onward c.in_ok-a.was in
    let d = declare.ensures in
    record {
      gives =
          missed_it _ _ _ find_name.ensures c.in_default.is
          (on_told _ fresh.ensures.gives c.in_ok-a.was
          (stated _ (on _ (declared _ _ _ (rw count at d)) refl
          (λ _ _. carried _ k (sym (k.number ∙ count))))));
      onward = goes_on (omega (arith, w.past, d.at, k.at)) (omega (arith, w.within, d.at, k.at)) (omega (arith, w.few, d.count, k.count));
    }

pub returns-then-e-eq-VARIABLE : goal.returns-then-e-eq-VARIABLE
unfolding old_variable
returns-then-e-eq-VARIABLE c =
    let pre = c.requires in
    let find_name = c.find_name in
    let entry_in = c.entry_in-e in
    let if1 = c.if-e-eq-VARIABLE in
    let moved = c.moved in
    let carrying_number = c.with_number-then-e-eq-VARIABLE in
    let p = pre in
    let m = moved.ensures in
    let k = carrying_number.ensures in
    record {
      gives = found_it _ _ _ find_name.ensures c.in-Some.is (named _ _ entry_in.ensures (so _ _ (eq-eqb _ _ if1.true) (on _ (advanced m) refl (λ _ _. carried _ k (sym k.number)))));
      onward = goes_on (omega (arith, k.at, m.at)) (omega (arith, k.at, m.at, p.1)) (omega (arith, k.count, m.count, p.0.few));
    }

pub returns : goal.returns
unfolding old_variable
returns c =
    let find_name = c.find_name in
    let entry_in = c.entry_in-e in
    let if1 = c.if-e-eq-VARIABLE in
    let refuse = c.refuse in
    let y = refuse.ensures in
    record { gives = found_it _ _ _ find_name.ensures c.in-Some.is (named _ _ entry_in.ensures (other _ _ (ne_eqb _ _ if1.false) (refused _ y))); onward = nowhere y }
