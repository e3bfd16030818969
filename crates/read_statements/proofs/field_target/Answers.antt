use Rattle.read_state.proofs.Going.{passed}
use Rattle.read_state.proofs.Steps.{on, off, so, other, carried, advanced}
use Rattle.read_state.proofs.Going.{nowhere, went, goes_on, further}
use native.Mathlib.Omega.{arith}
use mathlib.Core.Path.{refl, sym}
use Rattle.grammar.specs.Statements.{field_target}
use Rattle.read_statements.proofs.field_target.Goals as goal

pub returns-then-cell : goal.returns-then-cell
unfolding field_target
returns-then-cell c =
    let moved = c.moved-a in
    let if1 = c.if-cell in
    let named_target = c.named_target in
    let m = moved.ensures in
    record {
      gives = so _ _ if1.true (on _ (advanced m) refl (λ _ _. named_target.ensures.gives));
      onward = further named_target.ensures.onward (omega (arith, m.at)) (omega (arith, m.count));
    }

pub returns-in_err-b : goal.returns-in_err-b
unfolding field_target
returns-in_err-b c =
    let moved = c.moved-a in
    let if1 = c.if-cell in
    let forbid = c.forbid in
    let m = moved.ensures in
    rw (passed c.from_residual.ensures.1 c.in_err-b.was)
    record { gives = other _ _ if1.false (off _ (on _ (advanced m) refl (λ _ _. forbid.ensures.gives _ _)) c.in_err-b.was); onward = nowhere c.in_err-b.was }

pub returns : goal.returns
unfolding field_target
returns c =
    let moved = c.moved-a in
    let if1 = c.if-cell in
    let forbid = c.forbid in
    let carrying_number = c.with_number in
    let m = moved.ensures in
    let w = went forbid.ensures.onward c.in_ok-b.was in
    let k = carrying_number.ensures in
    record {
      gives = other _ _ if1.false (on _ (on _ (advanced m) refl (λ _ _. forbid.ensures.gives _ _)) c.in_ok-b.was (λ _ _. carried _ k (sym k.number)));
      onward = goes_on (omega (arith, w.past, k.at, m.at)) (omega (arith, w.within, k.at)) (omega (arith, w.few, k.count, m.count));
    }
