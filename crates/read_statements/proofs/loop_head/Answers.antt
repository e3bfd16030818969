use Rattle.read_state.proofs.Going.{passed}
use Rattle.read_state.proofs.Steps.{on, on_told, off, returned, declared}
use Rattle.read_state.proofs.Going.{nowhere, went, goes_on}
use Rattle.read_statements.specs.Promises.Promises.{loop_head}
use native.Mathlib.Omega.{arith}
use mathlib.Core.Path.{refl}
use Rattle.read_statements.proofs.loop_head.Goals as goal

pub returns-in_err-a : goal.returns-in_err-a
unfolding loop_head
returns-in_err-a c =
    let fresh = c.fresh in
    rw (passed c.from_residual.ensures.1 c.in_err-a.was)
    record { gives = off _ fresh.ensures.gives c.in_err-a.was; onward = nowhere c.in_err-a.was }

pub returns-in_err-b : goal.returns-in_err-b
unfolding loop_head
returns-in_err-b c =
    let fresh = c.fresh in
    let loop_range = c.loop_range in
    rw (passed c.from_residual-in_err-b.ensures.1 c.in_err-b.was)
    record { gives = on_told _ fresh.ensures.gives c.in_ok-a.was (off _ loop_range.ensures.gives c.in_err-b.was); onward = nowhere c.in_err-b.was }

pub returns : goal.returns
unfolding loop_head
returns c =
    let fresh = c.fresh in
    let loop_range = c.loop_range in
    let declare = c.declare in
    let d = declare.ensures in
    let v = went fresh.ensures.onward c.in_ok-a.was in
    let w = went loop_range.ensures.onward c.in_ok-b.was in
    record {
      gives = on_told _ fresh.ensures.gives c.in_ok-a.was (on _ loop_range.ensures.gives c.in_ok-b.was (λ _ _. on _ (declared _ _ _ d) refl (λ _ p. returned _ (p, omega (arith, d.number, v.few, w.few)))));
      onward = goes_on (omega (arith, v.past, w.past, d.at)) (omega (arith, w.within, d.at)) (omega (arith, v.few, w.few, d.count));
    }
