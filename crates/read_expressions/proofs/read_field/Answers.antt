use Rattle.read_state.proofs.Going.{passed}
use mathlib.Core.Path.{sym}
use native.Mathlib.Omega.{arith}
use Rattle.grammar.specs.Expressions.{read_field}
use Rattle.read_state.specs.Promises.Reading.{anything}
use Rattle.read_state.proofs.Steps.{on, off, so, other, carried}
use Rattle.read_state.proofs.Going.{nowhere, went, goes_on}
use Rattle.read_expressions.proofs.Fields.{field_read}
use Rattle.read_expressions.proofs.read_field.Goals as goal

pub returns-in_err-a : goal.returns-in_err-a
unfolding read_field
returns-in_err-a g c =
    let if1 = c.if-cell in
    let dot_field = c.dot_field in
    λ m h.
    rw (passed c.from_residual.ensures.1 c.in_err-a.was)
    record {
      gives = so _ _ if1.true (off _ (off {Q = anything} _ dot_field.ensures.gives c.in_err-a.was) c.in_err-a.was);
      onward = nowhere c.in_err-a.was;
    }

pub returns-in_err-b : goal.returns-in_err-b
unfolding read_field
returns-in_err-b g c =
    let if1 = c.if-cell in
    let dot_field = c.dot_field in
    let forbid = c.forbid in
    λ m h.
    rw (passed c.from_residual-in_err-b.ensures.1 c.in_err-b.was)
    record {
      gives = so _ _ if1.true (off _ (on {Q = anything} _ dot_field.ensures.gives c.in_ok-a.was (λ _ _. off _ (forbid.ensures.gives _ _) c.in_err-b.was)) c.in_err-b.was);
      onward = nowhere c.in_err-b.was;
    }

pub returns-then-cell : goal.returns-then-cell
unfolding read_field
returns-then-cell g c =
    let if1 = c.if-cell in
    let dot_field = c.dot_field in
    let forbid = c.forbid in
    let entry_in = c.entry_in-e in
    let carrying_number = c.with_number in
    let w = went dot_field.ensures.onward c.in_ok-a.was in
    let v = went forbid.ensures.onward c.in_ok-b.was in
    let k = carrying_number.ensures in
    λ m h.
    record {
      gives = so _ _ if1.true (field_read dot_field.ensures.gives c.in_ok-a.was (forbid.ensures.gives _ _) c.in_ok-b.was entry_in.ensures k);
      onward = goes_on (omega (arith, w.past, v.past, k.at)) (omega (arith, v.within, k.at)) (omega (arith, w.few, v.few, k.count));
    }

pub returns-in_err-after : goal.returns-in_err-after
unfolding read_field
returns-in_err-after g c =
    let if1 = c.if-cell in
    λ m h.
    let x = h _ c.unnamed.ensures in
    rw (passed c.from_residual-in_err-after.ensures.1 c.in_err-after.was)
    record { gives = other _ _ if1.false (off _ (x.gives _ _) c.in_err-after.was); onward = nowhere c.in_err-after.was }

pub returns : goal.returns
unfolding read_field
returns g c =
    let if1 = c.if-cell in
    let k = c.with_number-2.ensures in
    λ m h.
    let x = h _ c.unnamed.ensures in
    let w = went x.onward c.in_ok-after.was in
    record {
      gives = other _ _ if1.false (on _ (x.gives _ _) c.in_ok-after.was (λ _ _. carried _ k (sym k.number)));
      onward = goes_on (omega (arith, w.past, k.at)) (omega (arith, w.within, k.at)) (omega (arith, w.few, k.count));
    }
