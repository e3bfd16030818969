use Rattle.read_state.proofs.Going.{passed}
use Rattle.read_state.proofs.Steps.{on_told, off, so, other, named, refused_last, carried}
use Rattle.read_state.proofs.Going.{nowhere, went, goes_on}
use native.Mathlib.Omega.{arith}
use mathlib.Core.Path.{sym}
use borrow.Author.Tests.{eq-eqb, ne_eqb}
use Rattle.grammar.specs.Statements.{named_target}
use Rattle.read_statements.proofs.Single.{slot_told}
use Rattle.read_statements.proofs.named_target.Goals as goal

pub returns-in_err-a : goal.returns-in_err-a
unfolding named_target
returns-in_err-a c =
    let dot_field = c.dot_field in
    rw (passed c.from_residual.ensures.1 c.in_err-a.was)
    record { gives = off _ dot_field.ensures.gives c.in_err-a.was; onward = nowhere c.in_err-a.was }

pub returns-then-e-eq-CONST_FIELD : goal.returns-then-e-eq-CONST_FIELD
unfolding named_target
returns-then-e-eq-CONST_FIELD c =
    let dot_field = c.dot_field in
    let entry_in = c.entry_in-e in
    let if1 = c.if-e-eq-CONST_FIELD in
    let refuse = c.refuse in
    let y = refuse.ensures in
    record {
      gives = on_told _ (slot_told dot_field.ensures.gives) c.in_ok-a.was (named _ _ entry_in.ensures (so _ _ (eq-eqb _ _ if1.true) (refused_last _ y)));
      onward = nowhere y;
    }

pub returns : goal.returns
unfolding named_target
returns c =
    let dot_field = c.dot_field in
    let entry_in = c.entry_in-e in
    let if1 = c.if-e-eq-CONST_FIELD in
    let carrying_number = c.with_number in
    let w = went dot_field.ensures.onward c.in_ok-a.was in
    let k = carrying_number.ensures in
    record {
      gives = on_told _ (slot_told dot_field.ensures.gives) c.in_ok-a.was (named _ _ entry_in.ensures (other _ _ (ne_eqb _ _ if1.false) (carried _ k (sym k.number))));
      onward = goes_on (omega (arith, w.past, k.at)) (omega (arith, w.within, k.at)) (omega (arith, w.few, k.count));
    }
