use Rattle.read_state.proofs.Going.{passed}
use Rattle.grammar.specs.Constants.{read_range}
use Rattle.read_state.specs.Promises.Reading.{rule_number}
use Rattle.read_state.proofs.Reasons.{some_rule}
use Rattle.read_state.proofs.Steps.{on, on_told, off, so, other, carried, refused_last}
use Rattle.read_state.proofs.Going.{nowhere, went, goes_on, still}
use native.Mathlib.Omega.{arith}
use mathlib.Core.Path.{◌∙◌, refl, sym, ap}
use borrow.Author.Tests.{eq-eqb}
use Rattle.read_constants.proofs.read_range.Goals as goal

pub returns-in_err-low : goal.returns-in_err-low
unfolding read_range
returns-in_err-low c =
    let read_signed = c.read_signed in
    let y = c.in_err-low.was in
    rw (passed c.from_residual.ensures.1 y)
    record { gives = off _ read_signed.ensures.gives y; onward = nowhere y }

pub returns-in_err-a : goal.returns-in_err-a
unfolding read_range
returns-in_err-a c =
    let read_signed = c.read_signed in
    let expect = c.expect in
    let y = c.in_err-a.was in
    rw (passed c.from_residual-in_err-a.ensures.1 y)
    record {
      gives = on_told _ read_signed.ensures.gives c.in_ok-low.was (off _ (expect.ensures.gives _ _) y);
      onward = nowhere y;
    }

pub returns-in_err-high : goal.returns-in_err-high
unfolding read_range
returns-in_err-high c =
    let read_signed = c.read_signed in
    let expect = c.expect in
    let read-signed2 = c.read_signed-2 in
    let y = c.in_err-high.was in
    rw (passed c.from_residual-in_err-high.ensures.1 y)
    record {
      gives =
          on_told _ read_signed.ensures.gives c.in_ok-low.was
          (on _ (expect.ensures.gives _ _) c.in_ok-a.was
          (λ _ _. off _ read-signed2.ensures.gives y));
      onward = nowhere y;
    }

pub overflow_sub-high : goal.overflow_sub-high
overflow_sub-high c =
    let read-signed2 = c.read_signed-2 in
    omega (arith, (went read-signed2.ensures.onward c.in_ok-high.was).past)

pub refuse-requires : goal.refuse-requires
refuse-requires c =
    let pre = c.requires in
    (pre.tokens, c.read_signed-2.auto.words ∙ c.read_signed.auto.words ∙ pre.table)

pub returns-in-Some : goal.returns-in-Some
unfolding read_range
returns-in-Some c =
    let y = c.refuse.ensures in
    let broken = ap rule_number (sym c.in-Some.is) ∙ c.range_rule.ensures in
    record {
      gives =
          on_told _ c.read_signed.ensures.gives c.in_ok-low.was
          (on _ (c.expect.ensures.gives _ _) c.in_ok-a.was
          (λ _ _. on_told _ c.read_signed-2.ensures.gives c.in_ok-high.was
          (other _ _ (some_rule _ broken)
          (refused_last _ (rw broken at y)))));
      onward = nowhere y;
    }

pub returns : goal.returns
unfolding read_range
returns c =
    let u = went c.read_signed.ensures.onward c.in_ok-low.was in
    let v = went c.expect.ensures.onward c.in_ok-a.was in
    let w = went c.read_signed-2.ensures.onward c.in_ok-high.was in
    let k = c.with_value.ensures in
    record {
      gives =
          on_told _ c.read_signed.ensures.gives c.in_ok-low.was
          (on _ (c.expect.ensures.gives _ _) c.in_ok-a.was
          (λ _ _. on_told _ c.read_signed-2.ensures.gives c.in_ok-high.was
          (so _ _ (eq-eqb _ _ (sym (ap rule_number (sym c.in_default.is) ∙ c.range_rule.ensures)))
          (carried _ k (rw (k.value, k.low))))));
      onward =
          goes_on
          (omega (arith, u.past, v.past, w.past, k.at))
          (omega (arith, w.within, k.at))
          (omega (arith, u.few, v.few, w.few, k.count));
    }
