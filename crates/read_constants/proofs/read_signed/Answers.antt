use Rattle.read_state.proofs.Going.{passed}
use Rattle.grammar.specs.Constants.{read_signed}
use Rattle.value.specs.Worked.{decode_of}
use Rattle.read_state.proofs.Steps.{on, on_told, off, so, other, token, advanced, carried}
use Rattle.read_state.proofs.Going.{nowhere, went, further, goes_on}
use native.Mathlib.Omega.{arith}
use mathlib.Core.Path.{◌∙◌, refl, sym, ap}
use borrow.Author.Tests.{eq-eqb, ne_eqb}
use Rattle.read_constants.proofs.read_signed.Goals as goal

pub returns-in_err-a : goal.returns-in_err-a
unfolding read_signed
returns-in_err-a c =
    let token_at = c.token_at-t in
    let if1 = c.if-t-eq-MINUS in
    let moved = c.moved in
    let read_constant = c.read_constant in
    let m = moved.ensures in
    let y = c.in_err-a.was in
    rw (passed c.from_residual.ensures.1 y)
    record {
      gives =
          token _ token_at.ensures
          (so _ _ (eq-eqb _ _ if1.true)
          (off _ (on _ (advanced m) refl (λ _ _. read_constant.ensures.gives)) y));
      onward = nowhere y;
    }

pub returns-then-t-eq-MINUS : goal.returns-then-t-eq-MINUS
unfolding read_signed
returns-then-t-eq-MINUS c =
    let token_at = c.token_at-t in
    let if1 = c.if-t-eq-MINUS in
    let moved = c.moved in
    let read_constant = c.read_constant in
    let opposite = c.opposite in
    let with_value = c.with_value in
    let m = moved.ensures in
    let w = went read_constant.ensures.onward c.in_ok-a.was in
    record {
      gives =
          token _ token_at.ensures
          (so _ _ (eq-eqb _ _ if1.true)
          (on_told _ (on _ (advanced m) refl (λ _ _. read_constant.ensures.gives)) c.in_ok-a.was
          (carried _ with_value.ensures (ap decode_of (sym (with_value.ensures.value ∙ opposite.ensures))))));
      onward = goes_on (omega (arith, with_value.ensures.at, w.past, m.at)) (omega (arith, with_value.ensures.at, w.within)) (omega (arith, with_value.ensures.count, w.few, m.count));
    }

pub returns-then-t-eq-PLUS : goal.returns-then-t-eq-PLUS
unfolding read_signed
returns-then-t-eq-PLUS c =
    let token_at = c.token_at-t in
    let if1 = c.if-t-eq-MINUS in
    let if2 = c.if-t-eq-PLUS in
    let moved2 = c.moved-then-t-eq-PLUS in
    let read-constant2 = c.read_constant-then-t-eq-PLUS in
    let m = moved2.ensures in
    record {
      gives =
          token _ token_at.ensures
          (other _ _ (ne_eqb _ _ if1.false)
          (so _ _ (eq-eqb _ _ if2.true)
          (on _ (advanced m) refl (λ _ _. read-constant2.ensures.gives))));
      onward = further read-constant2.ensures.onward (omega (arith, m.at)) (omega (arith, m.count));
    }

pub returns : goal.returns
unfolding read_signed
returns c =
    let token_at = c.token_at-t in
    let if1 = c.if-t-eq-MINUS in
    let if2 = c.if-t-eq-PLUS in
    let read-constant3 = c.read_constant-2 in
    record {
      gives =
          token _ token_at.ensures
          (other _ _ (ne_eqb _ _ if1.false)
          (other _ _ (ne_eqb _ _ if2.false)
          read-constant3.ensures.gives));
      onward = read-constant3.ensures.onward;
    }
