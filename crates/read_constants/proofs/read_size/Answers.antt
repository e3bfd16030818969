use Rattle.read_state.proofs.Going.{passed}
use Rattle.grammar.specs.Constants.{read_size}
use Rattle.read_state.proofs.Steps.{on_told, off, so, other, returned, refused_last}
use Rattle.read_state.proofs.Going.{nowhere, went, goes_on}
use native.Mathlib.Omega.{arith}
use mathlib.Core.Path.{◌∙◌, refl}
use Rattle.read_constants.proofs.Values.{size_test}
use Rattle.read_constants.proofs.read_size.Goals as goal

pub returns-in_err-a : goal.returns-in_err-a
unfolding read_size
returns-in_err-a c =
    let read_constant = c.read_constant in
    let y = c.in_err-a.was in
    rw (passed c.from_residual.ensures.1 y)
    record { gives = off _ read_constant.ensures.gives y; onward = nowhere y }

pub returns-then-within : goal.returns-then-within
unfolding read_size
returns-then-within c =
    let read_constant = c.read_constant in
    let decode = c.decode-v in
    let within = c.within in
    let if1 = c.if-within in
    let w = went read_constant.ensures.onward c.in_ok-a.was in
    record {
      gives =
          on_told _ read_constant.ensures.gives c.in_ok-a.was
          (so _ _ (size_test c.in_ok-a.a.value decode.ensures within.ensures ∙ if1.true)
          (returned _ refl));
      onward = goes_on w.past w.within w.few;
    }

pub overflow_sub-a : goal.overflow_sub-a
overflow_sub-a c =
    let read_constant = c.read_constant in
    omega (arith, (went read_constant.ensures.onward c.in_ok-a.was).past)

pub returns : goal.returns
unfolding read_size
returns c =
    let read_constant = c.read_constant in
    let decode = c.decode-v in
    let within = c.within in
    let if1 = c.if-within in
    let refuse = c.refuse in
    let y = refuse.ensures in
    record {
      gives =
          on_told _ read_constant.ensures.gives c.in_ok-a.was
          (other _ _ (size_test c.in_ok-a.a.value decode.ensures within.ensures ∙ if1.false)
          (refused_last _ y));
      onward = nowhere y;
    }
