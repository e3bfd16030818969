use Rattle.read_state.proofs.Going.{passed}
use Rattle.grammar.specs.Constants.{simple_constant}
use Rattle.read_state.proofs.Steps.{on, off, returned, advanced, declared}
use Rattle.read_state.proofs.Going.{nowhere, went, goes_on}
use native.Mathlib.Omega.{arith}
use mathlib.Core.Path.{◌∙◌, refl}
use Rattle.read_constants.proofs.Values.{word_of}
use Rattle.read_constants.proofs.simple_constant.Goals as goal

pub returns-in_err-a : goal.returns-in_err-a
unfolding simple_constant
returns-in_err-a c =
    let moved = c.moved in
    let read_signed = c.read_signed in
    let m = moved.ensures in
    let y = c.in_err-a.was in
    rw (passed c.from_residual.ensures.1 y)
    record { gives = on _ (advanced m) refl (λ _ _. off _ read_signed.ensures.gives y); onward = nowhere y }

pub declare-requires : goal.declare-requires
declare-requires c =
    let pre = c.requires in
    let moved = c.moved in
    let read_signed = c.read_signed in
    let m = moved.ensures in
    let w = went read_signed.ensures.onward c.in_ok-a.was in
    (pre.0.tokens, read_signed.auto.words ∙ pre.0.table, omega (arith, w.few, m.count, pre.2), pre.0.list)

pub returns : goal.returns
unfolding simple_constant
returns c =
    let pre = c.requires in
    let moved = c.moved in
    let read_signed = c.read_signed in
    let known-told = c.in_ok-a.known_told-1-own in
    let declare = c.declare in
    let m = moved.ensures in
    let w = went read_signed.ensures.onward c.in_ok-a.was in
    let d = declare.ensures in
    record {
      gives =
          on _ (advanced m) refl
          (λ _ _. on _ read_signed.ensures.gives c.in_ok-a.was
          (λ z e. rw (word_of c.in_ok-a.a.value e (omega (arith, known-told.given)))
          (on _ (declared _ _ _ d) refl
          (λ _ _. returned _ tt))));
      onward =
          goes_on
          (omega (arith, w.past, m.at, d.at))
          (omega (arith, w.within, d.at))
          (omega (arith, w.few, m.count, d.count, pre.2));
    }
