use Rattle.read_state.proofs.Going.{passed}
use Rattle.grammar.specs.Constants.{read_declaration}
use Rattle.read_state.proofs.Steps.{on, on_told, off, here, advanced, put_in}
use Rattle.read_state.proofs.Going.{nowhere, went, goes_on, still}
use native.Mathlib.Omega.{arith}
use mathlib.Core.Path.{◌∙◌, refl}
use Rattle.read_constants.proofs.read_declaration.Goals as goal

pub returns-in_err-a : goal.returns-in_err-a
unfolding read_declaration
returns-in_err-a c =
    let moved = c.moved in
    let fresh = c.fresh in
    let m = moved.ensures in
    let y = c.in_err-a.was in
    rw (passed c.from_residual.ensures.1 y)
    record {
      gives = here _ (on _ (advanced m) refl (λ _ _. off _ fresh.ensures.gives y));
      onward = nowhere y;
    }

pub overflow_sub-a : goal.overflow_sub-a
overflow_sub-a c =
    let fresh = c.fresh in
    omega (arith, (went fresh.ensures.onward c.in_ok-a.was).past)

pub constant_value-requires : goal.constant_value-requires
constant_value-requires c =
    let pre = c.requires in
    let fresh = c.fresh in
    let w = went fresh.ensures.onward c.in_ok-a.was in
    (still pre.0 refl refl w (omega arith), omega (arith, w.few), omega (arith, w.past, w.within))

pub returns-in_err-past : goal.returns-in_err-past
unfolding read_declaration
returns-in_err-past c =
    let moved = c.moved in
    let fresh = c.fresh in
    let constant_value = c.constant_value in
    let m = moved.ensures in
    let y = c.in_err-past.was in
    rw (passed c.from_residual-in_err-past.ensures.1 y)
    record {
      gives =
          here _
          (on _ (advanced m) refl
          (λ _ _. on_told _ fresh.ensures.gives c.in_ok-a.was
          (off _ constant_value.ensures.gives y)));
      onward = nowhere y;
    }

pub overflow_cast-past : goal.overflow_cast-past
overflow_cast-past c =
    let pre = c.requires in
    let constant_value = c.constant_value in
    omega (arith, (went constant_value.ensures.onward c.in_ok-past.was).within, pre.0.tokens)

pub put_word-requires : goal.put_word-requires
put_word-requires c =
    let pre = c.requires in
    let constant_value = c.constant_value in
    (omega arith, constant_value.auto.words ∙ pre.0.table)

pub returns : goal.returns
unfolding read_declaration
returns c =
    let moved = c.moved in
    let fresh = c.fresh in
    let constant_value = c.constant_value in
    let put_word = c.put_word in
    let m = moved.ensures in
    let w = went fresh.ensures.onward c.in_ok-a.was in
    let v = went constant_value.ensures.onward c.in_ok-past.was in
    record {
      gives =
          here _
          (on _ (advanced m) refl
          (λ _ _. on_told _ fresh.ensures.gives c.in_ok-a.was
          (on _ constant_value.ensures.gives c.in_ok-past.was
          (λ _ _. here _
          (put_in _ _ _ put_word.ensures)))));
      onward = goes_on (omega (arith, m.at, w.past, v.past)) v.within v.few;
    }
