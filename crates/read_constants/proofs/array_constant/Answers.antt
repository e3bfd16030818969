use Rattle.read_state.proofs.Going.{passed}
use Rattle.grammar.specs.Constants.{array_constant}
use Rattle.read_state.proofs.Steps.{on, off, here, returned, put_in, declared}
use Rattle.read_state.proofs.Going.{nowhere, went, goes_on, still}
use native.Mathlib.Omega.{arith}
use mathlib.Core.Path.{◌∙◌, refl}
use Rattle.read_constants.proofs.Values.{word_of}
use Rattle.read_constants.proofs.array_constant.Goals as goal

pub returns-in_err-size : goal.returns-in_err-size
unfolding array_constant
returns-in_err-size c =
    let array_head = c.array_head in
    let y = c.in_err-size.was in
    rw (passed c.from_residual.ensures.1 y)
    record { gives = off _ array_head.ensures.gives y; onward = nowhere y }

pub returns-in_err-first : goal.returns-in_err-first
unfolding array_constant
returns-in_err-first c =
    let array_head = c.array_head in
    let expect = c.expect in
    let y = c.in_err-first.was in
    rw (passed c.from_residual-in_err-first.ensures.1 y)
    record {
      gives =
          on _ array_head.ensures.gives c.in_ok-size.was
          (λ _ _. off _ (expect.ensures.gives _ _) y);
      onward = nowhere y;
    }

pub read_values-requires : goal.read_values-requires
read_values-requires c =
    let pre = c.requires in
    let array_head = c.array_head in
    let expect = c.expect in
    let u = went array_head.ensures.onward c.in_ok-size.was in
    let v = went expect.ensures.onward c.in_ok-first.was in
    still pre.0 refl array_head.auto.words v (omega (arith, u.few, pre.0.few))

pub returns-in_err-a : goal.returns-in_err-a
unfolding array_constant
returns-in_err-a c =
    let array_head = c.array_head in
    let known-told = c.in_ok-size.known_told-1-own in
    let expect = c.expect in
    let read_values = c.read_values in
    let y = c.in_err-a.was in
    rw (passed c.from_residual-in_err-a.ensures.1 y)
    record {
      gives =
          on _ array_head.ensures.gives c.in_ok-size.was
          (λ z e. rw (word_of c.in_ok-size.size.value e (omega (arith, known-told.given)))
          (on _ (expect.ensures.gives _ _) c.in_ok-first.was
          (λ _ _. here _
          (off _ read_values.ensures.gives y))));
      onward = nowhere y;
    }

pub put_word-requires : goal.put_word-requires
put_word-requires c =
    let pre = c.requires in
    let array_head = c.array_head in
    let read_values = c.read_values in
    (omega arith, read_values.auto.words ∙ array_head.auto.words ∙ pre.0.table)

pub overflow_cast-first : goal.overflow_cast-first
overflow_cast-first c =
    let pre = c.requires in
    let expect = c.expect in
    omega (arith, (went expect.ensures.onward c.in_ok-first.was).within, pre.0.tokens)

pub put_word-requires-2 : goal.put_word-requires-2
put_word-requires-2 c =
    let pre = c.requires in
    let array_head = c.array_head in
    let read_values = c.read_values in
    let put_word = c.put_word in
    (omega arith, put_word.auto.words ∙ read_values.auto.words ∙ array_head.auto.words ∙ pre.0.table)

pub overflow_cast-i : goal.overflow_cast-i
overflow_cast-i c =
    let pre = c.requires in
    omega (arith, pre.3, pre.0.tokens)

pub declare-requires : goal.declare-requires
declare-requires c =
    let pre = c.requires in
    let array_head = c.array_head in
    let expect = c.expect in
    let read_values = c.read_values in
    let put_word = c.put_word in
    let put-word2 = c.put_word-2 in
    let u = went array_head.ensures.onward c.in_ok-size.was in
    let v = went expect.ensures.onward c.in_ok-first.was in
    let w = went read_values.ensures.onward c.in_ok-a.was in (
      pre.0.tokens,
      put-word2.auto.words ∙ put_word.auto.words ∙ read_values.auto.words ∙ array_head.auto.words ∙ pre.0.table,
      omega (arith, u.few, v.few, w.few, pre.2),
      pre.0.list,
    )

pub returns : goal.returns
unfolding array_constant
returns c =
    let pre = c.requires in
    let array_head = c.array_head in
    let known-told = c.in_ok-size.known_told-1-own in
    let expect = c.expect in
    let read_values = c.read_values in
    let put_word = c.put_word in
    let put-word2 = c.put_word-2 in
    let declare = c.declare in
    let u = went array_head.ensures.onward c.in_ok-size.was in
    let v = went expect.ensures.onward c.in_ok-first.was in
    let w = went read_values.ensures.onward c.in_ok-a.was in
    let d = declare.ensures in
    record {
      gives =
          on _ array_head.ensures.gives c.in_ok-size.was
          (λ z e. rw (word_of c.in_ok-size.size.value e (omega (arith, known-told.given)))
          (on _ (expect.ensures.gives _ _) c.in_ok-first.was
          (λ _ _. here _
          (on _ read_values.ensures.gives c.in_ok-a.was
          (λ _ _. on _ (on _ (put_in _ _ _ put_word.ensures) refl (λ _ _. put_in _ _ _ put-word2.ensures)) refl
          (λ _ _. on _ (declared _ _ _ d) refl
          (λ _ _. returned _ tt)))))));
      onward =
          goes_on
          (omega (arith, u.past, v.past, w.past, d.at))
          (omega (arith, w.within, d.at))
          (omega (arith, u.few, v.few, w.few, d.count, pre.2));
    }
