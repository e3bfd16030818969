use Rattle.read_state.proofs.Going.{passed}
use Rattle.grammar.specs.Constants.{read_values, value_turn}
use Rattle.read_state.proofs.Steps.{on, off, so, other, token, refused, returned, advanced, put_in, noted}
use Rattle.read_state.proofs.Turns.{turn_first, turn_again, turn_done, turn_refused, with_this}
use Rattle.read_state.proofs.Going.{nowhere, went, goes_on}
use native.Mathlib.Omega.{arith}
use mathlib.Core.Path.{◌∙◌, refl}
use borrow.Author.Tests.{eq-eqb, ne_eqb, le-leb, lt-leb}
use Rattle.read_constants.proofs.Values.{word_of}
use Rattle.read_constants.proofs.read_values.Goals as goal

pub loop-a-init : goal.loop-a-init
unfolding read_values
loop-a-init c =
    let pre = c.requires in
    (turn_first 0 refl, pre.table, pre.here, omega arith, omega arith)

pub read_signed-requires : goal.read_signed-requires
read_signed-requires c =
    let pre = c.requires in
    let loop = c.loop-a in
    record { tokens = pre.tokens; table = loop.invariant.1; list = pre.list; here = loop.invariant.2; few = omega (arith, loop.invariant.3, pre.few) }

pub returns-in_err-a : goal.returns-in_err-a
unfolding value_turn
returns-in_err-a c =
    let pre = c.requires in
    let loop = c.loop-a in
    let read_signed = c.read_signed in
    let y = c.in_err-a.was in
    rw (passed c.from_residual.ensures.1 y)
    record {
      gives = turn_refused loop.invariant.0 (omega (arith, loop.invariant.2, pre.tokens)) (with_this _ _ (off _ read_signed.ensures.gives y)) y;
      onward = nowhere y;
    }

pub overflow_add-s : goal.overflow_add-s
overflow_add-s c =
    let pre = c.requires in
    let loop = c.loop-a in
    omega (arith, loop.invariant.4, loop.invariant.2, pre.tokens)

pub put_word-requires : goal.put_word-requires
put_word-requires c =
    let loop = c.loop-a in
    let read_signed = c.read_signed in
    (omega arith, read_signed.auto.words ∙ loop.invariant.1)

pub token_at-t-requires : goal.token_at-t-requires
token_at-t-requires c =
    let pre = c.requires in
    let loop = c.loop-a in
    let read_signed = c.read_signed in
    let put_word = c.put_word in
    (pre.tokens, put_word.auto.words ∙ read_signed.auto.words ∙ loop.invariant.1)

pub overflow_add-next : goal.overflow_add-next
overflow_add-next c =
    let pre = c.requires in
    let loop = c.loop-a in
    omega (arith, loop.invariant.4, loop.invariant.2, pre.tokens)

pub returns-then-most-next : goal.returns-then-most-next
unfolding value_turn
returns-then-most-next c =
    let pre = c.requires in
    let loop = c.loop-a in
    let read_signed = c.read_signed in
    let known-told = c.in_ok-a.known_told-1-own in
    let put_word = c.put_word in
    let token_at = c.token_at-t in
    let if1 = c.if-t-ne-COMMA in
    let if2 = c.if-most-next in
    let w = went read_signed.ensures.onward c.in_ok-a.was in
    record {
      gives =
          turn_done loop.invariant.0 (omega (arith, loop.invariant.2, pre.tokens))
          (with_this _ _ (on _ read_signed.ensures.gives c.in_ok-a.was
          (λ z e. rw (word_of c.in_ok-a.a.value e (omega (arith, known-told.given)))
          (on _ (put_in _ _ _ put_word.ensures) refl
          (λ _ _. token _ token_at.ensures
          (other _ _ (ne_eqb _ _ if1.true)
          (so _ _ (le-leb _ _ if2.true)
          (returned _ tt))))))));
      onward = goes_on (omega (arith, loop.invariant.4, w.past)) w.within (omega (arith, w.few, loop.invariant.3));
    }

pub noting-requires : goal.noting-requires
noting-requires c =
    let pre = c.requires in
    let loop = c.loop-a in
    let read_signed = c.read_signed in
    let put_word = c.put_word in
    (pre.tokens, put_word.auto.words ∙ read_signed.auto.words ∙ loop.invariant.1)

pub returns-then-t-ne-COMMA : goal.returns-then-t-ne-COMMA
unfolding value_turn
returns-then-t-ne-COMMA c =
    let pre = c.requires in
    let loop = c.loop-a in
    let read_signed = c.read_signed in
    let known-told = c.in_ok-a.known_told-1-own in
    let put_word = c.put_word in
    let token_at = c.token_at-t in
    let if1 = c.if-t-ne-COMMA in
    let if2 = c.if-most-next in
    let noting = c.noting in
    let w = went read_signed.ensures.onward c.in_ok-a.was in
    let n = noting.ensures in
    record {
      gives =
          turn_done loop.invariant.0 (omega (arith, loop.invariant.2, pre.tokens))
          (with_this _ _ (on _ read_signed.ensures.gives c.in_ok-a.was
          (λ z e. rw (word_of c.in_ok-a.a.value e (omega (arith, known-told.given)))
          (on _ (put_in _ _ _ put_word.ensures) refl
          (λ _ _. token _ token_at.ensures
          (other _ _ (ne_eqb _ _ if1.true)
          (other _ _ (lt-leb _ _ if2.false)
          (on _ (noted _ n) refl
          (λ _ _. returned _ tt)))))))));
      onward =
          goes_on
          (omega (arith, loop.invariant.4, w.past, n.at))
          (omega (arith, w.within, n.at))
          (omega (arith, w.few, loop.invariant.3, n.count));
    }

pub refuse-requires : goal.refuse-requires
refuse-requires c =
    let pre = c.requires in
    let loop = c.loop-a in
    let read_signed = c.read_signed in
    let put_word = c.put_word in
    (pre.tokens, put_word.auto.words ∙ read_signed.auto.words ∙ loop.invariant.1)

pub returns-then-most-next-2 : goal.returns-then-most-next-2
unfolding value_turn
returns-then-most-next-2 c =
    let pre = c.requires in
    let loop = c.loop-a in
    let read_signed = c.read_signed in
    let known-told = c.in_ok-a.known_told-1-own in
    let put_word = c.put_word in
    let token_at = c.token_at-t in
    let if1 = c.if-t-ne-COMMA in
    let if3 = c.if-most-next-2 in
    let refuse = c.refuse in
    let y = refuse.ensures in
    record {
      gives =
          turn_refused loop.invariant.0 (omega (arith, loop.invariant.2, pre.tokens))
          (with_this _ _ (on _ read_signed.ensures.gives c.in_ok-a.was
          (λ z e. rw (word_of c.in_ok-a.a.value e (omega (arith, known-told.given)))
          (on _ (put_in _ _ _ put_word.ensures) refl
          (λ _ _. token _ token_at.ensures
          (so _ _ (eq-eqb _ _ if1.false)
          (so _ _ (le-leb _ _ if3.true)
          (refused _ y))))))))
          y;
      onward = nowhere y;
    }

pub moved-here-requires : goal.moved-here-requires
moved-here-requires c =
    let pre = c.requires in
    let token_at = c.token_at-t in
    let if1 = c.if-t-ne-COMMA in
    omega (arith, token_at.ensures.inside, if1.false, pre.tokens)

pub loop-a-smaller : goal.loop-a-smaller
loop-a-smaller c =
    let pre = c.requires in
    let loop = c.loop-a in
    let read_signed = c.read_signed in
    let moved = c.moved-here in
    let w = went read_signed.ensures.onward c.in_ok-a.was in omega (arith, w.past, moved.ensures.at, loop.invariant.2, pre.tokens)

pub loop-a-preserved : goal.loop-a-preserved
unfolding value_turn
loop-a-preserved c =
    let pre = c.requires in
    let loop = c.loop-a in
    let read_signed = c.read_signed in
    let known-told = c.in_ok-a.known_told-1-own in
    let put_word = c.put_word in
    let token_at = c.token_at-t in
    let if1 = c.if-t-ne-COMMA in
    let if3 = c.if-most-next-2 in
    let moved = c.moved-here in
    let w = went read_signed.ensures.onward c.in_ok-a.was in
    let m = moved.ensures in (
      turn_again loop.invariant.0 (omega (arith, loop.invariant.2, pre.tokens))
          (with_this _ _ (on _ read_signed.ensures.gives c.in_ok-a.was
          (λ z e. rw (word_of c.in_ok-a.a.value e (omega (arith, known-told.given)))
          (on _ (put_in _ _ _ put_word.ensures) refl
          (λ _ _. token _ token_at.ensures
          (so _ _ (eq-eqb _ _ if1.false)
          (other _ _ (lt-leb _ _ if3.false)
          (on _ (advanced m) refl
          (λ _ _. returned _ refl)))))))))
          (omega (arith, w.past, m.at)),
      put_word.auto.words ∙ read_signed.auto.words ∙ loop.invariant.1,
      omega (arith, token_at.ensures.inside, if1.false, m.at),
      omega (arith, w.few, m.count, loop.invariant.3),
      omega (arith, w.past, m.at, loop.invariant.4),
    )
