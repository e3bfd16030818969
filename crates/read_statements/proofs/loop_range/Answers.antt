use Rattle.read_state.proofs.Going.{passed}
use Rattle.value.proofs.Theorems.Laws.{encode_decode}
use Rattle.read_state.proofs.Steps.{on, on_told, off, returned}
use Rattle.read_state.proofs.Going.{nowhere, went, goes_on}
use Rattle.read_statements.specs.Promises.Promises.{loop_range}
use native.Mathlib.Omega.{arith}
use mathlib.Core.Path.{refl}
use Rattle.read_statements.proofs.Single.{put_as}
use Rattle.read_statements.proofs.loop_range.Goals as goal

pub returns-in_err-a : goal.returns-in_err-a
unfolding loop_range
returns-in_err-a c =
    let expect = c.expect in
    rw (passed c.from_residual.ensures.1 c.in_err-a.was)
    record { gives = off _ (expect.ensures.gives _ _) c.in_err-a.was; onward = nowhere c.in_err-a.was }

pub returns-in_err-b : goal.returns-in_err-b
unfolding loop_range
returns-in_err-b c =
    let expect = c.expect in
    let read_range = c.read_range in
    rw (passed c.from_residual-in_err-b.ensures.1 c.in_err-b.was)
    record { gives = on _ (expect.ensures.gives _ _) c.in_ok-a.was (λ _ _. off _ read_range.ensures.gives c.in_err-b.was); onward = nowhere c.in_err-b.was }

pub returns : goal.returns
unfolding loop_range
returns c =
    let expect = c.expect in
    let read_range = c.read_range in
    let put_word = c.put_word in
    let put-word2 = c.put_word-2 in
    let v = went expect.ensures.onward c.in_ok-a.was in
    let w = went read_range.ensures.onward c.in_ok-b.was in
    record {
      gives = on _ (expect.ensures.gives _ _) c.in_ok-a.was (λ _ _. on_told _ read_range.ensures.gives c.in_ok-b.was (on _ (on _ (put_as _ _ _ (encode_decode c.in_ok-b.b.low (omega arith)) put_word.ensures) refl (λ _ _. put_as _ _ _ (encode_decode c.in_ok-b.b.value (omega arith)) put-word2.ensures)) refl (λ _ _. returned _ tt)));
      onward = goes_on (omega (arith, v.past, w.past)) w.within (omega (arith, v.few, w.few));
    }
