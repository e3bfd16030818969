use Rattle.read_state.proofs.Going.{passed}
use Rattle.read_state.proofs.Steps.{on, off, here, returned, put_in, released}
use Rattle.read_state.proofs.Going.{nowhere, went, goes_on}
use Rattle.read_statements.specs.Promises.Promises.{loop_end}
use native.Mathlib.Omega.{arith}
use mathlib.Core.Path.{refl}
use Rattle.read_statements.proofs.loop_end.Goals as goal

pub returns-in_err-a : goal.returns-in_err-a
unfolding loop_end
returns-in_err-a c =
    let expect = c.expect in
    rw (passed c.from_residual.ensures.1 c.in_err-a.was)
    λ source. record { gives = λ _ _. off _ (expect.ensures.gives _ _) c.in_err-a.was; onward = nowhere c.in_err-a.was }

pub returns : goal.returns
unfolding loop_end
returns c =
    let expect = c.expect in
    let remove_entry = c.remove_entry in
    let put_word = c.put_word in
    let put-word2 = c.put_word-2 in
    let e = c.released.ensures in
    λ source.
    let w = went expect.ensures.onward c.in_ok-a.was in
    record {
      gives = λ _ _.
          on _ (expect.ensures.gives _ _) c.in_ok-a.was
          (λ _ _. on _ (released _ e remove_entry.ensures) refl
          (λ _ _. here _
          (on _ (on _ (put_in _ _ _ put_word.ensures) refl (λ _ _. put_in _ _ _ (rw e.at put-word2.ensures))) refl
          (λ _ _. returned _ tt))));
      onward = goes_on (omega (arith, w.past, e.at)) (omega (arith, w.within, e.at)) (omega (arith, w.few, e.count));
    }
