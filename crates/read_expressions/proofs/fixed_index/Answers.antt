use Rattle.read_state.proofs.Going.{passed}
use mathlib.Core.Path.{refl}
use native.Mathlib.Omega.{arith}
use Rattle.grammar.specs.Expressions.{fixed_index}
use Rattle.read_state.proofs.Steps.{on, off, on_told, here, put_in, returned}
use Rattle.read_state.proofs.Going.{nowhere, went, goes_on}
use Rattle.read_expressions.proofs.Indices.{put_decoded}
use Rattle.read_expressions.proofs.fixed_index.Goals as goal

pub returns-in_err-a : goal.returns-in_err-a
unfolding fixed_index
returns-in_err-a c =
    let read_signed = c.read_signed in
    rw (passed c.from_residual.ensures.1 c.in_err-a.was)
    λ t. record { gives = here _ (off _ read_signed.ensures.gives c.in_err-a.was); onward = nowhere c.in_err-a.was }

pub returns : goal.returns
unfolding fixed_index
returns c =
    let read_signed = c.read_signed in
    let put_word = c.put_word in
    λ t. let w = went read_signed.ensures.onward c.in_ok-a.was in record { gives = here _ (on_told _ read_signed.ensures.gives c.in_ok-a.was (on _ (put_decoded _ c.in_ok-a.a.value (omega arith) (put_in _ 3 _ put_word.ensures)) refl (λ _ _. returned _ tt))); onward = goes_on w.past w.within w.few }
