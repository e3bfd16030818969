use Rattle.read_state.proofs.Going.{passed}
use Rattle.read_state.proofs.Steps.{no_further}
use Rattle.read_state.proofs.Going.{nowhere, went, goes_on}
use native.Mathlib.Omega.{arith}
use Rattle.read_statements.proofs.Single.{carried_on}
use Rattle.read_statements.proofs.read_end.Goals as goal

pub returns-in_err-a : goal.returns-in_err-a
returns-in_err-a c =
    let expect = c.expect in
    rw (passed c.from_residual.ensures.1 c.in_err-a.was)
    record { gives = λ _ _. no_further (expect.ensures.gives _ _) c.in_err-a.was; onward = nowhere c.in_err-a.was }

pub returns : goal.returns
returns c =
    let expect = c.expect in
    let carrying_more = c.with_more in
    let k = carrying_more.ensures in
    let w = went expect.ensures.onward c.in_ok-a.was in
    record {
      gives = λ _ _. carried_on (expect.ensures.gives _ _) c.in_ok-a.was k (λ _ _. k.more);
      onward = goes_on (omega (arith, w.past, k.at)) (omega (arith, w.within, k.at)) (omega (arith, w.few, k.count));
    }
