use Rattle.read_state.proofs.Going.{passed}
use Rattle.grammar.specs.Constants.{array_head}
use Rattle.read_state.proofs.Steps.{on, off}
use Rattle.read_state.proofs.Going.{nowhere, went, further, still}
use native.Mathlib.Omega.{arith}
use mathlib.Core.Path.{refl}
use Rattle.read_constants.proofs.array_head.Goals as goal

pub returns-in_err-a : goal.returns-in_err-a
unfolding array_head
returns-in_err-a c =
    let opening = c.opening in
    let y = c.in_err-a.was in
    rw (passed c.from_residual.ensures.1 y)
    record { gives = off _ (opening.ensures.gives _ _) y; onward = nowhere y }

pub returns-in_err-b : goal.returns-in_err-b
unfolding array_head
returns-in_err-b c =
    let opening = c.opening in
    let expect = c.expect in
    let y = c.in_err-b.was in
    rw (passed c.from_residual-in_err-b.ensures.1 y)
    record {
      gives = on _ (opening.ensures.gives _ _) c.in_ok-a.was (λ _ _. off _ (expect.ensures.gives _ _) y);
      onward = nowhere y;
    }

pub returns-in_err-d : goal.returns-in_err-d
unfolding array_head
returns-in_err-d c =
    let opening = c.opening in
    let expect = c.expect in
    let expect2 = c.expect-2 in
    let y = c.in_err-d.was in
    rw (passed c.from_residual-in_err-d.ensures.1 y)
    record {
      gives =
          on _ (opening.ensures.gives _ _) c.in_ok-a.was
          (λ _ _. on _ (expect.ensures.gives _ _) c.in_ok-b.was
          (λ _ _. off _ (expect2.ensures.gives _ _) y));
      onward = nowhere y;
    }

pub read_size-requires : goal.read_size-requires
read_size-requires c =
    let pre = c.requires in
    let opening = c.opening in
    let expect = c.expect in
    let expect2 = c.expect-2 in
    let u = went opening.ensures.onward c.in_ok-a.was in
    let v = went expect.ensures.onward c.in_ok-b.was in
    let w = went expect2.ensures.onward c.in_ok-d.was in
    still pre.0 refl refl w (omega (arith, u.few, v.few, pre.0.few))

pub returns : goal.returns
unfolding array_head
returns c =
    let opening = c.opening in
    let expect = c.expect in
    let expect2 = c.expect-2 in
    let read_size = c.read_size in
    let u = went opening.ensures.onward c.in_ok-a.was in
    let v = went expect.ensures.onward c.in_ok-b.was in
    let w = went expect2.ensures.onward c.in_ok-d.was in
    record {
      gives =
          on _ (opening.ensures.gives _ _) c.in_ok-a.was
          (λ _ _. on _ (expect.ensures.gives _ _) c.in_ok-b.was
          (λ _ _. on _ (expect2.ensures.gives _ _) c.in_ok-d.was
          (λ _ _. read_size.ensures.gives)));
      onward = further read_size.ensures.onward (omega (arith, u.past, v.past, w.past)) (omega (arith, u.few, v.few, w.few));
    }
