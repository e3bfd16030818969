use Rattle.read_state.proofs.Going.{nowhere, went, goes_on, passed_by}
use native.Mathlib.Omega.{arith}
use mathlib.Core.Path.{◌∙◌, refl}
use Rattle.grammar.specs.Source.{read_cell}
use Rattle.read_state.specs.Promises.Reading.{anything}
use Rattle.read_state.proofs.Steps.{on, off, here, no_further}
use lib.IntN.{pos}
use Rattle.read_declaration.specs.Promises.Fields.{next_in}
use Rattle.read_declaration.proofs.Cells.{told_at, stopped, cell_of}
use Rattle.read_declaration.proofs.read_cell.Goals as goal

pub returns-in_err-a : goal.returns-in_err-a
unfolding read_cell
returns-in_err-a c =
    let read_dims = c.read_dims in
    let y = c.in_err-a.was in
    let e = passed_by next_in (λ f. refl) _ c.from_residual.ensures.1 y in
    record { gives = stopped (off {Q = anything} _ read_dims.ensures.gives y) e y; onward = nowhere (e ∙ y) }

pub returns-in_err-b : goal.returns-in_err-b
unfolding read_cell
returns-in_err-b c =
    let read_dims = c.read_dims in
    let expect = c.expect in
    let y = c.in_err-b.was in
    let e = passed_by next_in (λ f. refl) _ c.from_residual-in_err-b.ensures.1 y in
    record {
      gives = stopped (on {Q = anything} _ read_dims.ensures.gives c.in_ok-a.was (λ z d. off _ (expect.ensures.gives _ _) y)) e y;
      onward = nowhere (e ∙ y);
    }

pub expect-requires-2 : goal.expect-requires-2
expect-requires-2 c =
    let pre = c.requires in
    let read_dims = c.read_dims in
    (pre.tokens, read_dims.auto.words ∙ pre.table, omega arith)

pub returns-in_err-e : goal.returns-in_err-e
unfolding read_cell
returns-in_err-e c =
    let read_dims = c.read_dims in
    let expect = c.expect in
    let expect2 = c.expect-2 in
    let y = c.in_err-e.was in
    let e = passed_by next_in (λ f. refl) _ c.from_residual-in_err-e.ensures.1 y in
    record {
      gives =
          stopped (on {Q = anything} _ read_dims.ensures.gives c.in_ok-a.was (λ z d. on _ (expect.ensures.gives _ _) c.in_ok-b.was
          (λ _ _. here _ (off _ (expect2.ensures.gives _ _) y)))) e y;
      onward = nowhere (e ∙ y);
    }

pub read_fields-requires : goal.read_fields-requires
read_fields-requires c =
    let pre = c.requires in
    let read_dims = c.read_dims in
    let expect = c.expect in
    let expect2 = c.expect-2 in
    let a = went read_dims.ensures.onward c.in_ok-a.was in
    let b = went expect.ensures.onward c.in_ok-b.was in
    let d = went expect2.ensures.onward c.in_ok-e.was in
    let i = pre in
    (record { tokens = i.tokens; table = read_dims.auto.words ∙ i.table; list = i.list; here = d.within; few = omega (arith, d.few, b.few, a.few, i.few) }, omega (arith, d.past))

pub returns-in_err-d : goal.returns-in_err-d
unfolding read_cell
returns-in_err-d c =
    let read_dims = c.read_dims in
    let expect = c.expect in
    let expect2 = c.expect-2 in
    let read_fields = c.read_fields in
    let y = c.in_err-d.was in
    let e = passed_by next_in (λ f. refl) _ c.from_residual-in_err-d.ensures.1 y in
    record {
      gives =
          stopped (on {Q = anything} _ read_dims.ensures.gives c.in_ok-a.was (λ z d. on _ (expect.ensures.gives _ _) c.in_ok-b.was
          (λ _ _. here _ (on _ (expect2.ensures.gives _ _) c.in_ok-e.was (λ _ _. no_further (read_fields.ensures z).gives y))))) e y;
      onward = nowhere (e ∙ y);
    }

pub returns : goal.returns
unfolding read_cell
returns c =
    let read_dims = c.read_dims in
    let expect = c.expect in
    let expect2 = c.expect-2 in
    let read_fields = c.read_fields in
    let a = went read_dims.ensures.onward c.in_ok-a.was in
    let b = went expect.ensures.onward c.in_ok-b.was in
    let d = went expect2.ensures.onward c.in_ok-e.was in
    let g = went (read_fields.ensures (pos 0)).onward c.in_ok-d.was in
    record {
      gives =
          on _ read_dims.ensures.gives c.in_ok-a.was (λ z x. on _ (expect.ensures.gives _ _) c.in_ok-b.was (λ _ _. here _
          (on _ (expect2.ensures.gives _ _) c.in_ok-e.was (λ _ _. told_at (read_fields.ensures z).gives c.in_ok-d.was
          (λ _ g. cell_of _ x g refl refl refl)))));
      onward = goes_on (omega (arith, a.past, b.past, d.past, g.past)) g.within g.few;
    }
