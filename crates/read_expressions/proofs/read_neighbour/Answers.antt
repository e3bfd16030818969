use borrow.Author.Rules.{rules}
use Rattle.grammar.specs.Reader.{forbid}
use Rattle.token.specs.Kind.{delimiter}
use Rattle.read_state.proofs.Going.{passed}
use mathlib.Core.Path.{refl, ◌∙◌}
use native.Mathlib.Omega.{arith}
use Rattle.grammar.specs.Expressions.{read_neighbour}
use Rattle.read_state.proofs.Steps.{on, off, on_told, here, returned}
use Rattle.read_state.proofs.Going.{nowhere, went, goes_on}
use Rattle.read_expressions.proofs.Operands.{opening_as}
use Rattle.read_expressions.proofs.read_neighbour.Goals as goal

pub returns-in_err-a : goal.returns-in_err-a
unfolding read_neighbour
returns-in_err-a c =
    let args = c.args in
    let opening = c.opening in
    rw (passed c.from_residual.ensures.1 c.in_err-a.was)
    record { gives = here _ (off _ ((opening_as args.inside.free opening.ensures).gives _ _) c.in_err-a.was); onward = nowhere c.in_err-a.was }

pub returns-in_err-b : goal.returns-in_err-b
unfolding read_neighbour
returns-in_err-b c =
    let args = c.args in
    let opening = c.opening in
    let read_indices = c.read_indices in
    rw (passed c.from_residual-in_err-b.ensures.1 c.in_err-b.was)
    record {
      gives = here _ (on _ ((opening_as args.inside.free opening.ensures).gives _ _) c.in_ok-a.was (λ _ _. off _ read_indices.ensures.gives c.in_err-b.was));
      onward = nowhere c.in_err-b.was;
    }

pub returns-in_err-d : goal.returns-in_err-d
unfolding read_neighbour
returns-in_err-d c =
    let args = c.args in
    let opening = c.opening in
    let read_indices = c.read_indices in
    let field = c.read_field.ensures (forbid delimiter.dot 12) (λ r p. search rules) in
    rw (passed c.from_residual-in_err-d.ensures.1 c.in_err-d.was)
    record {
      gives = here _ (on _ ((opening_as args.inside.free opening.ensures).gives _ _) c.in_ok-a.was (λ _ _. on _ read_indices.ensures.gives c.in_ok-b.was (λ _ _. off _ field.gives c.in_err-d.was)));
      onward = nowhere c.in_err-d.was;
    }

pub put_field-requires : goal.put_field-requires
put_field-requires c =
    let pre = c.requires in
    let read_indices = c.read_indices in
    let field = c.read_field.ensures (forbid delimiter.dot 12) (λ r p. search rules) in
    let w = went field.onward c.in_ok-d.was in (read_indices.auto.words ∙ pre.0.table, omega (arith, w.within, pre.0.tokens))

pub returns : goal.returns
unfolding read_neighbour
returns c =
    let args = c.args in
    let opening = c.opening in
    let read_indices = c.read_indices in
    let field = c.read_field.ensures (forbid delimiter.dot 12) (λ r p. search rules) in
    let put_field = c.put_field in
    let u = went opening.ensures.onward c.in_ok-a.was in
    let v = went read_indices.ensures.onward c.in_ok-b.was in
    let w = went field.onward c.in_ok-d.was in
    record {
      gives = here _ (on _ ((opening_as args.inside.free opening.ensures).gives _ _) c.in_ok-a.was (λ _ _. on _ read_indices.ensures.gives c.in_ok-b.was (λ _ _. on_told _ field.gives c.in_ok-d.was (on _ (put_field.ensures _ _ _) refl (λ _ _. returned _ tt)))));
      onward = goes_on (omega (arith, u.past, v.past, w.past)) w.within (omega (arith, u.few, v.few, w.few));
    }
