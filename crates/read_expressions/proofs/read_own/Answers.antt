use borrow.Author.Rules.{rules}
use Rattle.grammar.specs.Expressions as grammar
use Rattle.read_state.proofs.Going.{passed}
use mathlib.Core.Path.{refl}
use native.Mathlib.Omega.{arith}
use Rattle.grammar.specs.Expressions.{read_own}
use Rattle.read_state.proofs.Steps.{on, off, on_told, here, advanced, returned}
use Rattle.read_state.proofs.Going.{nowhere, went, goes_on}
use Rattle.read_expressions.proofs.read_own.Goals as goal

pub returns-in_err-a : goal.returns-in_err-a
unfolding read_own
returns-in_err-a c =
    let moved = c.moved in
    let field = c.read_field.ensures grammar.plain (λ r p. search rules) in
    rw (passed c.from_residual.ensures.1 c.in_err-a.was)
    record { gives = here _ (on _ (advanced moved.ensures) refl (λ _ _. off _ field.gives c.in_err-a.was)); onward = nowhere c.in_err-a.was }

pub put_field-requires : goal.put_field-requires
put_field-requires c =
    let pre = c.requires in
    let field = c.read_field.ensures grammar.plain (λ r p. search rules) in
    let w = went field.onward c.in_ok-a.was in (pre.0.table, omega (arith, w.within, pre.0.tokens))

pub returns : goal.returns
unfolding read_own
returns c =
    let moved = c.moved in
    let field = c.read_field.ensures grammar.plain (λ r p. search rules) in
    let put_field = c.put_field in
    let m = moved.ensures in
    let w = went field.onward c.in_ok-a.was in
    record {
      gives = here _ (on _ (advanced m) refl (λ _ _. on_told _ field.gives c.in_ok-a.was (on _ (put_field.ensures _ _ _) refl (λ _ _. returned _ tt))));
      onward = goes_on (omega (arith, w.past, m.at)) w.within (omega (arith, w.few, m.count));
    }
