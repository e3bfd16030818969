use Rattle.read_state.proofs.Steps.{told_as}
use Rattle.read_state.proofs.Turns.{turn_first, turn_again, turn_done, turn_refused}
use Rattle.read_state.proofs.Going.{nowhere, went, goes_on}
use native.Mathlib.Omega.{arith}
use mathlib.Core.List.{[]}
use mathlib.Core.Path.{refl, ◌∙◌}
use Rattle.read_statements.proofs.Turned.{not_both, is_more, no_more, went_again, went_done}
use Rattle.read_statements.proofs.read_clauses.Goals as goal

pub loop-a-init : goal.loop-a-init
loop-a-init c =
    let pre = c.requires in
    (turn_first [] refl, refl, omega arith, pre.here, omega arith)

pub returns-in_default : goal.returns-in_default
returns-in_default c =
    let pre = c.requires in
    let loop = c.loop-a in
    let read-clause = c.read_clause-r in
    record {
      gives = turn_refused loop.invariant.0 (omega (arith, loop.invariant.3, pre.tokens)) (λ x p. told_as (read-clause.ensures.gives x p) (λ _ _ _. tt)) c.in_default.is;
      onward = nowhere c.in_default.is;
    }

pub returns-then-not-a : goal.returns-then-not-a
returns-then-not-a c =
    let pre = c.requires in
    let loop = c.loop-a in
    let read-clause = c.read_clause-r in
    let if1 = c.if-not-a in
    let w = went read-clause.ensures.onward c.in-Ok.is in
    let v = loop.invariant in
    record {
      gives = turn_done v.0 (omega (arith, v.3, pre.tokens)) (λ x p. went_done (read-clause.ensures.gives x p) c.in-Ok.is (λ y q. not_both q.0 (no_more _ if1.true)));
      onward = goes_on (omega (arith, w.past, v.2)) w.within (omega (arith, w.few, v.4));
    }

pub loop-a-preserved : goal.loop-a-preserved
loop-a-preserved c =
    let pre = c.requires in
    let loop = c.loop-a in
    let read-clause = c.read_clause-r in
    let if1 = c.if-not-a in
    let w = went read-clause.ensures.onward c.in-Ok.is in
    let v = loop.invariant in
    (turn_again v.0 (omega (arith, v.3, pre.tokens)) (λ x p. went_again (read-clause.ensures.gives x p) c.in-Ok.is (not_both (is_more _ if1.false)) (λ y q. q.1)) (omega (arith, w.past)), read-clause.auto.words ∙ v.1, omega (arith, w.past, v.2), w.within, omega (arith, w.few, v.4))
