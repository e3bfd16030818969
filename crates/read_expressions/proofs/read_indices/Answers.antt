use Rattle.read_state.proofs.Going.{passed}
use mathlib.Core.Path.{◌∙◌, refl}
use mathlib.Core.List.{[]}
use native.Mathlib.Omega.{arith}
use lib.Dec.{eqb}
use borrow.Author.Tests.{eq-eqb, ne_eqb}
use Rattle.value.proofs.Theorems.Truth.{or_second, neither}
use Rattle.grammar.specs.Reader.{again, done}
use Rattle.grammar.specs.Expressions.{index_turn, read_indices}
use Rattle.read_state.proofs.Steps.{on, off, so, other, token, advanced, refused, returned, both_hold, first_not, second_not, not_false, not_true}
use Rattle.read_state.proofs.Turns.{turn_first, turn_again, turn_done, turn_refused}
use Rattle.read_state.proofs.Going.{nowhere, went, goes_on}
use Rattle.read_expressions.proofs.Indices.{first_holds, counted, full, not_full}
use Rattle.read_expressions.proofs.read_indices.Goals as goal

pub loop-a-init : goal.loop-a-init
loop-a-init c =
    let pre = c.requires in
    (turn_first [] refl, pre.table, omega arith, pre.here, omega arith, omega arith)

pub returns-in_err-a : goal.returns-in_err-a
unfolding read_indices index_turn
returns-in_err-a c =
    let pre = c.requires in
    let loop = c.loop-a in
    let read_index = c.read_index in
    let e = c.in_err-a.was in
    rw (passed c.from_residual.ensures.1 c.in_err-a.was)
    record { gives = turn_refused loop.invariant.0 (omega (arith, loop.invariant.3, pre.tokens)) (λ x p. off _ read_index.ensures.gives e) e; onward = nowhere e }

pub returns-then-t-ne-UNBRACKET : goal.returns-then-t-ne-UNBRACKET
unfolding read_indices index_turn
returns-then-t-ne-UNBRACKET c =
    let pre = c.requires in
    let loop = c.loop-a in
    let read_index = c.read_index in
    let token_at = c.token_at-t in
    let if1 = c.if-t-ne-COMMA in
    let if2 = c.if-t-ne-UNBRACKET in
    let refuse = c.refuse in
    let y = refuse.ensures in
    record {
      gives = turn_refused loop.invariant.0 (omega (arith, loop.invariant.3, pre.tokens)) (λ x p. on _ read_index.ensures.gives c.in_ok-a.was (λ i _. token _ token_at.ensures (other _ _ (first_not _ (ne_eqb _ _ if1.true)) (other _ _ (first_not _ (ne_eqb _ _ if2.true)) (other _ _ (neither (ne_eqb _ _ if1.true) (ne_eqb _ _ if2.true)) (refused _ y)))))) y;
      onward = nowhere y;
    }

pub returns-then-k-cell : goal.returns-then-k-cell
unfolding read_indices index_turn
returns-then-k-cell c =
    let pre = c.requires in
    let loop = c.loop-a in
    let read_index = c.read_index in
    let token_at = c.token_at-t in
    let if1 = c.if-t-ne-COMMA in
    let if2 = c.if-t-ne-UNBRACKET in
    let if3 = c.if-k-cell in
    let moved = c.moved in
    let m = moved.ensures in
    let w = went read_index.ensures.onward c.in_ok-a.was in
    record {
      gives = turn_done loop.invariant.0 (omega (arith, loop.invariant.3, pre.tokens)) (λ x p. on _ read_index.ensures.gives c.in_ok-a.was (λ i _. token _ token_at.ensures (other _ _ (first_not _ (ne_eqb _ _ if1.true)) (so _ _ (both_hold (eq-eqb _ _ if2.false) (full x i p if3.true)) (on _ (advanced m) refl (λ _ _. returned (done _) tt))))));
      onward = goes_on (omega (arith, w.past, m.at, loop.invariant.2)) (omega (arith, m.at, token_at.ensures.inside, if2.false)) (omega (arith, m.count, w.few, loop.invariant.4));
    }

pub returns-then-t-ne-COMMA : goal.returns-then-t-ne-COMMA
unfolding read_indices index_turn
returns-then-t-ne-COMMA c =
    let pre = c.requires in
    let loop = c.loop-a in
    let read_index = c.read_index in
    let token_at = c.token_at-t in
    let if1 = c.if-t-ne-COMMA in
    let if2 = c.if-t-ne-UNBRACKET in
    let if3 = c.if-k-cell in
    let refuse2 = c.refuse-then-t-ne-COMMA in
    let y = refuse2.ensures in
    record {
      gives = turn_refused loop.invariant.0 (omega (arith, loop.invariant.3, pre.tokens)) (λ x p. on _ read_index.ensures.gives c.in_ok-a.was (λ i _. token _ token_at.ensures (other _ _ (first_not _ (ne_eqb _ _ if1.true)) (other _ _ (second_not (eq-eqb _ _ if2.false) (not_full x i p if3.false)) (so _ _ (or_second (eqb token_at.result.kind 44) (eq-eqb _ _ if2.false)) (refused _ y)))))) y;
      onward = nowhere y;
    }

pub returns-then-k-cell-2 : goal.returns-then-k-cell-2
unfolding read_indices index_turn
returns-then-k-cell-2 c =
    let pre = c.requires in
    let loop = c.loop-a in
    let read_index = c.read_index in
    let token_at = c.token_at-t in
    let if1 = c.if-t-ne-COMMA in
    let if4 = c.if-k-cell-2 in
    let refuse3 = c.refuse-then-k-cell-2 in
    let y = refuse3.ensures in
    record {
      gives = turn_refused loop.invariant.0 (omega (arith, loop.invariant.3, pre.tokens)) (λ x p. on _ read_index.ensures.gives c.in_ok-a.was (λ i _. token _ token_at.ensures (other _ _ (second_not (eq-eqb _ _ if1.false) (not_false (full x i p if4.true))) (other _ _ (first_not _ (ne_eqb token_at.result.kind 93 (λ e. omega (arith, e, if1.false)))) (so _ _ (first_holds _ (eq-eqb _ _ if1.false)) (refused _ y)))))) y;
      onward = nowhere y;
    }

pub loop-a-preserved : goal.loop-a-preserved
unfolding read_indices index_turn
loop-a-preserved c =
    let pre = c.requires in
    let loop = c.loop-a in
    let read_index = c.read_index in
    let token_at = c.token_at-t in
    let if1 = c.if-t-ne-COMMA in
    let if4 = c.if-k-cell-2 in
    let moved2 = c.moved-here in
    let m = moved2.ensures in
    let w = went read_index.ensures.onward c.in_ok-a.was in
    (turn_again loop.invariant.0 (omega (arith, loop.invariant.3, pre.tokens)) (λ x p. on _ read_index.ensures.gives c.in_ok-a.was (λ i _. token _ token_at.ensures (so _ _ (both_hold (eq-eqb _ _ if1.false) (not_true (not_full x i p if4.false))) (on _ (advanced m) refl (λ _ _. returned (again _) (counted x i p)))))) (omega (arith, w.past, m.at)), read_index.auto.words ∙ loop.invariant.1, omega (arith, w.past, m.at, loop.invariant.2), omega (arith, m.at, token_at.ensures.inside, if1.false), omega (arith, m.count, w.few, loop.invariant.4), omega (arith, w.past, m.at, loop.invariant.5))
