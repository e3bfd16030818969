use Rattle.read_state.proofs.Going.{passed}
use mathlib.Core.Path.{refl, sym, ◌∙◌}
use native.Mathlib.Omega.{arith}
use lib.Dec.{eqb}
use borrow.Author.Tests.{eq-eqb, ne_eqb}
use Rattle.grammar.specs.Expressions.{left_part, climb}
use Rattle.grammar.specs.Expressions as grammar
use Rattle.read_state.proofs.Steps.{went_on, no_further, on, on_told, off, made, so, other, token, stated, found_it, missed_it, refused, advanced, noted, used}
use Rattle.read_state.proofs.Turns.{turn_first, turn_again, turn_done, turn_refused}
use Rattle.read_state.proofs.Going.{nowhere, went, goes_on, further}
use Rattle.token.proofs.Levels.{level_few}
use Rattle.read_expressions.proofs.Levels.{operator_inside, unary_token}
use Rattle.read_expressions.proofs.Operands.{looked, either, operand_by, closed, entered}
use Rattle.read_expressions.proofs.Operators.{climbed, turn_ends, turn_clashes, turn_right}
use Rattle.read_expressions.proofs.+expressions.Goals as goal

pub array_use-returns-then-t-eq-BRACKET : goal.array_use-returns-then-t-eq-BRACKET
unfolding grammar.array_use
array_use-returns-then-t-eq-BRACKET t c =
    let token_at = c.token_at-t in
    let if1 = c.if-t-eq-BRACKET in
    let read_element = c.read_element in
    λ e. record { gives = token _ token_at.ensures (so _ _ (eq-eqb _ _ if1.true) (read_element.ensures e).gives); onward = further (read_element.ensures e).onward (omega arith) (omega arith) }

pub array_use-returns : goal.array_use-returns
unfolding grammar.array_use
array_use-returns t c =
    let token_at = c.token_at-t in
    let if1 = c.if-t-eq-BRACKET in
    let noting = c.noting in
    let plain = c.plain in
    let n = noting.ensures in
    λ e. record { gives = token _ token_at.ensures (other _ _ (ne_eqb _ _ if1.false) (made _ (on _ (noted _ n) refl (λ _ _. plain.ensures.gives _ _)) (λ _ _ _. tt))); onward = further plain.ensures.onward (omega (arith, n.at)) (omega (arith, n.count)) }

pub name_use-returns-then-e-eq-ARRAY : goal.name_use-returns-then-e-eq-ARRAY
unfolding grammar.name_use
name_use-returns-then-e-eq-ARRAY t c =
    let entry_in = c.entry_in-e in
    let use_name = c.use_name-a in
    let if1 = c.if-e-eq-ARRAY in
    let array_use = c.array_use in
    let u = use_name.ensures in
    let e = entry_in.result in
    record {
      gives = on_told {f = λ _. e} _ (used _ entry_in.ensures u) refl (so _ _ (eq-eqb _ _ if1.true) (array_use.ensures e).gives);
      onward = further (array_use.ensures e).onward (omega (arith, u.at)) (omega (arith, u.count));
    }

pub name_use-returns : goal.name_use-returns
unfolding grammar.name_use
name_use-returns t c =
    let entry_in = c.entry_in-e in
    let use_name = c.use_name-a in
    let if1 = c.if-e-eq-ARRAY in
    let plain = c.plain in
    let u = use_name.ensures in
    let e = entry_in.result in
    record {
      gives = on_told {f = λ _. e} _ (used _ entry_in.ensures u) refl (other _ _ (ne_eqb _ _ if1.false) (either _ _ (eqb e.kind 1) (made _ (plain.ensures.gives _ _) (λ _ _ _. tt)) (either _ _ (eqb e.kind 4) (made _ (plain.ensures.gives _ _) (λ _ _ _. tt)) (made _ (plain.ensures.gives _ _) (λ _ _ _. tt)))));
      onward = further plain.ensures.onward (omega (arith, u.at)) (omega (arith, u.count));
    }

pub read_bracket-returns-in_default : goal.read_bracket-returns-in_default
read_bracket-returns-in_default t c =
    let y = c.refuse.ensures in record { gives = closed c.args.inside c.opened.ensures _ c.in_default.is y; onward = nowhere y }

pub read_bracket-returns-in_default-r : goal.read_bracket-returns-in_default-r
unfolding grammar.read_bracket
read_bracket-returns-in_default-r t c =
    let e = c.in_default-r.is in
    record { gives = off _ (entered c.args.inside c.opened.ensures c.in-Some.is c.moved.ensures (c.read_expression-r.ensures.gives 4 (omega arith))) e; onward = nowhere e }

pub read_bracket-returns : goal.read_bracket-returns
unfolding grammar.read_bracket
read_bracket-returns t c =
    let m = c.moved.ensures in
    let w = went c.read_expression-r.ensures.onward c.in-Ok.is in
    record {
      gives = on _ (entered c.args.inside c.opened.ensures c.in-Some.is m (c.read_expression-r.ensures.gives 4 (omega arith))) c.in-Ok.is (λ _ _. made _ (c.expect.ensures.gives _ _) (λ _ _ _. tt));
      onward = further c.expect.ensures.onward (omega (arith, m.at, w.past)) (omega (arith, m.count, w.few));
    }

pub read_element-returns-in_err-a : goal.read_element-returns-in_err-a
unfolding grammar.read_element
read_element-returns-in_err-a t c =
    let read_bracket = c.read_bracket in
    let d = c.in_err-a.was in
    rw (passed c.from_residual.ensures.1 c.in_err-a.was)
    λ e. record { gives = looked _ (stated _ (off _ read_bracket.ensures.gives d)); onward = nowhere d }

pub read_element-returns : goal.read_element-returns
unfolding grammar.read_element
read_element-returns t c =
    let read_bracket = c.read_bracket in
    let forbid = c.forbid in
    let w = went read_bracket.ensures.onward c.in_ok-a.was in
    λ e. record { gives = looked _ (stated _ (on _ read_bracket.ensures.gives c.in_ok-a.was (λ _ _. made _ (forbid.ensures.gives _ _) (λ _ _ _. tt)))); onward = further forbid.ensures.onward (omega (arith, w.past)) w.few }

pub read_expression-returns-in_default : goal.read_expression-returns-in_default
unfolding climb
read_expression-returns-in_default t c =
    let read_operand = c.read_operand-r in
    let e = c.in_default.is in
    record { gives = climbed _ _ (λ more h. off _ read_operand.ensures.gives e); onward = nowhere e }

pub read_expression-loop-scan-init : goal.read_expression-loop-scan-init
read_expression-loop-scan-init t c =
    let read_operand = c.read_operand-r in
    let w = went read_operand.ensures.onward c.in-Ok.is in
    (λ more h e. turn_first (left_part e 0) refl, read_operand.auto.words ∙ c.requires.0.table, omega arith, w.within, omega arith)

pub read_expression-returns-then-own-level : goal.read_expression-returns-then-own-level
unfolding climb
read_expression-returns-then-own-level t c =
    let read_operand = c.read_operand-r in
    let loop = c.loop-scan in
    let token_at = c.token_at-t in
    let level_of = c.level_of-own in
    let if1 = c.if-own-level in
    let w = went read_operand.ensures.onward c.in-Ok.is in
    record {
      gives = climbed _ _ (λ more h. on _ read_operand.ensures.gives c.in-Ok.is (λ e _. turn_done (loop.invariant.0 more h e) (omega (arith, loop.invariant.3, c.requires.0.tokens)) (λ l p. turn_ends _ _ token_at.ensures level_of.ensures l p if1.true)));
      onward = goes_on (omega (arith, w.past, loop.invariant.2)) loop.invariant.3 (omega (arith, w.few, loop.invariant.4));
    }

pub read_expression-returns-then-are_relations : goal.read_expression-returns-then-are_relations
unfolding climb
read_expression-returns-then-are_relations t c =
    let read_operand = c.read_operand-r in
    let loop = c.loop-scan in
    let token_at = c.token_at-t in
    let level_of = c.level_of-own in
    let if1 = c.if-own-level in
    let are_relations = c.are_relations in
    let if2 = c.if-are_relations in
    let refuse = c.refuse in
    let y = refuse.ensures in
    record {
      gives = climbed _ _ (λ more h. on _ read_operand.ensures.gives c.in-Ok.is (λ e _. turn_refused (loop.invariant.0 more h e) (omega (arith, loop.invariant.3, c.requires.0.tokens)) (λ l p. turn_clashes _ _ token_at.ensures level_of.ensures l p if1.false are_relations.ensures if2.true y) y));
      onward = nowhere y;
    }

pub read_expression-moved-requires : goal.read_expression-moved-requires
read_expression-moved-requires t c =
    let token_at = c.token_at-t in
    let level_of = c.level_of-own in
    let if1 = c.if-own-level in
    let i = operator_inside token_at.ensures level_of.ensures (omega (arith, if1.false, c.requires.1)) in omega (arith, i, c.requires.0.tokens)

pub read_expression-overflow_add-own : goal.read_expression-overflow_add-own
read_expression-overflow_add-own t c =
    let token_at = c.token_at-t in
    let level_of = c.level_of-own in
    omega (arith, level_few token_at.result.kind, level_of.ensures)

pub read_expression-read_expression-q-requires : goal.read_expression-read_expression-q-requires
read_expression-read_expression-q-requires t c =
    let read_operand = c.read_operand-r in
    let loop = c.loop-scan in
    let token_at = c.token_at-t in
    let level_of = c.level_of-own in
    let if1 = c.if-own-level in
    let moved = c.moved in
    let i = operator_inside token_at.ensures level_of.ensures (omega (arith, if1.false, c.requires.1)) in
    let w = went read_operand.ensures.onward c.in-Ok.is in
    let m = moved.ensures in
    (omega (arith, c.decreases, w.past, loop.invariant.2, m.at, i), (record { tokens = c.requires.0.tokens; table = loop.invariant.1; list = c.requires.0.list; here = omega (arith, m.at, i); few = omega (arith, m.count, loop.invariant.4, w.few, c.requires.0.few) }, omega arith))

pub read_expression-returns-in_default-q : goal.read_expression-returns-in_default-q
unfolding climb
read_expression-returns-in_default-q t c =
    let read_operand = c.read_operand-r in
    let loop = c.loop-scan in
    let token_at = c.token_at-t in
    let level_of = c.level_of-own in
    let if1 = c.if-own-level in
    let are_relations = c.are_relations in
    let if2 = c.if-are_relations in
    let moved = c.moved in
    let read_expression = c.read_expression-q in
    let d = c.in_default-q.is in
    record {
      gives = climbed _ _ (λ more h. on _ read_operand.ensures.gives c.in-Ok.is (λ e _. turn_refused (loop.invariant.0 more h e) (omega (arith, loop.invariant.3, c.requires.0.tokens)) (λ l p. no_further (turn_right _ _ token_at.ensures level_of.ensures l p if1.false are_relations.ensures if2.false moved.ensures (read_expression.ensures.gives more (omega (arith, h, if1.false)))) d) d));
      onward = nowhere d;
    }

pub read_expression-loop-scan-preserved : goal.read_expression-loop-scan-preserved
unfolding climb
read_expression-loop-scan-preserved t c =
    let loop = c.loop-scan in
    let token_at = c.token_at-t in
    let level_of = c.level_of-own in
    let if1 = c.if-own-level in
    let are_relations = c.are_relations in
    let if2 = c.if-are_relations in
    let moved = c.moved in
    let read_expression = c.read_expression-q in
    let w = went read_expression.ensures.onward c.in-Ok-q.is in
    let m = moved.ensures in
    (λ more h e. turn_again (loop.invariant.0 more h e) (omega (arith, loop.invariant.3, c.requires.0.tokens)) (λ l p. went_on (turn_right _ _ token_at.ensures level_of.ensures l p if1.false are_relations.ensures if2.false m (read_expression.ensures.gives more (omega (arith, h, if1.false)))) c.in-Ok-q.is) (omega (arith, w.past, m.at)), read_expression.auto.words ∙ loop.invariant.1, omega (arith, w.past, m.at, loop.invariant.2), w.within, omega (arith, w.few, m.count, loop.invariant.4))

pub read_operand-returns-then-is_unary : goal.read_operand-returns-then-is_unary
unfolding grammar.read_operand
read_operand-returns-then-is_unary t c =
    let token_at = c.token_at-t in
    let is_unary = c.is_unary in
    let if1 = c.if-is_unary in
    let moved = c.moved in
    let read_primary = c.read_primary in
    let m = moved.ensures in
    record {
      gives = operand_by _ _ (token _ token_at.ensures (so _ _ (unary_token _ ∙ sym is_unary.ensures ∙ if1.true) (made _ (on _ (advanced m) refl (λ _ _. read_primary.ensures.gives)) (λ _ _ _. tt))));
      onward = further read_primary.ensures.onward (omega (arith, m.at)) (omega (arith, m.count));
    }

pub read_operand-returns : goal.read_operand-returns
unfolding grammar.read_operand
read_operand-returns t c =
    let token_at = c.token_at-t in
    let is_unary = c.is_unary in
    let if1 = c.if-is_unary in
    let read-primary2 = c.read_primary-2 in
    record {
      gives = operand_by _ _ (token _ token_at.ensures (other _ _ (unary_token _ ∙ sym is_unary.ensures ∙ if1.false) read-primary2.ensures.gives));
      onward = read-primary2.ensures.onward;
    }

pub read_primary-returns-in-2 : goal.read_primary-returns-in-2
unfolding grammar.read_primary
read_primary-returns-in-2 t c =
    let m = c.moved.ensures in
    record {
      gives = token _ c.token_at-t.ensures (rw c.in-2.is (made _ (advanced m) (λ _ _ _. tt)));
      onward = goes_on (omega (arith, m.at)) (omega (arith, m.at, c.token_at-t.ensures.inside, c.in-2.is)) (omega (arith, m.count));
    }

pub read_primary-returns-in-40 : goal.read_primary-returns-in-40
unfolding grammar.read_primary
read_primary-returns-in-40 t c =
    let x = c.read_bracket.ensures in record { gives = token _ c.token_at-t.ensures (rw c.in-40.is x.gives); onward = x.onward }

pub read_primary-returns-in-91 : goal.read_primary-returns-in-91
unfolding grammar.read_primary
read_primary-returns-in-91 t c =
    let x = c.read_neighbour.ensures in record { gives = token _ c.token_at-t.ensures (rw c.in-91.is x.gives); onward = x.onward }

pub read_primary-returns-in-3 : goal.read_primary-returns-in-3
unfolding grammar.read_primary
read_primary-returns-in-3 t c =
    let x = c.read_own.ensures in record { gives = token _ c.token_at-t.ensures (rw c.in-3.is x.gives); onward = x.onward }

pub read_primary-returns-in-4 : goal.read_primary-returns-in-4
unfolding grammar.read_primary
read_primary-returns-in-4 t c =
    let m = c.moved-in-4.ensures in
    let x = c.plain.ensures in
    record {
      gives = token _ c.token_at-t.ensures (rw c.in-4.is (made _ (on _ (advanced m) refl (λ _ _. x.gives _ _)) (λ _ _ _. tt)));
      onward = further x.onward (omega (arith, m.at)) (omega (arith, m.count));
    }

pub read_primary-returns-in_default-find_name : goal.read_primary-returns-in_default-find_name
unfolding grammar.read_primary
read_primary-returns-in_default-find_name t c =
    let y = c.refuse.ensures in
    record { gives = token _ c.token_at-t.ensures (rw c.in-1.is (missed_it _ _ _ c.find_name.ensures c.in_default-find_name.is (refused _ y))); onward = nowhere y }

pub read_primary-returns-in-Some : goal.read_primary-returns-in-Some
unfolding grammar.read_primary
read_primary-returns-in-Some t c =
    let x = c.name_use.ensures in
    record { gives = token _ c.token_at-t.ensures (rw c.in-1.is (found_it _ _ _ c.find_name.ensures c.in-Some.is x.gives)); onward = x.onward }

pub read_primary-returns-in_default : goal.read_primary-returns-in_default
unfolding grammar.read_primary
read_primary-returns-in_default t c =
    let y = c.refuse-in_default.ensures in
    record {
      gives = token _ c.token_at-t.ensures (simp (ne_eqb c.token_at-t.result.kind 2 (λ q. omega arith), ne_eqb c.token_at-t.result.kind 40 (λ q. omega arith), ne_eqb c.token_at-t.result.kind 91 (λ q. omega arith), ne_eqb c.token_at-t.result.kind 3 (λ q. omega arith), ne_eqb c.token_at-t.result.kind 4 (λ q. omega arith), ne_eqb c.token_at-t.result.kind 1 (λ q. omega arith)) (refused _ y));
      onward = nowhere y;
    }
