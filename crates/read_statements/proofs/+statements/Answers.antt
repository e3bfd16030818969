use Rattle.read_state.proofs.Going.{passed}
use native.Mathlib.Omega.{arith}
use mathlib.Core.Path.{refl, sym, ◌∙◌}
use mathlib.Core.List.{[]}
use borrow.Author.Tests.{eq-eqb, ne_eqb, lt-ltb, le-ltb}
use Rattle.program.specs.Syntax.{constant}
use Rattle.grammar.specs.Reader.{done}
use Rattle.grammar.specs.Statements.{choices, arm_end, arm_turn, statement_turn}
use Rattle.read_expressions.specs.Promises.Promises.{cell_as}
use Rattle.read_state.specs.Promises.Reading.{anything}
use Rattle.read_state.proofs.Steps.{on, off, made, told_as, so, other, token, here, returned, carried, advanced, put_in}
use Rattle.read_state.proofs.Turns.{turn_first, turn_again, turn_done, turn_refused}
use Rattle.read_state.proofs.Going.{nowhere, went, goes_on, further}
use Rattle.read_statements.specs.Promises.Promises.{once, ends, NoneFollows}
use Rattle.read_statements.proofs.Single.{expression}
use Rattle.read_statements.proofs.Turned.{not_both, is_more, no_more, went_again, went_done}
use Rattle.read_statements.proofs.Lists.{one_more, assigned_in, declared_in, block_first, if_open, if_shut, arm_inside}
use Rattle.read_statements.proofs.Loops.{forall_open, forall_shut, ended_at}
use Rattle.read_statements.proofs.+statements.Goals as goal

pub arm_end-returns-then-t-eq-ELSIF_WORD : goal.arm_end-returns-then-t-eq-ELSIF_WORD
unfolding arm_end
arm_end-returns-then-t-eq-ELSIF_WORD t c =
    let token_at = c.token_at-t in
    let if1 = c.if-t-eq-ELSIF_WORD in
    let carrying_more = c.with_more in
    let z = c.requires in
    let k = carrying_more.ensures in
    record {
      gives = λ arms _. token _ token_at.ensures (so _ _ (eq-eqb _ _ if1.true) (carried _ k (once (k.more, omega (arith, k.at, token_at.ensures.inside, if1.true)))));
      onward = goes_on (omega (arith, k.at)) (omega (arith, k.at, z.here)) (omega (arith, k.count, z.few));
    }

pub arm_end-returns-in_err-a : goal.arm_end-returns-in_err-a
unfolding arm_end
arm_end-returns-in_err-a t c =
    let token_at = c.token_at-t in
    let if1 = c.if-t-eq-ELSIF_WORD in
    let if2 = c.if-t-eq-ELSE_WORD in
    let moved = c.moved in
    let read-block' = c.read_block in
    rw (passed c.from_residual.ensures.1 c.in_err-a.was)
    record {
      gives = λ arms _. token _ token_at.ensures (other _ _ (ne_eqb _ _ if1.false) (so _ _ (eq-eqb _ _ if2.true) (off {R = anything} _ (off _ (on _ (advanced moved.ensures) refl (λ _ _. read-block'.ensures.gives)) c.in_err-a.was) c.in_err-a.was)));
      onward = nowhere c.in_err-a.was;
    }

pub arm_end-returns-then-t-eq-ELSE_WORD : goal.arm_end-returns-then-t-eq-ELSE_WORD
unfolding arm_end
arm_end-returns-then-t-eq-ELSE_WORD t c =
    let token_at = c.token_at-t in
    let if1 = c.if-t-eq-ELSIF_WORD in
    let if2 = c.if-t-eq-ELSE_WORD in
    let moved = c.moved in
    let read-block' = c.read_block in
    let read-end = c.read_end in
    let m = moved.ensures in
    let w = went read-block'.ensures.onward c.in_ok-a.was in
    record {
      gives = λ arms _. token _ token_at.ensures (other _ _ (ne_eqb _ _ if1.false) (so _ _ (eq-eqb _ _ if2.true) (made {R = NoneFollows} (λ b. done (choices arms b)) (on _ (on _ (advanced m) refl (λ _ _. read-block'.ensures.gives)) c.in_ok-a.was (λ b _. made (λ _. b) (read-end.ensures.gives _ _) (λ _ _ p. p))) (λ _ _ p. ends p))));
      onward = further read-end.ensures.onward (omega (arith, m.at, w.past)) w.few;
    }

pub arm_end-returns : goal.arm_end-returns
unfolding arm_end
arm_end-returns t c =
    let token_at = c.token_at-t in
    let if1 = c.if-t-eq-ELSIF_WORD in
    let if2 = c.if-t-eq-ELSE_WORD in
    let read-end2 = c.read_end-2 in
    record {
      gives = λ arms _. token _ token_at.ensures (other _ _ (ne_eqb _ _ if1.false) (other _ _ (ne_eqb _ _ if2.false) (made (λ _. done (choices arms _)) (read-end2.ensures.gives _ _) (λ _ _ p. ends p))));
      onward = further read-end2.ensures.onward (omega arith) c.requires.few;
    }

pub read_arm-returns-in_err-a : goal.read_arm-returns-in_err-a
unfolding arm_turn
read_arm-returns-in_err-a t c =
    let moved = c.moved in
    let read-expression' = c.read_expression in
    rw (passed c.from_residual.ensures.1 c.in_err-a.was)
    record {
      gives = λ got _. here _ (on _ (advanced moved.ensures) refl (λ _ _. off _ (expression read-expression'.ensures).gives c.in_err-a.was));
      onward = nowhere c.in_err-a.was;
    }

pub read_arm-returns-in_err-b : goal.read_arm-returns-in_err-b
unfolding arm_turn
read_arm-returns-in_err-b t c =
    let moved = c.moved in
    let read-expression' = c.read_expression in
    let expect = c.expect in
    rw (passed c.from_residual-in_err-b.ensures.1 c.in_err-b.was)
    record {
      gives = λ got _. here _ (on _ (advanced moved.ensures) refl (λ _ _. on _ (expression read-expression'.ensures).gives c.in_ok-a.was (λ _ _. off _ (expect.ensures.gives _ _) c.in_err-b.was)));
      onward = nowhere c.in_err-b.was;
    }

pub read_arm-returns-in_err-d : goal.read_arm-returns-in_err-d
unfolding arm_turn
read_arm-returns-in_err-d t c =
    let moved = c.moved in
    let read-expression' = c.read_expression in
    let expect = c.expect in
    let read-block' = c.read_block in
    rw (passed c.from_residual-in_err-d.ensures.1 c.in_err-d.was)
    record {
      gives = λ got _. here _ (on _ (advanced moved.ensures) refl (λ _ _. on _ (expression read-expression'.ensures).gives c.in_ok-a.was (λ _ _. on _ (expect.ensures.gives _ _) c.in_ok-b.was (λ _ _. off _ read-block'.ensures.gives c.in_err-d.was))));
      onward = nowhere c.in_err-d.was;
    }

pub read_arm-returns : goal.read_arm-returns
unfolding arm_turn
read_arm-returns t c =
    let moved = c.moved in
    let read-expression' = c.read_expression in
    let expect = c.expect in
    let read-block' = c.read_block in
    let put_word = c.put_word in
    let arm-end' = c.arm_end in
    let m = moved.ensures in
    let u = went read-expression'.ensures.onward c.in_ok-a.was in
    let v = went expect.ensures.onward c.in_ok-b.was in
    let w = went read-block'.ensures.onward c.in_ok-d.was in
    record {
      gives = λ got _. here _ (on _ (advanced m) refl (λ _ _. on _ (expression read-expression'.ensures).gives c.in_ok-a.was (λ _ _. on _ (expect.ensures.gives _ _) c.in_ok-b.was (λ _ _. on _ read-block'.ensures.gives c.in_ok-d.was (λ _ _. here _ (on _ (put_in _ _ _ put_word.ensures) refl (λ _ _. arm-end'.ensures.gives _ tt)))))));
      onward = further arm-end'.ensures.onward (omega (arith, m.at, u.past, v.past, w.past)) (omega arith);
    }

pub read_block-loop-a-init : goal.read_block-loop-a-init
read_block-loop-a-init t c =
    let z = c.requires in (block_first _ _ _, refl, refl, omega arith, z.here, z.few)

pub read_block-returns-in_default : goal.read_block-returns-in_default
read_block-returns-in_default t c =
    let loop = c.loop-a in
    let read-statement = c.read_statement-r in
    let v = loop.invariant in
    record {
      gives = turn_refused v.0 (omega (arith, v.4, c.requires.tokens)) (λ x p. told_as (read-statement.ensures.gives x p) (λ _ _ _. tt)) c.in_default.is;
      onward = nowhere c.in_default.is;
    }

pub read_block-returns-then-a-here : goal.read_block-returns-then-a-here
read_block-returns-then-a-here t c =
    let loop = c.loop-a in
    let read-statement = c.read_statement-r in
    let if1 = c.if-a-here in
    let v = loop.invariant in
    let w = went read-statement.ensures.onward c.in-Ok.is in
    record {
      gives = turn_done v.0 (omega (arith, v.4, c.requires.tokens)) (λ x p. went_done (read-statement.ensures.gives x p) c.in-Ok.is (λ y q. omega (arith, q, if1.true)));
      onward = goes_on (omega (arith, w.past, v.3)) w.within w.few;
    }

pub read_block-loop-a-preserved : goal.read_block-loop-a-preserved
read_block-loop-a-preserved t c =
    let loop = c.loop-a in
    let read-statement = c.read_statement-r in
    let if1 = c.if-a-here in
    let v = loop.invariant in
    let w = went read-statement.ensures.onward c.in-Ok.is in
    (turn_again v.0 (omega (arith, v.4, c.requires.tokens)) (λ x p. went_again (read-statement.ensures.gives x p) c.in-Ok.is if1.false (λ y q. tt)) (omega (arith, w.past, if1.false)), read-statement.auto.names ∙ v.1, read-statement.auto.words ∙ v.2, omega (arith, w.past, v.3), w.within, w.few)

pub read_forall-returns-in_default : goal.read_forall-returns-in_default
read_forall-returns-in_default t c =
    let y = c.refuse.ensures in record { gives = forall_shut c.args.inside c.looped.ensures c.in_default.is y; onward = nowhere y }

pub read_forall-returns-in_err-a : goal.read_forall-returns-in_err-a
read_forall-returns-in_err-a t c =
    let args = c.args in
    let moved = c.moved in
    let loop_head = c.loop_head in
    rw (passed c.from_residual.ensures.1 c.in_err-a.was)
    record {
      gives = forall_open args.inside c.looped.ensures c.in-Some.is (here _ (on _ (advanced moved.ensures) refl (λ _ _. off _ loop_head.ensures.gives c.in_err-a.was)));
      onward = nowhere c.in_err-a.was;
    }

pub read_forall-returns-in_err-b : goal.read_forall-returns-in_err-b
read_forall-returns-in_err-b t c =
    let args = c.args in
    let moved = c.moved in
    let loop_head = c.loop_head in
    let read-block' = c.read_block in
    rw (passed c.from_residual-in_err-b.ensures.1 c.in_err-b.was)
    record {
      gives = forall_open args.inside c.looped.ensures c.in-Some.is (here _ (on _ (advanced moved.ensures) refl (λ _ _. on _ loop_head.ensures.gives c.in_ok-a.was (λ _ _. here _ (off _ read-block'.ensures.gives c.in_err-b.was)))));
      onward = nowhere c.in_err-b.was;
    }

pub read_forall-returns : goal.read_forall-returns
read_forall-returns t c =
    let args = c.args in
    let moved = c.moved in
    let loop_head = c.loop_head in
    let read-block' = c.read_block in
    let loop_end = c.loop_end in
    let m = moved.ensures in
    let v = went loop_head.ensures.onward c.in_ok-a.was in
    let w = went read-block'.ensures.onward c.in_ok-b.was in
    record {
      gives = forall_open args.inside c.looped.ensures c.in-Some.is (here _ (on _ (advanced m) refl (λ _ _. on _ loop_head.ensures.gives c.in_ok-a.was (λ _ e. here _ (on _ read-block'.ensures.gives c.in_ok-b.was (λ _ _. ended_at _ _ _ e.0 ((loop_end.ensures _).gives _ tt)))))));
      onward = further (loop_end.ensures args.source.now).onward (omega (arith, m.at, v.past, w.past)) w.few;
    }

pub read_if-returns-in_default : goal.read_if-returns-in_default
read_if-returns-in_default t c =
    let y = c.refuse.ensures in record { gives = if_shut c.args.inside c.opened.ensures c.in_default.is y; onward = nowhere y }

pub read_if-loop-a-init : goal.read_if-loop-a-init
read_if-loop-a-init t c =
    let z = c.requires in (turn_first [] tt, refl, refl, omega arith, z.1, z.0.few)

pub read_if-returns-in_err-a : goal.read_if-returns-in_err-a
read_if-returns-in_err-a t c =
    let args = c.args in
    let loop = c.loop-a in
    let read-arm = c.read_arm in
    let v = loop.invariant in
    rw (passed c.from_residual.ensures.1 c.in_err-a.was)
    record {
      gives = if_open args.inside c.opened.ensures c.in-Some.is (here _ (off {R = anything} _ (turn_refused v.0 (omega (arith, v.4, c.requires.0.tokens)) (λ x p. told_as (read-arm.ensures.gives x p) (λ _ _ _. tt)) c.in_err-a.was) c.in_err-a.was));
      onward = nowhere c.in_err-a.was;
    }

pub read_if-returns-then-not-a : goal.read_if-returns-then-not-a
read_if-returns-then-not-a t c =
    let args = c.args in
    let loop = c.loop-a in
    let read-arm = c.read_arm in
    let if2 = c.if-not-a in
    let put_word = c.put_word in
    let v = loop.invariant in
    let w = went read-arm.ensures.onward c.in_ok-a.was in
    record {
      gives = if_open args.inside c.opened.ensures c.in-Some.is (here _ (on {R = anything} _ (turn_done v.0 (omega (arith, v.4, c.requires.0.tokens)) (λ x p. went_done (read-arm.ensures.gives x p) c.in_ok-a.was (λ y q. not_both q.0 (no_more _ if2.true)))) refl (λ _ _. here _ (on _ (put_in _ _ _ put_word.ensures) refl (λ _ _. returned _ tt)))));
      onward = goes_on (omega (arith, w.past, v.3)) w.within w.few;
    }

pub read_if-loop-a-preserved : goal.read_if-loop-a-preserved
read_if-loop-a-preserved t c =
    let loop = c.loop-a in
    let read-arm = c.read_arm in
    let if2 = c.if-not-a in
    let v = loop.invariant in
    let w = went read-arm.ensures.onward c.in_ok-a.was in
    (turn_again v.0 (omega (arith, v.4, c.requires.0.tokens)) (λ x p. went_again (read-arm.ensures.gives x p) c.in_ok-a.was (not_both (is_more _ if2.false)) (λ y q. tt)) (omega (arith, w.past)), read-arm.auto.names ∙ v.1, read-arm.auto.words ∙ v.2, omega (arith, w.past, v.3), arm_inside (read-arm.ensures.gives [] tt) c.in_ok-a.was (is_more _ if2.false), w.few)

pub read_statement-returns-then-is_name : goal.read_statement-returns-then-is_name
unfolding statement_turn
read_statement-returns-then-is_name t c =
    let token_at = c.token_at-t in
    let is_name = c.is_name in
    let if1 = c.if-is_name in
    let read_assignment = c.read_assignment in
    record {
      gives = λ before _. token _ token_at.ensures (so _ _ (sym is_name.ensures.is ∙ if1.true) (one_more _ (assigned_in _ _ read_assignment.ensures)));
      onward = further read_assignment.ensures.onward (omega arith) (omega arith);
    }

pub read_statement-returns-in-5 : goal.read_statement-returns-in-5
unfolding statement_turn
read_statement-returns-in-5 t c =
    let x = c.read_declaration.ensures in
    record {
      gives = λ before _. token _ c.token_at-t.ensures (other _ _ (sym c.is_name.ensures.is ∙ c.if-is_name.false) (rw c.in-5.is (one_more (λ _ after. before (constant after)) (declared_in (cell_as c.args.inside.cell) c.args.inside.free x))));
      onward = further x.onward (omega arith) (omega arith);
    }

pub read_statement-returns-in-13 : goal.read_statement-returns-in-13
unfolding statement_turn
read_statement-returns-in-13 t c =
    let x = c.read_if.ensures in
    record {
      gives = λ before _. token _ c.token_at-t.ensures (other _ _ (sym c.is_name.ensures.is ∙ c.if-is_name.false) (rw c.in-13.is (one_more _ x)));
      onward = further x.onward (omega arith) (omega arith);
    }

pub read_statement-returns-in-12 : goal.read_statement-returns-in-12
unfolding statement_turn
read_statement-returns-in-12 t c =
    let x = c.read_forall.ensures in
    record {
      gives = λ before _. token _ c.token_at-t.ensures (other _ _ (sym c.is_name.ensures.is ∙ c.if-is_name.false) (rw c.in-12.is (one_more _ x)));
      onward = further x.onward (omega arith) (omega arith);
    }

pub read_statement-returns-then-inside-eq0 : goal.read_statement-returns-then-inside-eq0
unfolding statement_turn
read_statement-returns-then-inside-eq0 t c =
    let z = c.requires in
    record {
      gives = λ before _. token _ c.token_at-t.ensures (other _ _ (sym c.is_name.ensures.is ∙ c.if-is_name.false) (rw c.in-10.is (other _ _ (le-ltb 0 c.args.inside.loops (omega (arith, c.if-inside-eq0.true))) (returned _ (ends refl)))));
      onward = goes_on (omega arith) z.here z.few;
    }

pub read_statement-returns-else-inside-eq0 : goal.read_statement-returns-else-inside-eq0
unfolding statement_turn
read_statement-returns-else-inside-eq0 t c =
    let z = c.requires in
    let x = c.read_exit.ensures in
    record {
      gives = λ before _. token _ c.token_at-t.ensures (other _ _ (sym c.is_name.ensures.is ∙ c.if-is_name.false) (rw c.in-10.is (so _ _ (lt-ltb 0 c.args.inside.loops (omega (arith, c.if-inside-eq0.false))) (on _ (x.gives _ _ _) refl (λ _ _. returned _ (once (omega (arith, x.at))))))));
      onward = goes_on (omega (arith, x.at)) (omega (arith, x.at, c.token_at-t.ensures.inside, c.in-10.is)) (omega (arith, x.count, z.few));
    }

pub read_statement-returns-in_default : goal.read_statement-returns-in_default
unfolding statement_turn
read_statement-returns-in_default t c =
    let z = c.requires in
    let k = c.token_at-t.result.kind in
    record {
      gives = λ before _. token _ c.token_at-t.ensures (other _ _ (sym c.is_name.ensures.is ∙ c.if-is_name.false) (simp (ne_eqb k 5 (λ q. omega arith), ne_eqb k 13 (λ q. omega arith), ne_eqb k 12 (λ q. omega arith), ne_eqb k 10 (λ q. omega arith)) (returned _ (ends refl))));
      onward = goes_on (omega arith) z.here z.few;
    }
