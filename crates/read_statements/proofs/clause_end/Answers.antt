use Rattle.read_state.proofs.Going.{passed}
use Rattle.read_state.proofs.Steps.{on, off, so, other, token, refused, carried}
use Rattle.read_state.proofs.Going.{nowhere, went, goes_on, further}
use Rattle.read_statements.specs.Promises.Promises.{is_first, ends}
use native.Mathlib.Omega.{arith}
use mathlib.Core.Path.{ap, ◌∙◌}
use borrow.Author.Tests.{eq-eqb, ne_eqb}
use Rattle.grammar.specs.Statements.{clause_end}
use Rattle.read_statements.proofs.clause_end.Goals as goal

pub returns-then-t-eq-WHEN_WORD : goal.returns-then-t-eq-WHEN_WORD
unfolding clause_end
returns-then-t-eq-WHEN_WORD c =
    let token_at = c.token_at-t in
    let if1 = c.if-t-eq-WHEN_WORD in
    let when_clause = c.when_clause in
    record {
      gives = λ b h. token _ token_at.ensures (so _ _ (eq-eqb _ _ if1.true) (when_clause.ensures.gives b tt));
      onward = further when_clause.ensures.onward (omega arith) (omega arith);
    }

pub returns-then-t-eq-COMMA : goal.returns-then-t-eq-COMMA
unfolding clause_end
returns-then-t-eq-COMMA c =
    let token_at = c.token_at-t in
    let if1 = c.if-t-eq-WHEN_WORD in
    let if2 = c.if-t-eq-COMMA in
    let refuse = c.refuse in
    let y = refuse.ensures in
    record { gives = λ b h. token _ token_at.ensures (other _ _ (ne_eqb _ _ if1.false) (so _ _ (eq-eqb _ _ if2.true) (refused _ y))); onward = nowhere y }

pub returns-in-First : goal.returns-in-First
unfolding clause_end
returns-in-First c =
    let pre = c.requires in
    let token_at = c.token_at-t in
    let if1 = c.if-t-eq-WHEN_WORD in
    let if2 = c.if-t-eq-COMMA in
    let p = pre in
    let k = c.with_more.ensures in
    record {
      gives = λ b h. token _ token_at.ensures (other _ _ (ne_eqb _ _ if1.false) (other _ _ (ne_eqb _ _ if2.false) (so _ _ (h ∙ ap is_first c.in-First.is) (carried _ k (ends k.more)))));
      onward = goes_on (omega (arith, k.at)) (omega (arith, k.at, p.here)) (omega (arith, k.count));
    }

pub returns-in_err-a-in-Later : goal.returns-in_err-a-in-Later
unfolding clause_end
returns-in_err-a-in-Later c =
    let token_at = c.token_at-t in
    let if1 = c.if-t-eq-WHEN_WORD in
    let if2 = c.if-t-eq-COMMA in
    let expect = c.expect in
    rw (passed c.from_residual.ensures.1 c.in_err-a-in-Later.was)
    record {
      gives = λ b h. token _ token_at.ensures (other _ _ (ne_eqb _ _ if1.false) (other _ _ (ne_eqb _ _ if2.false) (other _ _ (h ∙ ap is_first c.in-Later.is) (off _ (expect.ensures.gives _ _) c.in_err-a-in-Later.was))));
      onward = nowhere c.in_err-a-in-Later.was;
    }

pub returns-in_ok-a-in-Later : goal.returns-in_ok-a-in-Later
unfolding clause_end
returns-in_ok-a-in-Later c =
    let token_at = c.token_at-t in
    let if1 = c.if-t-eq-WHEN_WORD in
    let if2 = c.if-t-eq-COMMA in
    let expect = c.expect in
    let w = went expect.ensures.onward c.in_ok-a-in-Later.was in
    let k = c.with_more-in-Later.ensures in
    record {
      gives = λ b h. token _ token_at.ensures (other _ _ (ne_eqb _ _ if1.false) (other _ _ (ne_eqb _ _ if2.false) (other _ _ (h ∙ ap is_first c.in-Later.is) (on _ (expect.ensures.gives _ _) c.in_ok-a-in-Later.was (λ _ _. carried _ k (ends k.more))))));
      onward = goes_on (omega (arith, w.past, k.at)) (omega (arith, w.within, k.at)) (omega (arith, w.few, k.count));
    }
