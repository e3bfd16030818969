use native.Mathlib.Omega.{arith}
use mathlib.Core.Path.{refl, sym, ap, ◌∙◌}
use Rattle.std.specs.Prelude.{Ok}
use Rattle.cell_operands.proofs.LeafLaws.{passed}
use borrow.Author.Rules.{rules}
use Rattle.cell_operands.proofs.TableLaws.{token, link_bounds}
use Rattle.cell_statements.proofs.PendingLaws.{stack_start, stack_pops, stack_top, stack_room, stack_enters, weight_enters, weight_goes, weight_pops}
use Rattle.cell_statements.proofs.StatementLaws.{begins_some, begins_at, begins_if, chosen_onward, if_fault, if_nothing, if_list, statement_forall, faulted_stops, leaving_stops, statement_exit, statement_constant, statement_assign, progress_start, block_ends, block_more, block_stops, block_pops, block_enters, known, turns_start, turns_more, loop_leaves, loop_faults, loop_done}
use Rattle.cell_statements.proofs.blocks.+statements.Goals as goal

pub block-loop-past-init : goal.block-loop-past-init
block-loop-past-init t c = (progress_start _ _ _ _ _ _ _, omega arith, omega (arith, c.requires), refl, stack_start refl)

pub block-choose-requires : goal.block-choose-requires
block-choose-requires t c = token _ _ _ c.kind-kind.ensures.is (omega (arith, c.if-kind-eq-IF_WORD.true))

pub block-returns-in_err-m : goal.block-returns-in_err-m
block-returns-in_err-m t c =
    let y = c.in_err-m.was in
    rw (passed c.from_residual.ensures.1 y)
    (block_stops _ _ _ _ _ _ _ c.loop-past.invariant.0 c.kind-kind.ensures.is (begins_at 13 begins_if c.if-kind-eq-IF_WORD.true) refl
    (if_fault _ _ _ _ _ _ _ c.kind-kind.ensures.is c.if-kind-eq-IF_WORD.true c.choose.ensures y) faulted_stops)

pub block-overflow_cast-ends : goal.block-overflow_cast-ends
block-overflow_cast-ends t c =
    let l = token _ _ _ c.kind-kind.ensures.is (omega (arith, c.if-kind-eq-IF_WORD.true)) in
    let m = link_bounds _ _ _ c.past-past.ensures l in
    omega (arith, c.kind-kind.ensures.few)

pub block-loop-past-smaller-then-top-lt-MOST_OPEN : goal.block-loop-past-smaller-then-top-lt-MOST_OPEN
block-loop-past-smaller-then-top-lt-MOST_OPEN t c =
    let l = token _ _ _ c.kind-kind.ensures.is (omega (arith, c.if-kind-eq-IF_WORD.true)) in
    let m = link_bounds _ _ _ c.past-past.ensures l in
    let f = chosen_onward c.choose.ensures (c.in_ok-m.was ∙ ap Ok c.in-Some.is) in
    weight_enters _ _ _ _ l f.0 m.0 (stack_room c.loop-past.invariant.4 c.if-top-lt-MOST_OPEN.true)

pub block-loop-past-preserved-then-top-lt-MOST_OPEN : goal.block-loop-past-preserved-then-top-lt-MOST_OPEN
block-loop-past-preserved-then-top-lt-MOST_OPEN t c =
    let inv = c.loop-past.invariant in
    let list = c.in_ok-m.was ∙ ap Ok c.in-Some.is in
    let l = token _ _ _ c.kind-kind.ensures.is (omega (arith, c.if-kind-eq-IF_WORD.true)) in
    let m = link_bounds _ _ _ c.past-past.ensures l in
    let f = chosen_onward c.choose.ensures list in (
      block_enters _ _ _ _ _ _ _ inv.0 c.kind-kind.ensures.is c.if-kind-eq-IF_WORD.true c.choose.ensures list c.past-past.ensures
          (stack_room inv.4 c.if-top-lt-MOST_OPEN.true),
      omega (arith, inv.1),
      f.1,
      inv.3,
      stack_enters inv.4 c.if-top-lt-MOST_OPEN.true (omega (arith, inv.1)) m.1,
    )

pub block-returns-in_err-block-in-Some : goal.block-returns-in_err-block-in-Some
block-returns-in_err-block-in-Some t c =
    let y = c.in_err-block-in-Some.was in
    rw (passed c.from_residual-in_err-block-in-Some.ensures.1 y, ← y)
    (block_stops _ _ _ _ _ _ _ c.loop-past.invariant.0 c.kind-kind.ensures.is (begins_at 13 begins_if c.if-kind-eq-IF_WORD.true) refl
    (if_list _ _ _ _ _ _ _ c.kind-kind.ensures.is c.if-kind-eq-IF_WORD.true c.choose.ensures (c.in_ok-m.was ∙ ap Ok c.in-Some.is) c.block.ensures)
    (λ e. faulted_stops (sym y ∙ e)))

pub block-loop-past-smaller-in-On : goal.block-loop-past-smaller-in-On
block-loop-past-smaller-in-On t c =
    let l = token _ _ _ c.kind-kind.ensures.is (omega (arith, c.if-kind-eq-IF_WORD.true)) in
    let m = link_bounds _ _ _ c.past-past.ensures l in
    weight_goes _ _ _ _ l m.0

pub block-loop-past-preserved-in-On : goal.block-loop-past-preserved-in-On
block-loop-past-preserved-in-On t c =
    let inv = c.loop-past.invariant in
    let l = token _ _ _ c.kind-kind.ensures.is (omega (arith, c.if-kind-eq-IF_WORD.true)) in
    let m = link_bounds _ _ _ c.past-past.ensures l in (
      block_more _ _ _ _ _ _ _ inv.0 c.kind-kind.ensures.is (begins_at 13 begins_if c.if-kind-eq-IF_WORD.true) refl
          (if_list _ _ _ _ _ _ _ c.kind-kind.ensures.is c.if-kind-eq-IF_WORD.true c.choose.ensures (c.in_ok-m.was ∙ ap Ok c.in-Some.is) c.block.ensures)
          (c.in_ok-block-in-Some.was ∙ ap Ok c.in-On.is) c.past-past.ensures,
      omega (arith, inv.1),
      m.1,
      c.next-1.given ∙ inv.3,
      inv.4,
    )

pub block-returns-in-Leaving : goal.block-returns-in-Leaving
block-returns-in-Leaving t c =
    let y = c.in_ok-block-in-Some.was ∙ ap Ok c.in-Leaving.is in
    rw (← y)
    (block_stops _ _ _ _ _ _ _ c.loop-past.invariant.0 c.kind-kind.ensures.is (begins_at 13 begins_if c.if-kind-eq-IF_WORD.true) refl
    (if_list _ _ _ _ _ _ _ c.kind-kind.ensures.is c.if-kind-eq-IF_WORD.true c.choose.ensures (c.in_ok-m.was ∙ ap Ok c.in-Some.is) c.block.ensures)
    (λ e. leaving_stops (sym y ∙ e)))

pub block-loop-past-smaller-in-None : goal.block-loop-past-smaller-in-None
block-loop-past-smaller-in-None t c =
    let l = token _ _ _ c.kind-kind.ensures.is (omega (arith, c.if-kind-eq-IF_WORD.true)) in
    let m = link_bounds _ _ _ c.past-past.ensures l in
    weight_goes _ _ _ _ l m.0

pub block-loop-past-preserved-in-None : goal.block-loop-past-preserved-in-None
block-loop-past-preserved-in-None t c =
    let inv = c.loop-past.invariant in
    let l = token _ _ _ c.kind-kind.ensures.is (omega (arith, c.if-kind-eq-IF_WORD.true)) in
    let m = link_bounds _ _ _ c.past-past.ensures l in (
      block_more _ _ _ _ _ _ _ inv.0 c.kind-kind.ensures.is (begins_at 13 begins_if c.if-kind-eq-IF_WORD.true) refl
          (if_nothing _ _ _ _ _ _ _ c.kind-kind.ensures.is c.if-kind-eq-IF_WORD.true c.choose.ensures (c.in_ok-m.was ∙ ap Ok c.in-None.is)) refl c.past-past.ensures,
      omega (arith, inv.1),
      m.1,
      inv.3,
      inv.4,
    )

pub block-statement-requires : goal.block-statement-requires
block-statement-requires t c =
    let inv = c.loop-past.invariant in
    let l = token _ _ _ c.kind-kind.ensures.is (begins_some _ c.begins.ensures c.if-begins.true) in
    (omega (arith, c.decreases, inv.1), (l, λ u. c.if-kind-eq-IF_WORD.false (c.kind-kind.ensures.is ∙ u)))

pub block-returns-in_err-statement : goal.block-returns-in_err-statement
block-returns-in_err-statement t c =
    let y = c.in_err-statement.was in
    rw (passed c.from_residual-in_err-statement.ensures.1 y, ← y)
    (block_stops _ _ _ _ _ _ _ c.loop-past.invariant.0 c.kind-kind.ensures.is c.begins.ensures c.if-begins.true c.statement.ensures
    (λ e. faulted_stops (sym y ∙ e)))

pub block-loop-past-smaller-in-On-2 : goal.block-loop-past-smaller-in-On-2
block-loop-past-smaller-in-On-2 t c =
    let l = token _ _ _ c.kind-kind.ensures.is (begins_some _ c.begins.ensures c.if-begins.true) in
    weight_goes _ _ _ _ l (link_bounds _ _ _ c.past-here.ensures l).0

pub block-loop-past-preserved-in-On-2 : goal.block-loop-past-preserved-in-On-2
block-loop-past-preserved-in-On-2 t c =
    let inv = c.loop-past.invariant in
    let l = token _ _ _ c.kind-kind.ensures.is (begins_some _ c.begins.ensures c.if-begins.true) in
    let m = link_bounds _ _ _ c.past-here.ensures l in (
      block_more _ _ _ _ _ _ _ inv.0 c.kind-kind.ensures.is c.begins.ensures c.if-begins.true c.statement.ensures
          (c.in_ok-statement.was ∙ ap Ok c.in-On-2.is) c.past-here.ensures,
      omega (arith, inv.1),
      m.1,
      c.next-then-begins-1.given ∙ inv.3,
      inv.4,
    )

pub block-returns-in-Leaving-2 : goal.block-returns-in-Leaving-2
block-returns-in-Leaving-2 t c =
    let y = c.in_ok-statement.was ∙ ap Ok c.in-Leaving-2.is in
    rw (← y)
    (block_stops _ _ _ _ _ _ _ c.loop-past.invariant.0 c.kind-kind.ensures.is c.begins.ensures c.if-begins.true c.statement.ensures
    (λ e. leaving_stops (sym y ∙ e)))

pub block-returns-then-top-eq0 : goal.block-returns-then-top-eq0
block-returns-then-top-eq0 t c =
    let inv = c.loop-past.invariant in
    block_ends _ _ _ _ _ _ _ inv.0 c.kind-kind.ensures.is c.begins.ensures
    c.if-begins.false c.if-top-eq0.true

pub block-loop-past-smaller : goal.block-loop-past-smaller
block-loop-past-smaller t c = weight_pops _ _ _ _ c.if-top-eq0.false

pub block-loop-past-preserved : goal.block-loop-past-preserved
block-loop-past-preserved t c =
    let inv = c.loop-past.invariant in (
      block_pops _ _ _ _ _ _ _ inv.0 c.kind-kind.ensures.is c.begins.ensures
          c.if-begins.false c.if-top-eq0.false,
      (stack_top inv.4 c.if-top-eq0.false).0,
      (stack_top inv.4 c.if-top-eq0.false).1,
      inv.3,
      stack_pops inv.4,
    )

pub forall-loop-k-init : goal.forall-loop-k-init
forall-loop-k-init t c =
    let if1-left = rw c.depth-depth.ensures.is at c.if-depth-ge-MOST_OPEN.false in
    let word-at-ensures = c.word.ensures in
    let decode-ensures = c.decode-low.ensures in
    let link-at-ensures = c.inner-body.ensures in
    let span-ensures = c.span-count.ensures in
    let m = link_bounds _ _ _ link-at-ensures c.requires in (
      turns_start _ _ _ _ _ _ _ _ _ _
          (known _ _ _ word-at-ensures c.word-2.ensures decode-ensures c.decode-high.ensures span-ensures link-at-ensures c.if-count-gt-MOST_TURNS.false if1-left),
      m.0,
      m.1,
      span-ensures,
      refl,
    )

pub forall-returns-in_err-block : goal.forall-returns-in_err-block
forall-returns-in_err-block t c =
    let set-index-ensures = rw c.depth-depth.ensures.is at c.set_index.ensures in
    let y = c.in_err-block.was in
    rw (passed c.from_residual.ensures.1 y)
    (loop_faults _ _ _ _ _ _ _ _ _ _ c.loop-k.invariant.0 c.loop-k-test.true set-index-ensures.1 set-index-ensures.0 (rw c.deeper-inner.ensures at c.block.ensures) y)

pub forall-returns-in-Leaving : goal.forall-returns-in-Leaving
forall-returns-in-Leaving t c =
    let set-index-ensures = rw c.depth-depth.ensures.is at c.set_index.ensures in
    loop_leaves _ _ _ _ _ _ _ _ _ _ c.loop-k.invariant.0 c.loop-k-test.true set-index-ensures.1 set-index-ensures.0 (rw c.deeper-inner.ensures at c.block.ensures)
    (c.in_ok-block.was ∙ ap Ok c.in-Leaving.is)

pub forall-loop-k-preserved : goal.forall-loop-k-preserved
forall-loop-k-preserved t c =
    let inv = c.loop-k.invariant in
    let set-index-ensures = rw c.depth-depth.ensures.is at c.set_index.ensures in (
      turns_more _ _ _ _ _ _ _ _ _ _ inv.0 c.loop-k-test.true set-index-ensures.1 set-index-ensures.0 (rw c.deeper-inner.ensures at c.block.ensures)
          (c.in_ok-block.was ∙ ap Ok c.in-On.is),
      inv.1,
      inv.2,
      inv.3,
      search rules,
    )

pub forall-returns : goal.forall-returns
forall-returns t c = loop_done _ _ _ _ _ _ _ _ _ _ c.loop-k.invariant.0 c.loop-k-test.false

pub statement-returns-then-kind-eq-FORALL_WORD : goal.statement-returns-then-kind-eq-FORALL_WORD
statement-returns-then-kind-eq-FORALL_WORD t c =
    let word-at-ensures = c.kind-kind.ensures.is in
    let if1-taken = c.if-kind-eq-FORALL_WORD.true in
    statement_forall _ _ _ _ _ _ _ word-at-ensures if1-taken c.forall.ensures

pub statement-returns-then-kind-eq-EXIT_WORD : goal.statement-returns-then-kind-eq-EXIT_WORD
statement-returns-then-kind-eq-EXIT_WORD t c = statement_exit _ _ _ _ _ _ _ c.kind-kind.ensures.is c.if-kind-eq-EXIT_WORD.true

pub statement-returns-then-kind-eq-CONST_WORD : goal.statement-returns-then-kind-eq-CONST_WORD
statement-returns-then-kind-eq-CONST_WORD t c = statement_constant _ _ _ _ _ _ _ c.kind-kind.ensures.is c.if-kind-eq-CONST_WORD.true

pub statement-returns : goal.statement-returns
statement-returns t c =
    let word-at-ensures = c.kind-kind.ensures.is in
    let if1-left = c.if-kind-eq-FORALL_WORD.false in
    let if2-left = c.if-kind-eq-EXIT_WORD.false in
    let if3-left = c.if-kind-eq-CONST_WORD.false in
    statement_assign _ _ _ _ _ _ _ word-at-ensures c.requires.1 if1-left if2-left if3-left c.assignment.ensures
