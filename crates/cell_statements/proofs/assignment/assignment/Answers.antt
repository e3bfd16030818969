use mathlib.Core.Path.{ap, ◌∙◌}
use Rattle.std.specs.Prelude.{Ok}
use Rattle.cell_operands.proofs.LeafLaws.{passed}
use native.Mathlib.Omega.{arith}
use Rattle.cell_operands.proofs.TableLaws.{token, link_bounds}
use lib.ListN.{take}
use Rattle.cell_statements.proofs.AssignmentLaws.{assigns_none, assigns_chosen, assigns_fault, tried_more, assigns_from}
use Rattle.cell_statements.proofs.assignment.assignment.Goals as goal

pub guard-requires : goal.guard-requires
guard-requires c =
    token _ _ _ c.kind.ensures.is (omega arith)

pub assign_one-requires : goal.assign_one-requires
assign_one-requires c =
    let l = token _ _ _ c.kind.ensures.is (omega arith) in
    let few = c.kind.ensures.few in
    (l, omega arith)

pub returns-then-branch : goal.returns-then-branch
returns-then-branch c =
    let args = c.args in
    let inv = c.loop-vars.invariant in
    assigns_from (ap (take args.scene.now.site.slots) inv.1) inv.2
    (assigns_chosen _ _ _ _ _ _ inv.0 c.kind.ensures.is c.loop-vars-test.true c.guard.ensures (c.in_ok-guard.was ∙ ap Ok c.if-branch.true) c.assign_one.ensures)

pub loop-vars-smaller : goal.loop-vars-smaller
loop-vars-smaller c =
    let word-at-ensures = c.kind.ensures.is in
    omega (arith, link_bounds _ _ _ c.past-here.ensures (token _ _ _ word-at-ensures (omega arith)))

pub loop-vars-preserved : goal.loop-vars-preserved
loop-vars-preserved c =
    let inv = c.loop-vars.invariant in
    let word-at-ensures = c.kind.ensures.is in
    let if1-taken = c.loop-vars-test.true in (
      tried_more _ _ _ _ _ _ inv.0 word-at-ensures if1-taken c.guard.ensures (c.in_ok-guard.was ∙ ap Ok c.if-branch.false)
          c.past-here.ensures,
      inv.1,
      inv.2,
      inv.3,
    )

pub returns-in_err-guard : goal.returns-in_err-guard
returns-in_err-guard c =
    let args = c.args in
    let inv = c.loop-vars.invariant in
    let y = c.in_err-guard.was in
    rw (passed c.from_residual.ensures.1 y)
    (assigns_from (ap (take args.scene.now.site.slots) inv.1) inv.2
    (assigns_fault _ _ _ _ _ _ inv.0 c.kind.ensures.is c.loop-vars-test.true c.guard.ensures y))

pub returns : goal.returns
returns c =
    let args = c.args in
    let inv = c.loop-vars.invariant in
    assigns_from (ap (take args.scene.now.site.slots) inv.1) inv.2 (assigns_none _ _ _ _ _ _ inv.0 c.kind.ensures.is c.loop-vars-test.false)
