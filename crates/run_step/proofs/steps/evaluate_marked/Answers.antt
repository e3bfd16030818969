use mathlib.Core.Path.{refl}
use native.Mathlib.Omega.{arith}
use borrow.Author.Rules.{rules}
use Rattle.run_step.proofs.FillLaws.{fill_start, turning, fill_skip, fill_turn, fill_stop, fill_done}
use Rattle.run_step.proofs.steps.evaluate_marked.Goals as goal

pub loop-cell-init : goal.loop-cell-init
loop-cell-init c =
    let n = c.next_marked-cell.ensures in
    (fill_skip _ _ _ _ (λ p h. h) 0 _ _ _ (fill_start _ _ _ _ _ _ _ _) n, n.within, n.found, refl, search rules, c.set_point.ensures)

pub evaluate_open-turn-requires : goal.evaluate_open-turn-requires
evaluate_open-turn-requires c =
    let l = c.loop-cell in
    let p = c.requires in
    let t = c.loop-cell-test.true in
    (l.invariant.2 t, turning _ _ _ _ l.cell l.total l.new p.0 l.invariant.5 l.invariant.3 l.invariant.0 t)

pub returns-in-Err : goal.returns-in-Err
returns-in-Err c =
    let l = c.loop-cell in
    let p = c.requires.0 in
    let t = c.loop-cell-test.true in
    let e = c.evaluate_open-turn.ensures in
    fill_stop _ _ _ _ (λ p h. h) l.cell l.total l.new _ l.invariant.0 (l.invariant.2 t) e c.in-Err.is (omega (arith, p.marks_fit)) refl refl

pub loop-cell-preserved : goal.loop-cell-preserved
loop-cell-preserved c =
    let l = c.loop-cell in
    let n = c.next_marked-after.ensures in
    let t = c.loop-cell-test.true in
    let e = c.evaluate_open-turn.ensures in
    let f = fill_turn _ _ _ _ (λ p h. h) l.cell l.total l.new _ l.invariant.0 (l.invariant.2 t) e c.in_default.is in
    (fill_skip _ _ _ _ (λ p h. h) _ _ _ _ f n, n.within, n.found, search rules, search rules, c.move_point.ensures)

pub returns : goal.returns
returns c =
    let l = c.loop-cell in
    let m = c.requires.0.marks_fit in
    fill_done _ _ _ _ (λ p h. h) l.cell l.total l.new l.invariant.0 (omega arith) (omega arith)
