use mathlib.Core.Path.{refl}
use native.Mathlib.Omega.{arith}
use Rattle.run_marking.proofs.MarkLaws.{next_start, next_more}
use borrow.Author.Rules.{rules}
use Rattle.run_marking.proofs.marks.next_odd.Goals as goal

pub loop-c-init : goal.loop-c-init
loop-c-init c = (search rules, refl, next_start _ _ (search rules))

pub loop-c-smaller : goal.loop-c-smaller
loop-c-smaller c = omega (arith, c.skip_clear-c.ensures.onward)

pub loop-c-preserved : goal.loop-c-preserved
loop-c-preserved c =
    let l = c.loop-c in
    let k = c.skip_clear-c.ensures in
    (omega (arith, k.within, l.invariant.1), l.invariant.1, next_more _ _ l.c l.invariant.2 (omega (arith, l.invariant.1)) c.if-marks-c-eq1.false k)
