use mathlib.Core.Path.{refl}
use Rattle.run_marking.proofs.MarkLaws.{same_start, same_more, same_all, differs_here}
use Rattle.run_marking.proofs.marks.differs.Goals as goal

pub loop-k-init : goal.loop-k-init
loop-k-init c = (refl, same_start _ _ _)

pub returns-then-entry_differs : goal.returns-then-entry_differs
returns-then-entry_differs c =
    let l = c.loop-k in
    differs_here _ _ _ _ _ l.k l.invariant.0 c.loop-k-test.true c.entry_differs.ensures c.if-entry_differs.true

pub loop-k-preserved : goal.loop-k-preserved
loop-k-preserved c =
    let l = c.loop-k in
    (l.invariant.0, same_more _ _ _ l.k l.invariant.1 c.entry_differs.ensures c.if-entry_differs.false)

pub returns : goal.returns
returns c = let l = c.loop-k in same_all _ _ _ _ _ l.k l.invariant.0 c.loop-k-test.false l.invariant.1
