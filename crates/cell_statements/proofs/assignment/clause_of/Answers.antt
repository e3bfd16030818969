use Rattle.cell_statements.proofs.AssignmentLaws.{clause_dot, clause_next}
use Rattle.cell_statements.proofs.assignment.clause_of.Goals as goal

pub returns-then-word_at-eq-DOT : goal.returns-then-word_at-eq-DOT
returns-then-word_at-eq-DOT c = rw (← c.scene.view_is) (clause_dot _ _ c.word_at.ensures c.if-word_at-eq-DOT.true)

pub returns : goal.returns
returns c = rw (← c.scene.view_is) (clause_next _ _ c.word_at.ensures c.if-word_at-eq-DOT.false)
