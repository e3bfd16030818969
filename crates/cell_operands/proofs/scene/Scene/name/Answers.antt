use Rattle.cell_operands.proofs.PrimaryLaws.{name_variable, name_constant, name_index, name_other}
use Rattle.cell_operands.proofs.scene.Scene.name.Goals as goal

pub returns-then-refers-eq4 : goal.returns-then-refers-eq4
returns-then-refers-eq4 c =
    let pre = rw (← c.self.view_is) at c.requires in
    rw (← c.self.view_is) (name_variable _ _ _ _ _ _ _ _ c.word_at-refers.ensures c.word_at-word.ensures pre
    c.if-refers-eq4.true c.front_value-value.ensures)

pub returns-then-refers-eq1 : goal.returns-then-refers-eq1
returns-then-refers-eq1 c =
    let pre = rw (← c.self.view_is) at c.requires in
    rw (← c.self.view_is) (name_constant _ _ _ _ _ _ _ _ c.word_at-refers.ensures c.word_at-word.ensures pre
    c.if-refers-eq1.true c.decode-value.ensures)

pub returns-then-refers-eq5 : goal.returns-then-refers-eq5
returns-then-refers-eq5 c =
    let pre = rw (← c.self.view_is) at c.requires in
    let word-at-ensures = c.word_at-refers.ensures in
    rw (← c.self.view_is) (name_index _ _ _ _ _ _ _ _ word-at-ensures c.word_at-word.ensures pre c.if-refers-eq5.true
    c.front_value-value-then-refers-eq5.ensures)

pub returns : goal.returns
returns c =
    rw (← c.self.view_is) (name_other _ _ _ _ _ _ _ _ c.word_at-refers.ensures c.word_at-word.ensures c.if-refers-eq4.false c.if-refers-eq1.false c.if-refers-eq5.false)
