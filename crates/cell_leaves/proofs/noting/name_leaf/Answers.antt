use Rattle.cell_leaves.proofs.NotingLaws.{name_unnoted, constant_leaf, variable_leaf}
use Rattle.cell_leaves.proofs.noting.name_leaf.Goals as goal

pub returns-then-refers-eq1 : goal.returns-then-refers-eq1
returns-then-refers-eq1 c =
    constant_leaf _ _ _ _ _ c.requires.3 c.requires.2 c.word_at-refers.ensures c.word_at-word.ensures c.if-refers-eq1.true

pub returns-then-word-slots : goal.returns-then-word-slots
returns-then-word-slots c =
    variable_leaf _ _ _ _ _ c.requires.3 c.requires.2 c.word_at-refers.ensures
    c.word_at-word.ensures c.if-refers-eq4.true c.if-word-slots.true

pub returns-else-word-slots : goal.returns-else-word-slots
returns-else-word-slots c = name_unnoted _ _ _ _ _ c.requires.3

pub returns-else-refers-eq4 : goal.returns-else-refers-eq4
returns-else-refers-eq4 c = name_unnoted _ _ _ _ _ c.requires.3
