use mathlib.Core.Path.{ap, ◌∙◌}
use Rattle.value.specs.Worked.{decode_of}
use Rattle.cell_meaning.specs.Links.{table_of}
use Rattle.run_places.proofs.ElementLaws.{word_open}
use Rattle.run_places.proofs.vectors.element_word.Goals as goal

pub returns-in-Some : goal.returns-in-Some
returns-in-Some c =
    let a = c.args in
    let found = c.in-Some.ensures.lookup.3 in
    ap decode_of (found.1 0) ∙ word_open (table_of a.words.now a.n a.dims) a.at c.names_variable.ensures c.word_at-word.ensures a.given.now c.if-not-names_variable.false found.0
