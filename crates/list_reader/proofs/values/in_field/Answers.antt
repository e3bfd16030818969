use borrow.Author.Rules.{rules}
use Rattle.list_reader.proofs.ValueLaws.{field_known}
use Rattle.list_reader.proofs.values.in_field.Goals as goal

pub returns : goal.returns
returns c =
    field_known c.args.words.now c.args.rule c.args.which c.args.v
    (search rules) c.word_at.ensures c.decode-low.ensures
    c.word_at-2.ensures c.decode-high.ensures c.within.ensures
