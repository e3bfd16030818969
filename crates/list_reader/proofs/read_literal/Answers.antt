use mathlib.Core.Path.{refl}
use Rattle.list_reader.proofs.Walks.{literal_large, literal_value}
use Rattle.list_reader.proofs.read_literal.Goals as goal

pub returns-then-value-ge-TOO_LARGE : goal.returns-then-value-ge-TOO_LARGE
returns-then-value-ge-TOO_LARGE c = literal_large c.args.line.now c.requires.0 c.requires.1 c.run_end-end.ensures c.kind_at.result c.kind_at.ensures c.literal_value-value.ensures c.if-value-ge-TOO_LARGE.true

pub returns : goal.returns
returns c =
    literal_value c.args.line.now c.requires.0 c.requires.1 c.run_end-end.ensures c.kind_at.result c.kind_at.ensures c.literal_value-value.ensures c.in_default.not-Letter c.in_default.not-Underscore
    c.if-value-ge-TOO_LARGE.false refl
