use mathlib.Core.Path.{◌∙◌, sym}
use borrow.Author.Tests.{not-true, not-false}
use Rattle.spelling.proofs.Parting.{at_no_token, at_end, at_long, at_byte, at_token}
use Rattle.spelling.proofs.part_at.Goals as goal

pub returns : goal.returns
returns c = at_token c.args.source.now c.args.number c.args.place (sym c.names_token.ensures ∙ not-false _ c.if-not-names_token.false-raw) c.if-source-at.false c.if-source-gt-MOST_BYTES.false c.if-number-eq3.false c.read_at.ensures c.token_part.ensures

pub returns-then-not-names_token : goal.returns-then-not-names_token
returns-then-not-names_token c = at_no_token c.args.source.now c.args.number c.args.place (sym c.names_token.ensures ∙ not-true _ c.if-not-names_token.true-raw)

pub returns-then-source-at : goal.returns-then-source-at
returns-then-source-at c = at_end c.args.source.now c.args.number c.args.place (sym c.names_token.ensures ∙ not-false _ c.if-not-names_token.false-raw) c.if-source-at.true

pub returns-then-source-gt-MOST_BYTES : goal.returns-then-source-gt-MOST_BYTES
returns-then-source-gt-MOST_BYTES c = at_long c.args.source.now c.args.number c.args.place (sym c.names_token.ensures ∙ not-false _ c.if-not-names_token.false-raw) c.if-source-at.false c.if-source-gt-MOST_BYTES.true

pub returns-then-number-eq3 : goal.returns-then-number-eq3
returns-then-number-eq3 c = at_byte c.args.source.now c.args.number c.args.place (sym c.names_token.ensures ∙ not-false _ c.if-not-names_token.false-raw) c.if-source-at.false c.if-source-gt-MOST_BYTES.false c.if-number-eq3.true
