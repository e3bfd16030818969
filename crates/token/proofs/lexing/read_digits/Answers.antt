use mathlib.Core.Path.{sym, ◌∙◌}
use Rattle.std.proofs.lemmas.Bool.{true≢false}
use Rattle.token.proofs.Lexemes.{digits_large, digits_value}
use Rattle.token.proofs.lexing.read_digits.Goals as goal
use Rattle.token.proofs.lexing.read_digits.Goals.{in-Letter, in_default}

pub returns-then-value-ge-TOO_LARGE : goal.returns-then-value-ge-TOO_LARGE
returns-then-value-ge-TOO_LARGE c =
    elim c.match-matches.branch [
      | in-Letter w ↦ absurd (true≢false (sym w.matches-is ∙ c.if-matches.false))
      | in_default w ↦ digits_large _ _ c.run_end-end.ensures c.kind_at.ensures w.in_default.not-Letter w.in_default.not-Underscore c.literal_value-value.ensures c.if-value-ge-TOO_LARGE.true c.token_of-then-value-ge-TOO_LARGE.ensures
    ]

pub returns : goal.returns
returns c =
    elim c.match-matches.branch [
      | in-Letter w ↦ absurd (true≢false (sym w.matches-is ∙ c.if-matches.false))
      | in_default w ↦ digits_value _ _ c.run_end-end.ensures c.kind_at.ensures w.in_default.not-Letter w.in_default.not-Underscore c.literal_value-value.ensures c.if-value-ge-TOO_LARGE.false c.token_of-2.ensures
    ]
