use Rattle.token.proofs.Lexemes.{reads_word, reads_digits, reads_sign, reads_none}
use Rattle.token.proofs.Numbers.{is_kind, no_kind}
use Rattle.token.proofs.Cursor.next.Goals as goal

pub returns-then-eq : goal.returns-then-eq
returns-then-eq c = reads_word _ _ c.requires.0 c.kind_at-kind.ensures (is_kind c.eq.ensures c.if-eq.true) c.read_word.ensures

pub returns-then-eq-2 : goal.returns-then-eq-2
returns-then-eq-2 c = reads_digits _ _ c.requires.0 c.kind_at-kind.ensures (is_kind c.eq-2.ensures c.if-eq-2.true) c.read_digits.ensures

pub returns-then-eq-3 : goal.returns-then-eq-3
returns-then-eq-3 c = reads_sign _ _ c.requires.0 c.kind_at-kind.ensures (is_kind c.eq-3.ensures c.if-eq-3.true) c.read_sign.ensures

pub returns : goal.returns
returns c = reads_none _ _ c.requires.0 c.kind_at-kind.ensures (no_kind c.eq.ensures c.if-eq.false) (no_kind c.eq-2.ensures c.if-eq-2.false) (no_kind c.eq-3.ensures c.if-eq-3.false) c.token_of.ensures
