use mathlib.Core.Path.{refl}
use Rattle.token.proofs.Lexemes.{word_read}
use Rattle.token.proofs.lexing.read_word.Goals as goal

pub returns : goal.returns
returns c = word_read c.args.source.now c.args.at c.of_length.result.now c.run_end-end.ensures c.requires.0 refl c.of_length.ensures c.find_kind.ensures c.unwrap_or-kind.ensures c.token_of.ensures
