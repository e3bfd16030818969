-- A range, as it is read from the word table.
use Rattle.std.specs.Prelude.{List, ℕ}
use Rattle.value.specs.Worked.{decode_of}
use Rattle.program.specs.Syntax.{Range, range}
use Rattle.program.specs.Table.{word_at}

abbrev pub range_at : List ℕ → ℕ → Range
range_at words i = range (decode_of (word_at words i 2)) (decode_of (word_at words i 3))
