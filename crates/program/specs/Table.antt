-- The word table: four words a token. Words 0 and 1 are the token's kind and span; words 2 and 3 are what reading notes there (docs/LAYOUT.md).
use Rattle.std.specs.Prelude.{List, ℕ, ◌+◌, ◌*◌, get_or, set}
use Rattle.value.specs.Worked.{encode_of}
use Rattle.program.specs.Syntax.{Range}

-- word w of the token at position i, and the words with a new one there
abbrev pub word_at : List ℕ → ℕ → ℕ → ℕ
word_at words i w = get_or words (4 * i + w) 0

abbrev pub with_word : List ℕ → ℕ → ℕ → ℕ → List ℕ
with_word words i w v = set words (4 * i + w) v

-- a range in words 2 and 3 of a token: its bounds in two's complement
abbrev pub with_range : List ℕ → ℕ → Range → List ℕ
with_range words i r = with_word (with_word words i 2 (encode_of r.low)) i 3 (encode_of r.high)
