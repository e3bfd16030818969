-- The word table as it is read after reading: past the last token every word is 0, and a link leads forward.
use Rattle.std.specs.Prelude.{Bool, ◌||◌, List, ℕ, ◌%◌, eqb, ltb, if◌then◌else◌}
use Rattle.token.specs.Kind.{kind, keyword}
use Rattle.program.specs.Table.{word_at}

-- word w of the token at position i, where there are n tokens
unfoldable pub word_in : List ℕ → ℕ → ℕ → ℕ → ℕ
word_in words n w i = if ltb i n then word_at words i w else 0

-- where the link w of the token at position i leads
unfoldable pub linked : ℕ → ℕ → ℕ → ℕ
linked n i w = if ltb i w then (if ltb n w then n else w) else n

-- the number of dimensions; of the token at a position its kind, the place of its first byte, its words 2 and 3, and the positions that these two lead
-- to as links
abbrev pub Table : Type 0
Table = record { dims : ℕ; kind : ℕ → ℕ; place : ℕ → ℕ; word2 : ℕ → ℕ; word3 : ℕ → ℕ; inner : ℕ → ℕ; past : ℕ → ℕ }

-- a table of n tokens, of a program with so many dimensions
abbrev pub table_of : List ℕ → ℕ → ℕ → Table
table_of words n dims =
    let w : ℕ → ℕ → ℕ = word_in words n in
    record { dims = dims; kind = w 0; place = λ i. w 1 i % 65536; word2 = w 2; word3 = w 3; inner = λ i. linked n i (w 2 i); past = λ i. linked n i (w 3 i) }

-- the kind of a statement's first token
unfoldable pub begins : ℕ → Bool
begins k =
    eqb k kind.name || eqb k kind.cell || eqb k keyword.if || eqb k keyword.forall || eqb k keyword.exit
    || eqb k keyword.const
