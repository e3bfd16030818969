-- The text of a value list: its lines, and the tokens of a line. Bytes, separators, literals and line ends are those of a source.
use Rattle.std.specs.Prelude.{Bool, true, false, not, List, [], ◌∷◌, ℕ, zero, suc, ◌-◌, eqb, if◌then◌else◌}
use Rattle.std.proofs.Math.Option.{Option, some, none}
use Rattle.token.specs.Bytes.{byte_kind, kind_of}
use Rattle.token.specs.Kind.{kind}
use Rattle.token.specs.Lexeme.{Lexeme, in_literal, extent, digits}

-- ---- lines

-- a line: its bytes without its end, and whether it has an end. Only the last line of a text may lack it
abbrev pub Line : Type 0
Line = record { bytes : List ℕ; ended : Bool }

abbrev pub line : List ℕ → Bool → Line
line bytes ended = record { bytes = bytes; ended = ended }

-- a byte put in front of the first line; where there is no line, it is one without an end
abbrev pub in_front : ℕ → List Line → List Line
in_front b [] = line (b ∷ []) false ∷ []
in_front b (l ∷ ls) = line (b ∷ l.bytes) l.ended ∷ ls

-- the lines of a text: each LF and each CR ends one. The empty text has none
unfoldable pub lines : List ℕ → List Line
lines [] = []
lines (b ∷ bs) = elim (eqb (kind_of b) byte_kind.line_end) [ true ↦ line [] true ∷ lines bs | false ↦ in_front b (lines bs) ]

-- ---- tokens of a line

-- a token: a literal by its value, or a single byte. Only `[`, `]`, `=`, `,`, `+` and `-` have a place in a line; any other byte, also one
-- of a name or a comment, makes the line bad
pub data Piece : Type 0 where
  literal : ℕ → Piece
  sign : ℕ → Piece

abbrev pub with_piece : Piece → Option (List Piece) → Option (List Piece)
with_piece p none = none
with_piece p (some ps) = some (p ∷ ps)

-- the literal at the head of a text that begins with a digit
abbrev pub literal_at : List ℕ → Lexeme
literal_at s = digits s (extent in_literal s)

-- the tokens of a line whose next k bytes belong to a literal that has been read; none where a literal cannot be read: a letter or a stray
-- underscore follows it, or it is over 2147483647
unfoldable pub pieces : ℕ → List ℕ → Option (List Piece)
pieces k [] = some []
pieces (suc k) (b ∷ bs) = pieces k bs
pieces zero (b ∷ bs) =
    let w = literal_at (b ∷ bs) in
    if eqb (kind_of b) byte_kind.blank then pieces zero bs
    else if not (eqb (kind_of b) byte_kind.digit) then with_piece (sign b) (pieces zero bs)
    else if eqb w.kind kind.stop then none
    else with_piece (literal w.value) (pieces (w.len - 1) bs)
