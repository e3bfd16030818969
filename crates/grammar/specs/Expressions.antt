-- Expressions. The levels of operators, the loosest first: 1 `&` and `|`, 2 the relations, 3 binary `+` and `-`, 4 `*`, `/` and `%`.
use Rattle.std.specs.Prelude.{Bool, true, false, not, ◌&&◌, ◌||◌, List, [], ◌∷◌, ◌++◌, ℕ, zero, suc, ◌+◌, length, eqb, ltb, ℤ, if◌then◌else◌}
use Rattle.value.specs.Worked.{decode_of, encode_of}
use Rattle.token.specs.declared.Token.{Token}
use Rattle.token.specs.Kind.{kind, operation, delimiter, level_of}
use Rattle.names.specs.declared.Entry.{Entry}
use Rattle.names.specs.Names.{name_kind, is}
use Rattle.program.specs.Syntax.{Index, fixed, moving, Expr, number, time, variable, index, field, element, unary, binary}
use Rattle.program.specs.Table.{word_at}
use Rattle.grammar.specs.Reader.{Reader, ◌>>=◌, ◌>>◌, ◌<<◌, ◌▷◌, return, Turn, again, done, repeat, turns, get_state, refuse, note, is_kind, next_token, position, advance, put, put_both, expect, expect_or, forbid, opening, is_name, by_name, entry_in, use_name, number_of, depth_of, array_at}
use Rattle.grammar.specs.Constants.{is_sign, constant_of, read_signed}

-- what the cell declaration says of a cell: how many dimensions there are, and whether its fields are named
abbrev pub Cell : Type 0
Cell = record { dims : ℕ; named : Bool }

-- ---- fields

-- behind a plain number, neither `[` nor `.` may stand
unfoldable pub plain : Reader Unit
plain = forbid delimiter.bracket 6 >> forbid delimiter.dot 12

-- over a field's name, which stands behind `.`; its slot
unfoldable pub field_name : Reader ℕ
field_name =
    next_token >>= λ t.
    if is_name t then by_name t true (λ slot. advance >> return slot) (refuse 12)
    else refuse 7

-- `.name`: the field's slot
unfoldable pub dot_field : Reader ℕ
dot_field = expect_or delimiter.dot 6 >> field_name

-- the number of the field in a slot
unfoldable pub field_number : ℕ → Reader ℕ
field_number slot = entry_in slot ▷ λ e. number_of e

-- the number of the field behind `cell` or a relative index: that of `.name` where fields are named, else 0
unfoldable pub read_field : Cell → Reader Unit → Reader ℕ
read_field cell unnamed =
    if cell.named then (dot_field << forbid delimiter.bracket 6 >>= field_number)
    else unnamed >> return 0

-- the field's number and the position past what is read are noted at position i
unfoldable pub put_field : ℕ → ℕ → Reader Unit
put_field i f = position >>= put_both i f

-- ---- relative indices

-- over the name in a slot where an index is wanted: an index variable or a simple constant
unfoldable pub named_index : Token → ℕ → Reader Index
named_index t slot =
    entry_in slot >>= λ e.
    if is e name_kind.index then (use_name slot ▷ λ _. moving t.start (depth_of e))
    else if is e name_kind.constant then (use_name slot ▷ λ _. fixed t.start (constant_of e))
    else refuse 8

-- a signed constant, noted in word 3 of its first token
unfoldable pub fixed_index : Token → Reader Index
fixed_index t = do i ← position; z ← read_signed; put i 3 (encode_of z); return (fixed t.start z)

-- an element of a relative index: a signed constant, or a visible index variable without sign
unfoldable pub read_index : Reader Index
read_index =
    next_token >>= λ t.
    if is_name t then by_name t false (named_index t) (refuse 8)
    else fixed_index t

-- one more element, and the comma or `]` behind it: there are as many elements as dimensions, else refused 12
unfoldable pub index_turn : Cell → List Index → Reader (Turn (List Index) (List Index))
index_turn cell got = do
  i ← read_index
  t ← next_token
  let now = got ++ i ∷ []
  let full = eqb (length now) cell.dims
  if is_kind t delimiter.comma && not full then advance >> return (again now)
      else if is_kind t delimiter.unbracket && full then advance >> return (done now)
      else if is_kind t delimiter.comma || is_kind t delimiter.unbracket then refuse 12
      else refuse 7

-- the elements of a relative index and its `]`
unfoldable pub read_indices : Cell → Reader (List Index)
read_indices cell = repeat turns (index_turn cell) []

-- a relative index and the field behind it
unfoldable pub read_neighbour : Cell → Bool → Reader Expr
read_neighbour cell free = do
  i ← position
  opening free
  is ← read_indices cell
  f ← read_field cell (forbid delimiter.dot 12)
  put_field i f
  return (field is f)

-- the own cell and the field behind it
unfoldable pub read_own : Cell → Reader Expr
read_own cell = do i ← position; advance; f ← read_field cell plain; put_field i f; return (field [] f)

-- ---- operands

-- n values of an array constant, from the token at position `first` on
unfoldable pub values_from : List ℕ → ℕ → ℕ → List ℤ
values_from words first zero = []
values_from words first (suc n) = decode_of (word_at words first 3) ∷ values_from words (first + 1) n

-- the values of the array constant whose name stands at position i
unfoldable pub array_values : List ℕ → ℕ → List ℤ
array_values words i = values_from words (word_at words i 3) (word_at words i 2)

-- an expression between brackets: `free` says whether one more may be open, `inner` reads the expression, `close` is the closing token's kind
unfoldable pub read_bracket : Bool → Reader Expr → ℕ → Reader Expr
read_bracket free inner close = opening free >> inner << expect close

-- an array constant's element, from the `[` behind its name on
unfoldable pub read_element : Bool → Reader Expr → Entry → Reader Expr
read_element free inner e = do
  t ← next_token
  s ← get_state
  d ← read_bracket free inner delimiter.unbracket
  forbid delimiter.dot 12
  return (element t.start (array_values s.words (array_at e)) d)

-- behind an array constant's name. Without `[` it counts as a plain number, no matter which, and 12 is noted
unfoldable pub array_use : Bool → Reader Expr → Entry → Reader Expr
array_use free inner e =
    next_token >>= λ t.
    if is_kind t delimiter.bracket then read_element free inner e
    else note 12 >> plain >> return (number (constant_of e))

-- the name in a slot, in an expression
unfoldable pub name_use : Bool → Reader Expr → ℕ → Reader Expr
name_use free inner slot =
    use_name slot >>= λ e.
    if is e name_kind.array then array_use free inner e
    else if is e name_kind.constant then plain >> return (number (constant_of e))
    else if is e name_kind.variable then plain >> return (variable (number_of e))
    else plain >> return (index (depth_of e))

-- a primary: a literal, a bracket, a relative index, `cell`, `time` or a name
unfoldable pub read_primary : Cell → Bool → Reader Expr → Reader Expr
read_primary cell free inner =
    next_token >>= λ t.
    if is_kind t kind.literal then advance >> return (number (decode_of t.value))
    else if is_kind t delimiter.paren then read_bracket free inner delimiter.unparen
    else if is_kind t delimiter.bracket then read_neighbour cell free
    else if is_kind t kind.cell then read_own cell
    else if is_kind t kind.time then advance >> plain >> return time
    else if is_kind t kind.name then by_name t false (name_use free inner) (refuse 8)
    else refuse 7

-- an operand: a primary with at most one unary operator
unfoldable pub read_operand : Cell → Bool → Reader Expr → Reader Expr
read_operand cell free inner =
    next_token >>= λ t.
    if is_sign t || is_kind t operation.not then (advance >> read_primary cell free inner ▷ unary t.kind t.start)
    else read_primary cell free inner

-- ---- operators

-- an expression whose left part is read, and the level of that part's operator (0 for an operand)
abbrev pub LeftPart : Type 0
LeftPart = record { expr : Expr; level : ℕ }

abbrev pub left_part : Expr → ℕ → LeftPart
left_part e l = record { expr = e; level = l }

-- over a binary operator of a level and its right side, whose operators bind tighter
unfoldable pub read_right : (ℕ → Reader Expr) → Expr → Reader Expr
read_right tighter e = do t ← next_token; advance; d ← tighter (level_of t.kind + 1); return (binary t.kind t.start e d)

-- one more operator of a level or tighter. A relation cannot take a bare relation as operand: 13 at the second operator
unfoldable pub operator_turn : ℕ → (ℕ → Reader Expr) → LeftPart → Reader (Turn LeftPart Expr)
operator_turn level tighter l =
    next_token >>= λ t.
    let own = level_of t.kind in
    if ltb own level then return (done l.expr)
    else if eqb own 2 && eqb l.level 2 then refuse 13
    else (read_right tighter l.expr ▷ λ e. again (left_part e own))

-- an expression of operators of a level or tighter: an operand, then operators from left to right. There are four levels, so that at
-- most as many are entered one inside another: `more` is how many still may be
unfoldable pub climb : ℕ → Reader Expr → ℕ → Reader Expr
climb zero operand level = operand
climb (suc more) operand level =
    operand >>= λ e. repeat turns (operator_turn level (λ tighter input s. climb more operand tighter input s)) (left_part e 0)

-- how many levels there are
abbrev pub levels : ℕ
levels = 4

-- an operand, where so many more brackets may be open
unfoldable pub operand_in : Cell → ℕ → Reader Expr
operand_in cell zero = read_operand cell false (refuse 14)
operand_in cell (suc free) = read_operand cell true (λ input s. climb levels (operand_in cell free) 1 input s)

-- an expression, where so many more brackets may be open
abbrev pub read_expression : Cell → ℕ → Reader Expr
read_expression cell free = climb levels (operand_in cell free) 1
