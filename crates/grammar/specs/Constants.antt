-- Constants, ranges and constant declarations.
use Rattle.std.specs.Prelude.{Bool, true, false, ◌||◌, ℕ, ◌+◌, eqb, leb, ℤ, pos, if◌then◌else◌}
use Rattle.value.specs.Limits.{most_elements}
use Rattle.value.specs.Number.{within}
use Rattle.value.specs.Worked.{decode_of, encode_of, opposite_of, span_of}
use Rattle.token.specs.declared.Token.{Token}
use Rattle.token.specs.Kind.{kind, keyword, operation, delimiter}
use Rattle.names.specs.declared.Entry.{Entry}
use Rattle.names.specs.Names.{name_kind, is}
use Rattle.program.specs.Syntax.{Range, range}
use Rattle.grammar.specs.Reader.{Reader, ◌>>=◌, ◌>>◌, ◌▷◌, return, unit, nothing, Turn, again, done, repeat, turns, refuse, refuse_last, note, is_kind, next_token, position, advance, put, put_both, expect, opening, is_name, by_name, entry_in, declare, fresh_name, use_name}

-- ---- constants and ranges

unfoldable pub is_sign : Token → Bool
is_sign t = is_kind t operation.plus || is_kind t operation.minus

abbrev pub constant_of : Entry → ℤ
constant_of e = decode_of e.word

-- over the name in a slot, which must be that of a simple constant; its value
unfoldable pub named_constant : ℕ → Reader ℤ
named_constant slot =
    entry_in slot >>= λ e.
    if is e name_kind.constant then use_name slot >> return (constant_of e)
    else refuse 8

-- a constant: a literal, or the name of a simple constant
unfoldable pub read_constant : Reader ℤ
read_constant =
    next_token >>= λ t.
    if is_kind t kind.literal then advance >> return (decode_of t.value)
    else if is_name t then by_name t false named_constant (refuse 8)
    else refuse 7

-- a constant with at most one sign. No constant is the least value (`signs_in_range` in `read_links`), so that what stands behind a minus is its negative
unfoldable pub read_signed : Reader ℤ
read_signed =
    next_token >>= λ t.
    if is_kind t operation.minus then (advance >> read_constant ▷ opposite_of)
    else if is_kind t operation.plus then advance >> read_constant
    else read_constant

-- the rule that a range breaks which may have at most so many values: 41 if it is reversed, 42 if it is too long; 0: none
unfoldable pub range_rule : ℕ → ℤ → ℤ → ℕ
range_rule most low high =
    if eqb (span_of low high) 0 then 41
    else if leb (span_of low high) most then 0
    else 42

-- low..high, of at least one value and at most so many, else refused at the upper bound's constant
unfoldable pub read_range : ℕ → Reader Range
read_range most = do
  low ← read_signed
  expect delimiter.dots
  high ← read_signed
  if eqb (range_rule most low high) 0 then return (range low high) else refuse_last (range_rule most low high)

-- a range of any length
abbrev pub any_range : Reader Range
any_range = read_range 4294967296

-- ---- constant declarations

-- the k-th value of an array constant of a size, and what stands behind it. The value is noted in word 3 of the k-th token of the list,
-- which begins at position `first`. Too many values are refused 45 at the comma, too few are noted at the token after the last
unfoldable pub value_turn : ℕ → ℕ → ℕ → Reader (Turn ℕ Unit)
value_turn size first k = do
  z ← read_signed
  put (first + k) 3 (encode_of z)
  t ← next_token
  if is_kind t delimiter.comma then (if leb size (k + 1) then refuse 45 else advance >> return (again (k + 1)))
      else if leb size (k + 1) then return (done unit)
      else note 45 >> return (done unit)

-- the list of values
unfoldable pub read_values : ℕ → ℕ → Reader Unit
read_values size first = repeat turns (value_turn size first) 0

-- the size of an array constant, else refused 44
unfoldable pub read_size : Reader ℤ
read_size = read_constant >>= λ z. if within (pos 1) (pos most_elements) z then return z else refuse_last 44

-- from the `[` behind the name up to the size
unfoldable pub array_head : Bool → Reader ℤ
array_head free = do opening free; expect delimiter.unbracket; expect keyword.for; read_size

-- from the `[` behind the name, which stands at position i, on. The size and the list's position are noted at the name; until the source
-- is read, the record's value is i
unfoldable pub array_constant : Bool → ℕ → Reader Unit
array_constant free i = do
  z ← array_head free
  expect delimiter.assign
  first ← position
  read_values (encode_of z) first
  put_both i (encode_of z) first
  declare i name_kind.array i
  nothing

-- from the `:=` behind the name, which stands at position i, on
unfoldable pub simple_constant : ℕ → Reader Unit
simple_constant i = do advance; z ← read_signed; declare i name_kind.constant (encode_of z); nothing

-- what stands behind the name of a constant
unfoldable pub constant_value : Bool → ℕ → Reader Unit
constant_value free i =
    next_token >>= λ t.
    if is_kind t delimiter.assign then simple_constant i
    else if is_kind t delimiter.bracket then array_constant free i
    else refuse 7

-- a declaration, from `const` on. The name holds from the declaration's end on, and this position is noted at `const`
unfoldable pub read_declaration : Bool → Reader Unit
read_declaration free = do c ← position; advance; i ← fresh_name; constant_value free i; past ← position; put c 3 past

-- one more declaration, if there is one
unfoldable pub constants_turn : Unit {0} → Reader (Turn Unit Unit)
constants_turn x =
    next_token >>= λ t.
    if is_kind t keyword.const then read_declaration true >> return (again unit)
    else return (done unit)

-- the constants before the cell declaration
unfoldable pub read_constants : Reader Unit
read_constants = repeat turns constants_turn unit
