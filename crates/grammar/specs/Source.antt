-- The whole source: constants, one cell declaration, statements.
use Rattle.std.specs.Prelude.{Bool, true, false, not, ◌&&◌, ◌||◌, List, [], ◌++◌, ℕ, zero, suc, ◌+◌, ◌-◌, length, replicate, eqb, leb, ltb, ℤ, pos, if◌then◌else◌}
use Rattle.value.specs.Limits.{name_words, most_open, most_dims, most_fields}
use Rattle.value.specs.Number.{within}
use Rattle.value.specs.Worked.{encode_of}
use Rattle.token.specs.declared.Token.{Token}
use Rattle.token.specs.Kind.{kind, keyword, delimiter}
use Rattle.token.specs.Scanning.{Scanned, scan, scan_of, scanned_words}
use Rattle.names.specs.declared.Entry.{Entry}
use Rattle.names.specs.Names.{name_kind, is, entry_at, with_value}
use Rattle.program.specs.Syntax.{Range, Block, Program}
use Rattle.program.specs.Table.{word_at, with_range}
use Rattle.program.specs.Refusal.{no_refusal}
use Rattle.grammar.specs.Reader.{Input, State, Result, ok, fail, Reader, ◌>>=◌, ◌>>◌, ◌▷◌, return, Turn, again, done, repeat, turns, refuse_with, refuse, refuse_last, is_kind, next_token, kind_after, position, advance, expect, forbid, is_name, declare, fresh, token_of, array_at}
use Rattle.grammar.specs.Constants.{is_sign, read_constant, any_range, read_constants}
use Rattle.grammar.specs.Expressions.{Cell}
use Rattle.grammar.specs.Statements.{read_block}

-- ---- the cell declaration

-- one more field name of kind k, behind n fields, and the comma or `of` behind it: how many fields there are then. A ninth is refused 43
unfoldable pub field_turn : ℕ → ℕ → Reader (Turn ℕ ℕ)
field_turn k n = do
  i ← fresh true (if leb most_fields n then 43 else 0)
  declare i k n
  forbid delimiter.bracket 6
  t ← next_token
  if is_kind t delimiter.comma then advance >> return (again (n + 1))
      else expect keyword.of >> return (done (n + 1))

-- the words with a range for each of n fields, the first of which has its range at position i
unfoldable pub with_ranges : List ℕ → ℕ → ℕ → Range → List ℕ
with_ranges words i zero r = words
with_ranges words i (suc n) r = with_range (with_ranges words i n r) (i + n) r

-- the ranges of n fields, behind those in `got`, are noted in the table, from position `base` on
unfoldable pub put_ranges : ℕ → List Range → ℕ → Range → Reader (List Range)
put_ranges base got n r input s =
    let words = with_ranges s.words (base + length got) n r in
    ok (got ++ replicate n r, record { at = s.at; noted = s.noted; count = s.count; names = s.names; words = words })

-- a group of field names of kind k and their range, behind the fields in `got`
unfoldable pub read_group : ℕ → List Range → ℕ → Reader (List Range)
read_group base got k = do n ← repeat turns (field_turn k) (length got); r ← any_range; put_ranges base got (n - length got) r

-- one more group of named fields, or the `end` behind them
unfoldable pub group_turn : ℕ → List Range → Reader (Turn (List Range) (List Range))
group_turn base got =
    next_token >>= λ t.
    if is_kind t keyword.end && ltb 0 (length got) then advance >> return (done got)
    else if is_kind t keyword.const then (advance >> read_group base got name_kind.const_field ▷ again)
    else (read_group base got name_kind.field ▷ again)

-- the number of dimensions, else refused 40
unfoldable pub read_dims : Reader ℤ
read_dims = read_constant >>= λ z. if within (pos 1) (pos most_dims) z then return z else refuse_last 40

-- whether a single unnamed range follows: a sign or a literal begins it, and a name exactly if `..` follows that (k is the kind of what follows)
unfoldable pub is_unnamed : Token → ℕ → Bool
is_unnamed t k = is_sign t || is_kind t kind.literal || is_name t && eqb k delimiter.dots

-- what a cell is, and the range of each field
abbrev pub Declared : Type 0
Declared = record { cell : Cell; fields : List Range }

abbrev pub declared : ℤ → Bool → List Range → Declared
declared dims named fields = record { cell = record { dims = encode_of dims; named = named }; fields = fields }

-- the fields behind `of`. Field k has its range in words 2 and 3 of the token k behind `of`, which stands at position `base`
unfoldable pub read_fields : ℕ → ℤ → Reader Declared
read_fields base dims =
    next_token >>= λ t.
    kind_after >>= λ k.
    if is_unnamed t k then (any_range >>= put_ranges base [] 1 ▷ declared dims false)
    else (repeat turns (group_turn base) [] ▷ declared dims true)

-- the cell declaration
unfoldable pub read_cell : Reader Declared
read_cell = do dims ← read_dims; expect keyword.dimensions; base ← position; expect keyword.of; read_fields base dims

-- ---- the source

-- one of n tokens of a table is of kind k
unfoldable pub has_kind : ℕ → List ℕ → ℕ → Bool
has_kind k words zero = false
has_kind k words (suc n) = has_kind k words n || eqb (word_at words n 0) k

-- the value of a name after acceptance: of an array constant its size, which the table notes at its name, of a variable 0, else as it was
unfoldable pub settled_value : List ℕ → Entry → ℕ
settled_value words e =
    if is e name_kind.array then word_at words (array_at e) 2
    else if is e name_kind.variable then 0
    else e.word

-- the words of the name list, with the values that the first n names have after acceptance
unfoldable pub settled : List ℕ → List ℕ → ℕ → List ℕ
settled words names zero = names
settled words names (suc n) =
    let before = settled words names n in
    with_value before n (settled_value words (entry_at before n))

-- what reading leaves of an accepted source: the program, its word table, and its name list
abbrev pub Accepted : Type 0
Accepted = record { program : Program; words : List ℕ; names : List ℕ }

-- what is left of a source whose declaration and statements are read
abbrev pub accepted_as : Input → Declared → Block → State → Accepted
accepted_as input d body s =
    let timed = has_kind kind.time s.words input.scan.count in
    let program : Program = record { dims = d.cell.dims; fields = d.fields; slots = s.count; body = body; timed = timed } in
    record { program = program; words = s.words; names = settled s.words s.names s.count }

-- the end of the source stands behind the last statement, and no refusal is noted
unfoldable pub finish : Declared → Block → Reader Accepted
finish d body input s =
    let t = token_of input s s.at in
    if not (is_kind t kind.stop && eqb t.value 7) then refuse 7 input s
    else if not (eqb s.noted.number 0) then refuse_with s.noted
    else ok (accepted_as input d body s, s)

unfoldable pub read_program : Reader Accepted
read_program = do read_constants; d ← read_cell; body ← read_block d.cell most_open 0; finish d body

-- a source, with its tokens
abbrev pub input_of : List ℕ → Input
input_of source = record { source = source; scan = scan_of (scan source) }

-- where reading begins: the tokens stand in the table, and no name is declared
abbrev pub start_state : Scanned → State
start_state s = record { at = 0; noted = no_refusal; count = 0; names = replicate name_words 0; words = scanned_words s }

abbrev pub what_is_read : Result (Accepted × State) → Result Accepted
what_is_read (ok r) = ok r.0
what_is_read (fail number place) = fail number place

-- what a source of allowed length means, or the number and place of the reply that refuses it
unfoldable pub parse : List ℕ → Result Accepted
parse source = what_is_read (read_program (input_of source) (start_state (scan source)))
