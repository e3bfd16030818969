-- Statements.
use Rattle.std.specs.Prelude.{Bool, true, false, ◌&&◌, List, [], ◌∷◌, ◌++◌, ℕ, zero, suc, ◌+◌, length, eqb, ltb, if◌then◌else◌}
use Rattle.std.proofs.Math.Option.{Option, none, some}
use Rattle.value.specs.Limits.{most_turns}
use Rattle.value.specs.Worked.{encode_of}
use Rattle.token.specs.declared.Token.{Token}
use Rattle.token.specs.Kind.{kind, keyword, delimiter}
use Rattle.names.specs.Names.{name_kind, is, variables_in}
use Rattle.program.specs.Syntax.{Expr, Target, to_field, to_variable, Clause, Block, empty, assign, select, loop, exit, constant}
use Rattle.grammar.specs.Reader.{Reader, ◌>>=◌, ◌>>◌, ◌<<◌, ◌▷◌, return, Turn, again, done, repeat, turns, get_state, refuse, refuse_last, is_kind, next_token, position, advance, put, put_both, expect, expect_or, forbid, opening, is_name, by_name, entry_in, declare, release, fresh_name, number_of}
use Rattle.grammar.specs.Constants.{read_range, read_declaration}
use Rattle.grammar.specs.Expressions.{Cell, dot_field, read_expression}

-- ---- assignments

-- over the name in a slot on a left side: it must be a variable; its number among the variables
unfoldable pub old_variable : ℕ → Reader ℕ
old_variable slot = entry_in slot >>= λ e. if is e name_kind.variable then advance >> return (number_of e) else refuse 9

-- over a new name on a left side, which begins a variable; its number among the variables
unfoldable pub new_variable : Reader ℕ
new_variable = do
  i ← fresh_name
  s ← get_state
  let k = variables_in s.names s.count
  declare i name_kind.variable k
  return k

-- `.name` on a left side: the number of the field, which must not be const
unfoldable pub named_target : Reader ℕ
named_target = dot_field >>= λ slot. entry_in slot >>= λ e. if is e name_kind.const_field then refuse_last 9 else return (number_of e)

-- `cell` on a left side, with `.name` where fields are named: the field's number
unfoldable pub field_target : Cell → Reader ℕ
field_target cell = if cell.named then advance >> named_target else advance >> forbid delimiter.dot 12 >> return 0

-- the left side of an assignment
unfoldable pub read_target : Cell → Reader Target
read_target cell =
    next_token >>= λ t.
    if is_kind t kind.time then refuse 9
    else if is_kind t kind.cell then (field_target cell ▷ to_field)
    else (by_name t false old_variable new_variable << forbid delimiter.dot 12 ▷ to_variable)

-- the number of a target, as it is noted in the table
abbrev pub target_number : Target → ℕ
target_number (to_field f) = f
target_number (to_variable slot) = slot

abbrev pub clause : Token → Expr → Option Expr → Clause
clause t e c = record { place = t.start; expr = e; condition = c }

-- `when` and a condition, whose position is noted at the clause's `:=`, at position i; the chain goes on if `:=` stands behind it
unfoldable pub when_clause : Reader Expr → List Clause → ℕ → Token → Expr → Reader (Turn (List Clause) (List Clause))
when_clause expr got i t e = do
  advance
  at ← position
  c ← expr
  put i 2 at
  u ← next_token
  let now = got ++ clause t e (some c) ∷ []
  return (if is_kind u delimiter.assign then again now else done now)

-- what stands behind a clause's expression: `when`; else the chain ends, behind a condition with `otherwise`. A comma is refused 6
unfoldable pub clause_end : Reader Expr → List Clause → ℕ → Token → Expr → Reader (Turn (List Clause) (List Clause))
clause_end expr got i t e =
    next_token >>= λ u.
    if is_kind u keyword.when then when_clause expr got i t e
    else if is_kind u delimiter.comma then refuse 6
    else if eqb (length got) 0 then return (done (got ++ clause t e none ∷ []))
    else expect keyword.otherwise >> return (done (got ++ clause t e none ∷ []))

-- one more clause, from its `:=` on. The position past it is noted there
unfoldable pub clause_turn : Reader Expr → List Clause → Reader (Turn (List Clause) (List Clause))
clause_turn expr got = do
  i ← position
  t ← next_token
  expect delimiter.assign
  e ← expr
  turn ← clause_end expr got i t e
  past ← position
  put i 3 past
  return turn

-- an assignment, to be put before the statements after it. Its target and the position past it are noted at its first token
unfoldable pub read_assignment : Cell → Reader Expr → Reader (Block → Block)
read_assignment cell expr = do
  i ← position
  to ← read_target cell
  forbid delimiter.bracket 6
  cs ← repeat turns (clause_turn expr) []
  past ← position
  put_both i (target_number to) past
  return (assign to cs)

-- ---- choices

-- a condition and the statements that it guards
abbrev pub Arm : Type 0
Arm = record { condition : Expr; part : Block }

-- arms that are tried in order, the part behind `else`, and the statements after the `end`
unfoldable pub choices : List Arm → Block → Block → Block
choices [] last after = last
choices (a ∷ more) last after = select a.condition a.part (choices more last empty) after

-- what stands behind an arm's statements: one more arm, the part behind `else`, or `end`
unfoldable pub arm_end : Reader Block → List Arm → Reader (Turn (List Arm) (Block → Block))
arm_end block arms =
    next_token >>= λ t.
    if is_kind t keyword.elsif then return (again arms)
    else if is_kind t keyword.else then (advance >> block << expect keyword.end ▷ λ b. done (choices arms b))
    else expect keyword.end >> return (done (choices arms empty))

-- one more arm, from its `if` or `elsif` on. The position behind its statements is noted there
unfoldable pub arm_turn : Reader Expr → Reader Block → List Arm → Reader (Turn (List Arm) (Block → Block))
arm_turn expr block got = do
  i ← position
  advance
  c ← expr
  expect keyword.then
  b ← block
  past ← position
  put i 2 past
  arm_end block (got ++ record { condition = c; part = b } ∷ [])

-- an `if`. The position past it is noted at its first token
unfoldable pub read_if : Bool → Reader Expr → Reader Block → Reader (Block → Block)
read_if free expr block =
    if free then
    (position >>= λ i.
    repeat turns (arm_turn expr block) [] >>= λ statement.
    position >>= λ past.
    put i 3 past >> return statement)
    else refuse 14

-- ---- loops

-- a loop inside so many others. While it is open its index has a record, whose value is the loop's depth. The body's position and the
-- position past the loop are noted at `forall`, the range at the index's name
unfoldable pub read_forall : Bool → ℕ → Reader Block → Reader (Block → Block)
read_forall free depth block = do
  i ← position
  opening free
  name ← fresh_name
  expect_or delimiter.colon 6
  r ← read_range most_turns
  put_both name (encode_of r.low) (encode_of r.high)
  slot ← declare name name_kind.index depth
  inner ← position
  body ← block
  expect keyword.end
  release slot
  past ← position
  put_both i inner past
  return (loop r body)

-- ---- lists of statements

-- `exit`, with the position past it noted at it
unfoldable pub read_exit : Reader (Block → Block)
read_exit = do i ← position; advance; put i 3 (i + 1); return exit

-- what reads the parts of a statement: whether one more `if`, `forall` or bracket may be open; an expression here; an expression and a
-- list of statements (by the number of open loops) inside an `if` or a `forall`
abbrev pub Parts : Type 0
Parts = record { free : Bool; expr : Reader Expr; inner_expr : Reader Expr; inner : ℕ → Reader Block }

-- a statement behind those `before` it
abbrev pub put_after : (Block → Block) → (Block → Block) → Turn (Block → Block) Block
put_after before statement = again (λ after. before (statement after))

-- one more statement, where so many loops are open, behind those `before` it; or the end of the list, and whoever called looks at the
-- token that stands there. `exit` outside a loop is no statement
unfoldable pub statement_turn : Cell → Parts → ℕ → (Block → Block) → Reader (Turn (Block → Block) Block)
statement_turn cell parts loops before =
    next_token >>= λ t.
    if is_name t then (read_assignment cell parts.expr ▷ put_after before)
    else if is_kind t keyword.const then (read_declaration parts.free ▷ λ _. put_after before constant)
    else if is_kind t keyword.if then (read_if parts.free parts.inner_expr (parts.inner loops) ▷ put_after before)
    else if is_kind t keyword.forall then (read_forall parts.free loops (parts.inner (loops + 1)) ▷ put_after before)
    else if is_kind t keyword.exit && ltb 0 loops then (read_exit ▷ put_after before)
    else return (done (before empty))

-- statements up to the end of their list, by what reads their parts, where so many loops are open
abbrev pub read_statements : Cell → Parts → ℕ → Reader Block
read_statements cell parts loops = repeat turns (statement_turn cell parts loops) (λ after. after)

-- a list of statements, where so many more may be open and so many loops are
unfoldable pub read_block : Cell → ℕ → ℕ → Reader Block
read_block cell zero loops =
    read_statements cell (record { free = false; expr = read_expression cell 0; inner_expr = refuse 14; inner = λ _. refuse 14 }) loops
read_block cell (suc free) loops =
    let inner : ℕ → Reader Block = λ l input s. read_block cell free l input s in
    read_statements cell (record { free = true; expr = read_expression cell (suc free); inner_expr = read_expression cell free; inner = inner }) loops
