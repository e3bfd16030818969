-- What the readers of statements promise.
use Rattle.std.specs.Prelude.{◌≡◌, Bool, true, false, List, ℕ, zero, suc, ◌+◌, ◌<◌, length, eqb}
use Rattle.value.specs.Limits.{most_names, most_turns}
use Rattle.value.specs.Worked.{encode_of}
use Rattle.token.specs.declared.Token.{Token}
use Rattle.token.specs.declared.Scan.{Scan}
use Rattle.token.specs.Kind.{keyword, delimiter}
use Rattle.names.specs.Names.{name_kind}
use Rattle.program.specs.Syntax.{Range, Expr, Target, Clause, Block}
use Rattle.grammar.specs.Reader.{Reader, ◌>>=◌, ◌>>◌, return, Turn, again, done, refuse, position, put_both, expect, expect_or, declare, release, fresh_name}
use Rattle.grammar.specs.Constants.{read_range}
use Rattle.grammar.specs.Expressions as grammar
use Rattle.grammar.specs.Expressions.{read_expression}
use Rattle.grammar.specs.Statements.{target_number, when_clause, clause_end, Arm, read_if, read_forall, read_exit, Parts, read_block}
use Rattle.read_state.specs.Promises.Reading.{anything, Gives, Onward}
use Rattle.read_state.specs.declared.Reading.{Reading}
use Rattle.read_state.specs.Promises.Reading.{Read}
use Rattle.std.specs.Prelude.{Ok}
use Rattle.read_expressions.specs.declared.inside.Inside.{Inside}
use Rattle.read_statements.specs.declared.Link.{Link}
use Rattle.read_statements.specs.declared.Link.TheVariants.{First, Later}
use Rattle.read_expressions.specs.Promises.Promises.{cell_as}

-- ---- turns

-- a turn of a repeated reader follows from the place behind it: once more, with an A, or the end, with a D
pub data TurnIn {S T : Type 0} (A : S → Reading → Type 0) (D : Reading → Type 0) : Turn S T → Reading → Type 0 where
  once : {x : S} {t : Reading} → A x t → TurnIn A D (again x) t
  ends : {r : T} {t : Reading} → D t → TurnIn A D (done r) t

-- what is promised of a reader whatever came before it, if X holds of that
pub record Each {I A : Type 0} (X : I → Type 0) (R : A → Reading → Type 0) (m : I → Reader A) (source : List ℕ) (scan : Scan) (top least : ℕ) (s : Reading) (ns ws : List ℕ) (r : Read) (ns' ws' : List ℕ) : Type 0 where
  pub gives : (x : I) → X x → Gives R (m x) source scan s ns ws r ns' ws'
  pub onward : Onward top scan least r

abbrev pub whatever : {I : Type 0} → I → Type 0
whatever x = Unit {0}

-- ---- assignments

-- the number of a target, in `number`
abbrev pub TargetNoted : Target → Reading → Type 0
TargetNoted to t = target_number to ≡ t.number

-- what reads an expression, and a list of statements
abbrev pub expression_in : Inside → Reader Expr
expression_in inside = read_expression (cell_as inside.cell) inside.free

abbrev pub block_in : Inside → Reader Block
block_in inside = read_block (cell_as inside.cell) inside.free inside.loops

-- whether a clause would be the first of its chain
abbrev pub is_first : Link → Bool
is_first First = true
is_first Later = false

abbrev pub IsLink : Link → List Clause → Type 0
IsLink link got = eqb (length got) 0 ≡ is_first link

-- whether a chain of clauses goes on, in `more`
abbrev pub ChainIn : Turn (List Clause) (List Clause) → Reading → Type 0
ChainIn = TurnIn (λ got t. (t.more ≡ true) × IsLink Later got) (λ t. t.more ≡ false)

-- what comes before the end of a clause: the clauses before it, the token of its `:=` and its expression
pub record StatementsBegun : Type 0 where
  pub got : List Clause
  pub token : Token
  pub expr : Expr

abbrev pub when_behind : Inside → ℕ → StatementsBegun → Reader (Turn (List Clause) (List Clause))
when_behind inside i b = when_clause (expression_in inside) b.got i b.token b.expr

abbrev pub end_behind : Inside → ℕ → StatementsBegun → Reader (Turn (List Clause) (List Clause))
end_behind inside i b = clause_end (expression_in inside) b.got i b.token b.expr

-- ---- choices

-- nothing is said of what is read; `more` is false
abbrev pub NoneFollows : {A : Type 0} → A → Reading → Type 0
NoneFollows a t = t.more ≡ false

-- whether one more arm follows, in `more`; if it does, a token stands there
abbrev pub ArmsIn : Scan → Turn (List Arm) (Block → Block) → Reading → Type 0
ArmsIn scan = TurnIn (λ arms t. (t.more ≡ true) × (t.at < scan.count)) (λ t. t.more ≡ false)

-- ---- loops

-- the range of a loop, behind the name of its index, which stands at position i
unfoldable pub loop_range : ℕ → Reader Range
loop_range i = do
  expect_or delimiter.colon 6
  r ← read_range most_turns
  put_both i (encode_of r.low) (encode_of r.high)
  return r

-- the name of a loop's index and its range, in so many other loops; the range and the index's slot
unfoldable pub loop_head : ℕ → Reader (Range × ℕ)
loop_head depth = do
  name ← fresh_name
  r ← loop_range name
  slot ← declare name name_kind.index depth
  return (r, slot)

-- the slot of a loop's index, in `number`
abbrev pub IndexNoted : Range × ℕ → Reading → Type 0
IndexNoted h t = (h.1 ≡ t.number) × (t.number < most_names)

-- the end of the loop that begins at position i, with its body at position `inner`, and the index in a slot
unfoldable pub loop_end : ℕ → ℕ → ℕ → (Block → Block) → Reader (Block → Block)
loop_end i inner slot statement = do
  expect keyword.end
  release slot
  past ← position
  put_both i inner past
  return statement

-- ---- lists of statements

-- an `exit` is passed over
pub record Exits (s : Reading) (ws : List ℕ) (r : Reading) (ws' : List ℕ) : Type 0 where
  pub gives : (source : List ℕ) (scan : Scan) (ns : List ℕ) → Gives anything read_exit source scan s ns ws (Ok r) ns ws'
  pub at : r.at ≡ s.at + 1
  pub count : r.count ≡ s.count

-- what reads the parts of a statement, where so many more may be open
abbrev pub parts_of : grammar.Cell → ℕ → Parts
parts_of cell zero = record { free = false; expr = read_expression cell 0; inner_expr = refuse 14; inner = λ _. refuse 14 }
parts_of cell (suc free) =
    record { free = true; expr = read_expression cell (suc free); inner_expr = read_expression cell free; inner = read_block cell free }

abbrev pub parts_in : Inside → Parts
parts_in inside = parts_of (cell_as inside.cell) inside.free

-- whether a list of statements goes on from s: if it ends there, nothing is read
abbrev pub ListIn : Reading → Turn (Block → Block) Block → Reading → Type 0
ListIn s = TurnIn (λ before t. s.at < t.at) (λ t. t.at ≡ s.at)

-- an `if` and a `forall` among so many loops, with what reads their parts
abbrev pub if_with : Parts → ℕ → Reader (Block → Block)
if_with parts loops = read_if parts.free parts.inner_expr (parts.inner loops)

abbrev pub forall_with : Parts → ℕ → Reader (Block → Block)
forall_with parts loops = read_forall parts.free loops (parts.inner (loops + 1))
