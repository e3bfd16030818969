-- What the readers of expressions promise.
use Rattle.std.specs.Prelude.{◌≡◌, Bool, true, false, ◌&&◌, ◌||◌, List, ℕ, zero, suc, ◌+◌, ◌≤◌, ◌<◌, eqb}
use Rattle.token.specs.declared.Scan.{Scan}
use Rattle.token.specs.Kind.{operation}
use Rattle.program.specs.Syntax.{Expr}
use Rattle.grammar.specs.Reader.{Reader, refuse}
use Rattle.grammar.specs.Expressions as grammar
use Rattle.grammar.specs.Expressions.{climb, levels, operand_in}
use Rattle.read_state.specs.declared.Reading.{Reading}
use Rattle.read_state.specs.Promises.Reading.{Read}
use Rattle.read_state.specs.Promises.Reading.{anything, Gives, Onward}
use Rattle.read_expressions.specs.declared.Cell.{Cell}
use Rattle.read_expressions.specs.declared.inside.Inside.{Inside}

-- what the code's Cell stands for
abbrev pub cell_as : Cell → grammar.Cell
cell_as cell = record { dims = cell.dims; named = cell.named }

-- a slot of the name list, in `number`
abbrev pub SlotIn : ℕ → Reading → Type 0
SlotIn a t = (a ≡ t.number) × (t.number < t.count)

-- whether one more bracket may be open, and what reads the expression in it
abbrev pub some_free : ℕ → Bool
some_free zero = false
some_free (suc free) = true

abbrev pub inner_in : grammar.Cell → ℕ → Reader Expr
inner_in cell zero = refuse 14
inner_in cell (suc free) = climb levels (operand_in cell free) 1

-- whether two levels are those of relations
abbrev pub are_relations : ℕ → ℕ → Bool
are_relations own last = eqb own 2 && eqb last 2

-- whether a token of a kind is a unary operator
abbrev pub is_unary_token : ℕ → Bool
is_unary_token k = eqb k operation.plus || eqb k operation.minus || eqb k operation.not

-- an expression of operators of a level or tighter: `more` levels may be entered, enough for the levels from this one on
pub record Climbs (inside : Inside) (level : ℕ) (source : List ℕ) (scan : Scan) (s : Reading) (ns ws : List ℕ) (r : Read) (ws' : List ℕ) : Type 0 where
  pub gives : (more : ℕ) → 5 ≤ more + level → Gives anything (climb more (operand_in (cell_as inside.cell) inside.free) level) source scan s ns ws r ns ws'
  pub onward : Onward s.count scan (s.at + 1) r
