-- What the evaluators of expressions promise.
use Rattle.std.specs.Prelude.{◌≡◌, Option, Some, None, Result, Ok, Err, List, ℕ, ◌+◌, ◌*◌, ◌<◌, ◌≤◌, length, ℤ, if◌then◌else◌}
use Rattle.value.specs.Limits.{most_tokens, most_names, most_open, most_dims, most_fields}
use Rattle.value.specs.Promises.Buffers.{most_room}
use Rattle.value.specs.Worked.{value}
use Rattle.value.specs.declared.Value.{Value}
use Rattle.automaton.specs.Step.{Outcome, result, fault}
use Rattle.automaton.specs.Shape.{product, coordinates, neighbour}
use Rattle.automaton.specs.Promises.ShapeLaws.{Shaped}
use Rattle.automaton.specs.Grid.{cell_of}
use Rattle.token.specs.Kind.{kind, delimiter}
use Rattle.program.specs.Syntax.{Expr}
use Rattle.program.specs.Refusal.{Refusal, refusal}
use Rattle.cell_meaning.specs.Operators.{placed, apply_binary}
use Rattle.cell_meaning.specs.Evaluation.{Env, eval}
use Rattle.cell_meaning.specs.Promises.Stands.{ranges_in, refers, is_unary, parsed, decode_expression, decode_operand, decode_primary, decode_name, decode_bracket}
use Rattle.cell_meaning.specs.Links.{Table, table_of}
use Rattle.cell_meaning.specs.Promises.Leaves.{Leaves}
use Rattle.cell_operands.specs.declared.Site.{Site}
use Rattle.cell_operands.specs.declared.Evaluated.{Evaluated}

-- ---- what is read

-- the table of a site
abbrev pub site_table : List ℕ → List ℕ → Site → Table
site_table words sizes site = table_of words site.tokens (length sizes)

-- what a cell's evaluation reads
abbrev pub env_of : List ℕ → List ℕ → List ℤ → Site → Env
env_of words sizes grid site =
    record {
      dims = length sizes;
      fields = ranges_in (site_table words sizes site) site.base site.fields;
      time = site.time;
      look = λ ds. cell_of site.fields grid (neighbour sizes site.cell ds);
    }

-- what evaluating a cell asks of its numbers, with so many loops open; nothing is asked of what the word table holds, but the leaf table must be its own
pub record SiteReady (leaves words sizes point : List ℕ) (grid : List ℤ) (site : Site) (depth : ℕ) : Type 0 where
  pub table : 4 * site.tokens ≤ length words
  pub tokens : site.tokens ≤ most_tokens
  pub base : site.base ≤ most_tokens
  pub fields : site.fields ≤ most_fields
  pub slots : site.slots ≤ most_names
  pub time : site.time < 2147483648
  pub dims : length sizes ≤ most_dims
  pub shaped : Shaped (length sizes) site.fields most_room sizes (length grid)
  pub cell : site.cell < product sizes
  pub own : point ≡ coordinates sizes site.cell
  pub loops : depth ≤ most_open
  pub noted : Leaves leaves words sizes site.tokens site.fields site.slots

-- ---- answers

-- what an evaluator returns: a value with the position past the expression, or a fault with its place
abbrev pub EvaluationResult : Type 0
EvaluationResult = Result Evaluated Refusal

abbrev pub EvaluatedTo : Value → ℕ → EvaluationResult
EvaluatedTo v next = Ok (record { value = v; next = next })

abbrev pub Failed : ℕ → ℕ → EvaluationResult
Failed number place = Err (refusal number place)

-- what a short way finds, which may be left: where it is, a fault that says nothing
abbrev pub short : Option Evaluated → EvaluationResult
short (Some e) = Ok e
short None = Failed 0 0

-- an evaluator's answer, by the outcome
abbrev pub told_of : Outcome ℤ → ℕ → EvaluationResult
told_of (result z) next = EvaluatedTo (value z) next
told_of (fault number place) next = Failed number place

-- an answer's position lies past `at` and not past the last token
abbrev pub OperandOnward : ℕ → ℕ → EvaluationResult → Type 0
OperandOnward at n (Ok e) = (at < e.next) × (e.next ≤ n)
OperandOnward at n (Err f) = Unit {0}

-- the position of the primary of an operand at a position, whose first token is of kind k
abbrev pub primary_from : ℕ → ℕ → ℕ
primary_from k at = if is_unary k then at + 1 else at

-- r is what the expression of operators of a level or tighter is worth that stands at a position, whichever it is
pub record EvalsExpression (t : Table) (env : Env) (vars vs : List ℤ) (n at level : ℕ) (r : EvaluationResult) : Type 0 where
  pub says : (fuel : ℕ) (e : Expr) (next : ℕ) → decode_expression fuel t level at ≡ parsed e next → r ≡ told_of (eval env vars vs e) next
  pub onward : OperandOnward at n r

pub record EvalsOperand (t : Table) (env : Env) (vars vs : List ℤ) (n at : ℕ) (r : EvaluationResult) : Type 0 where
  pub says : (fuel : ℕ) (e : Expr) (next : ℕ) → decode_operand fuel t at ≡ parsed e next → r ≡ told_of (eval env vars vs e) next
  pub onward : OperandOnward at n r

pub record EvalsPrimary (t : Table) (env : Env) (vars vs : List ℤ) (n at : ℕ) (r : EvaluationResult) : Type 0 where
  pub says : (fuel : ℕ) (e : Expr) (next : ℕ) → decode_primary fuel t at ≡ parsed e next → r ≡ told_of (eval env vars vs e) next
  pub onward : OperandOnward at n r

-- a name in use, but for that of an array constant
pub record EvalsName (t : Table) (env : Env) (vars vs : List ℤ) (n at : ℕ) (r : EvaluationResult) : Type 0 where
  pub says : (t.word2 at ≡ refers.array → ⊥) → (fuel : ℕ) (e : Expr) (next : ℕ) → decode_name fuel t at ≡ parsed e next → r ≡ told_of (eval env vars vs e) next
  pub onward : OperandOnward at n r

-- a primary, but for names and parentheses
pub record EvalsPlain (t : Table) (env : Env) (vars vs : List ℤ) (n at : ℕ) (r : EvaluationResult) : Type 0 where
  pub says : (t.kind at ≡ kind.name → ⊥) → (t.kind at ≡ delimiter.paren → ⊥)
      → (fuel : ℕ) (e : Expr) (next : ℕ) → decode_primary fuel t at ≡ parsed e next → r ≡ told_of (eval env vars vs e) next
  pub onward : OperandOnward at n r

pub record EvalsBracket (t : Table) (env : Env) (vars vs : List ℤ) (n at close : ℕ) (r : EvaluationResult) : Type 0 where
  pub says : (fuel : ℕ) (e : Expr) (next : ℕ) → decode_bracket fuel t close at ≡ parsed e next → r ≡ told_of (eval env vars vs e) next
  pub onward : OperandOnward at n r

-- ---- the short ways, which may be left

-- a value that is found is that of the operand at a position
pub record Leaf (t : Table) (env : Env) (vars vs : List ℤ) (n at : ℕ) (r : EvaluationResult) : Type 0 where
  pub found : (v : Value) (next : ℕ) → r ≡ EvaluatedTo v next → EvalsOperand t env vars vs n at r
  -- where no parentheses and no array constant stand there, it is the primary
  pub only : (t.kind at ≡ delimiter.paren → ⊥) → (t.kind at ≡ kind.name → t.word2 at ≡ refers.array → ⊥) → EvalsPrimary t env vars vs n at r

-- a value that is found is that of a leaf; else nothing is said
pub record OperandNoted (t : Table) (env : Env) (vars vs : List ℤ) (n at : ℕ) (r : EvaluationResult) : Type 0 where
  pub found : (v : Value) (next : ℕ) → r ≡ EvaluatedTo v next → Leaf t env vars vs n at r

-- a value that is found is that of the expression at a position
pub record Quick (t : Table) (env : Env) (vars vs : List ℤ) (n at level : ℕ) (r : EvaluationResult) : Type 0 where
  pub found : (v : Value) (next : ℕ) → r ≡ EvaluatedTo v next → EvalsExpression t env vars vs n at level r
  -- of operators tighter than all there are, it is the primary, where no parentheses and no array constant stand there
  pub only : level ≡ 5 → (t.kind at ≡ delimiter.paren → ⊥) → (t.kind at ≡ kind.name → t.word2 at ≡ refers.array → ⊥) → EvalsPrimary t env vars vs n at r

-- a value is joined by an operator with the one before it; or is alone, where the operator is 0
pub record Joins (place op : ℕ) (a : ℤ) (b : Value) (next : ℕ) (r : EvaluationResult) : Type 0 where
  pub alone : op ≡ 0 → r ≡ EvaluatedTo b next
  pub applied : (op ≡ 0 → ⊥) → r ≡ told_of (placed place (apply_binary op a b.n)) next
