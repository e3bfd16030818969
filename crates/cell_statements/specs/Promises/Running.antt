-- What the functions that run statements promise.
use Rattle.std.specs.Prelude as prelude
use Rattle.std.specs.Prelude.{◌≡◌, Some, None, Result, Ok, Err, Bool, true, false, List, [], ◌∷◌, ◌++◌, ℕ, ◌+◌, ◌<◌, ◌≤◌, length, get_or, take, ℤ, if◌then◌else◌}
use Rattle.std.proofs.Math.Option.{Option, none, some}
use Rattle.value.specs.Promises.Buffers.{most_room}
use Rattle.value.specs.Worked.{span_of}
use Rattle.automaton.specs.Step as Step
use Rattle.automaton.specs.Shape.{product, coordinates, neighbour}
use Rattle.automaton.specs.Promises.ShapeLaws.{Shaped}
use Rattle.automaton.specs.Grid.{cell_of}
use Rattle.program.specs.Refusal.{Refusal, refusal}
use Rattle.program.specs.Syntax.{Range, no_range, Expr, Clause, Block, empty, assign, select, loop, exit, constant, Program}
use Rattle.program.specs.declared.Rule.{Rule}
use Rattle.program.specs.Promises.Fitting.{Sized}
use Rattle.cell_meaning.specs.Evaluation.{Env, bind, eval, Frame, frame, onward, store, met, assign_first, each, exec, evaluate}
use Rattle.cell_meaning.specs.Promises.Leaves.{Leaves}
use Rattle.cell_meaning.specs.Promises.Stands.{ExprAt, target_in, first_clause, ClausesAt, LoopAt, Stands, Choice, Holds}
use Rattle.cell_meaning.specs.Links.{Table, begins}
use Rattle.cell_statements.specs.declared.Flow.{Flow}
use Rattle.cell_statements.specs.declared.Flow.TheVariants as flow

-- how statements go on: with the next one, by leaving the innermost loop, or not at all, after a fault
abbrev pub Going : Type 0
Going = Result Flow Refusal

abbrev pub On : Going
On = Ok flow.On

abbrev pub Leaving : Going
Leaving = Ok flow.Leaving

abbrev pub Faulted : ℕ → ℕ → Going
Faulted number place = Err (refusal number place)

-- what a function leaves: the frame, or the fault
abbrev pub left_by_exit : Going → List ℤ → List ℤ → Step.Outcome Frame
left_by_exit (Ok flow.On) vars next = Step.result (frame false vars next)
left_by_exit (Ok flow.Leaving) vars next = Step.result (frame true vars next)
left_by_exit (Err f) vars next = Step.fault f.number f.place

-- ---- assignments

abbrev pub field_range : Env → ℕ → Range
field_range env f = get_or env.fields f no_range

-- a value is stored in the target of the assignment at `at`, behind the `:=` at `here`
pub record Stores (t : Table) (env : Env) (at here : ℕ) (z : ℤ) (vars next vars' next' : List ℤ) (r : Going) : Type 0 where
  pub says : left_by_exit r vars' next' ≡ store env.fields (target_in t at) (t.place here) (frame false vars next) z

-- the clause at the `:=` at `here` is chosen
pub record AssignsOne (t : Table) (env : Env) (vs : List ℤ) (at here : ℕ) (vars next vars' next' : List ℤ) (r : Going) : Type 0 where
  pub says : (e : Expr) (past : ℕ) → ExprAt t e (here + 1) past
      → left_by_exit r vars' next' ≡ bind (eval env vars vs e) (store env.fields (target_in t at) (t.place here) (frame false vars next))

-- the condition of the clause at a `:=`
abbrev pub ConditionAt : Table → Option Expr → ℕ → Type 0
ConditionAt t none at = t.word2 at ≡ 0
ConditionAt t (some e) at = (past : ℕ) × (t.word2 at ≡ 0 → ⊥) × ExprAt t e (t.inner at) past

-- what is found of a condition: whether it holds, or a fault
abbrev pub ConditionResult : Type 0
ConditionResult = Result Bool Refusal

abbrev pub guarded : ConditionResult → Step.Outcome Bool
guarded (Ok holds) = Step.result holds
guarded (Err f) = Step.fault f.number f.place

pub record Guards (t : Table) (env : Env) (vs : List ℤ) (here : ℕ) (vars : List ℤ) (r : ConditionResult) : Type 0 where
  pub says : (o : Option Expr) → ConditionAt t o here → met env vars vs o ≡ guarded r
  pub asked : r ≡ Ok false → t.word2 here ≡ 0 → ⊥

pub record Assigns (t : Table) (env : Env) (vs : List ℤ) (at : ℕ) (vars next vars' next' : List ℤ) (r : Going) : Type 0 where
  pub says : (cs : List Clause) → ClausesAt t cs (first_clause t at) → left_by_exit r vars' next' ≡ assign_first env vs (target_in t at) cs (frame false vars next)

-- ---- statements. `ix` are the values of index variables, of which the first `depth` belong to the open loops

-- a list of statements
pub record RunsBlock (t : Table) (env : Env) (depth at : ℕ) (vars next ix vars' next' ix' : List ℤ) (r : Going) : Type 0 where
  pub says : (b : Block) → Stands t depth b at → left_by_exit r vars' next' ≡ exec env (take depth ix) b (frame false vars next)
  pub kept : take depth ix' ≡ take depth ix

abbrev pub rest_after : Block → Block
rest_after empty = empty
rest_after (assign to cs rest) = rest
rest_after (select c d e rest) = rest
rest_after (loop r d rest) = rest
rest_after (exit rest) = rest
rest_after (constant rest) = rest

-- the first statement of a list
pub record RunsStatement (t : Table) (env : Env) (depth at : ℕ) (vars next ix vars' next' ix' : List ℤ) (r : Going) : Type 0 where
  pub says : begins (t.kind at) ≡ true → (b : Block) → Stands t depth b at
      → exec env (take depth ix) b (frame false vars next) ≡ onward (left_by_exit r vars' next') (exec env (take depth ix) (rest_after b))
  pub kept : take depth ix' ≡ take depth ix

-- where a choice goes on: with statements that stand at a position, with nothing more, or with a fault
abbrev pub Chosen : Type 0
Chosen = Result (prelude.Option ℕ) Refusal

abbrev pub LoopSettles : Table → Env → List ℤ → ℕ → Chosen → Step.Outcome Frame → Frame → Type 0
LoopSettles t env vs depth (Ok (Some m)) x fr = (b : Block) × Stands t depth b m × (x ≡ exec env vs b fr)
LoopSettles t env vs depth (Ok None) x fr = x ≡ Step.result fr
LoopSettles t env vs depth (Err f) x fr = x ≡ Step.fault f.number f.place

-- a list's position lies past `at` and not past the last token
abbrev pub Forward : ℕ → ℕ → Chosen → Type 0
Forward at n (Ok (Some m)) = (at < m) × (m ≤ n)
Forward at n (Ok None) = Unit {0}
Forward at n (Err f) = Unit {0}

-- what the choice by a condition comes to
abbrev pub choice_outcome : Env → List ℤ → Expr → Block → Block → Frame → Step.Outcome Frame
choice_outcome env vs c d e fr = bind (met env fr.vars vs (some c)) (λ t. if t then exec env vs d fr else exec env vs e fr)

-- a choice
pub record Chooses (t : Table) (env : Env) (vs : List ℤ) (depth n at : ℕ) (vars : List ℤ) (r : Chosen) : Type 0 where
  pub says : (c : Expr) (d e : Block) → Choice t depth c d e at → (next : List ℤ)
      → LoopSettles t env vs depth r (choice_outcome env vs c d e (frame false vars next)) (frame false vars next)
  pub onward : Forward at n r

abbrev pub body_of : Env → List ℤ → Block → ℤ → Frame → Step.Outcome Frame
body_of env vs d v = exec env (vs ++ (v ∷ [])) d

-- a loop
pub record RunsLoop (t : Table) (env : Env) (depth at : ℕ) (vars next ix vars' next' ix' : List ℤ) (r : Going) : Type 0 where
  pub says : (values : Range) (d : Block) → LoopAt t depth values (λ i. Stands t (depth + 1) d i) at
      → left_by_exit r vars' next' ≡ each (body_of env (take depth ix) d) (span_of values.low values.high) values.low (frame false vars next)
  pub kept : take depth ix' ≡ take depth ix

-- ---- a cell

-- what is asked of the numbers; nothing is asked of what the word table holds, but the leaf table must be its own. There are as many fields as entries in the memory lent for them
pub record Fit (leaves words : List ℕ) (rule : Rule) (sizes point : List ℕ) (cell : ℕ) (grid : List ℤ) (fields time : ℕ) : Type 0 where
  pub rule_fits : Sized (length words) rule
  pub shaped : Shaped rule.dims rule.fields most_room sizes (length grid)
  pub lent : rule.fields ≡ fields
  pub small : time < 2147483648
  pub inside : cell < product sizes
  pub own : point ≡ coordinates sizes cell
  pub noted : Leaves leaves words sizes rule.tokens rule.fields rule.slots

-- the outcome of a cell whose next fields are left in `next`
abbrev pub CellResult : Type 0
CellResult = Result (Unit {0}) Refusal

abbrev pub outcome_is : CellResult → List ℤ → Step.Outcome (List ℤ)
outcome_is (Ok done) next = Step.result next
outcome_is (Err f) next = Step.fault f.number f.place

-- whichever program stands in the table, the outcome is what its evaluation gives
pub record Evaluates (words : List ℕ) (rule : Rule) (sizes : List ℕ) (cell : ℕ) (grid next : List ℤ) (time : ℕ) (r : CellResult) : Type 0 where
  pub says : (p : Program) → Holds words rule p
      → outcome_is r next ≡ evaluate p (λ ds. cell_of rule.fields grid (neighbour sizes cell ds)) time
