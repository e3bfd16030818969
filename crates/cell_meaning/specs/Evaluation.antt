-- The next fields of one cell of an accepted program, or its first fault.
use Rattle.std.specs.Prelude.{Bool, true, false, List, [], ◌∷◌, ◌++◌, ℕ, zero, suc, length, get_or, set, replicate, ltb, ℤ, pos, negsuc, ◌+ℤ◌, if◌then◌else◌}
use Rattle.std.proofs.Math.Option.{Option, none, some}
use Rattle.value.specs.Number.{within}
use Rattle.value.specs.Worked.{truth, span_of}
use Rattle.automaton.specs.Step.{Outcome, result, fault}
use Rattle.program.specs.Syntax.{Range, no_range, Index, fixed, moving, Expr, number, time, variable, index, field, element, unary, binary, Target, to_field, to_variable, Clause, Block, empty, assign, select, loop, exit, constant, Program}
use Rattle.cell_meaning.specs.Operators.{placed, apply_unary, apply_binary}

-- ---- expressions

-- what a cell's evaluation reads: the number of dimensions, the fields' ranges, the time, and the old fields of the cell at each relative index
abbrev pub Env : Type 0
Env = record { dims : ℕ; fields : List Range; time : ℕ; look : List ℤ → List ℤ }

-- what follows is done with what came out; a fault stays as it is
abbrev pub bind : {A B : Type 0} → Outcome A → (A → Outcome B) → Outcome B
bind (result a) k = k a
bind (fault n place) k = fault n place

-- entry k of a list, 0 past its end
abbrev pub entry : List ℤ → ℕ → ℤ
entry zs k = get_or zs k (pos 0)

-- the value of an element of a relative index, by the values of the open loops' index variables, outermost first
abbrev pub offset : List ℤ → Index → ℤ
offset vs (fixed place z) = z
offset vs (moving place depth) = entry vs depth

-- a relative index: one offset for each dimension, 0 where none is written
unfoldable pub offsets : ℕ → List ℤ → List Index → List ℤ
offsets zero vs is = []
offsets (suc d) vs [] = pos 0 ∷ offsets d vs []
offsets (suc d) vs (i ∷ is) = offset vs i ∷ offsets d vs is

-- an element of an array constant; 32 out of range
unfoldable pub element_at : ℕ → List ℤ → ℤ → Outcome ℤ
element_at place zs (pos i) = if ltb i (length zs) then result (entry zs i) else fault 32 place
element_at place zs (negsuc i) = fault 32 place

-- an expression's value, by the variables and the open loops' index values. Operands are worked out left before right, then the operator
unfoldable pub eval : Env → List ℤ → List ℤ → Expr → Outcome ℤ
eval env vars vs (number z) = result z
eval env vars vs time = result (pos env.time)
eval env vars vs (variable slot) = result (entry vars slot)
eval env vars vs (index depth) = result (entry vs depth)
eval env vars vs (field is f) = result (entry (env.look (offsets env.dims vs is)) f)
eval env vars vs (element place zs e) = bind (eval env vars vs e) (element_at place zs)
eval env vars vs (unary op place e) = bind (eval env vars vs e) (λ a. placed place (apply_unary op a))
eval env vars vs (binary op place d e) =
    bind (eval env vars vs d) (λ a. bind (eval env vars vs e) (λ b. placed place (apply_binary op a b)))

-- ---- statements

-- what statements change: whether the innermost loop is being left, the variables, and the cell's next fields
abbrev pub Frame : Type 0
Frame = record { leaving : Bool; vars : List ℤ; next : List ℤ }

abbrev pub frame : Bool → List ℤ → List ℤ → Frame
frame leaving vars next = record { leaving = leaving; vars = vars; next = next }

-- the statements that follow, unless a loop is being left
abbrev pub onward : Outcome Frame → (Frame → Outcome Frame) → Outcome Frame
onward o k = bind o (λ fr. if fr.leaving then result fr else k fr)

-- z is in a field's range
abbrev pub in_field : Range → ℤ → Bool
in_field r z = within r.low r.high z

-- a value is assigned; the place is that of the `:=` before it. 33 outside the field
unfoldable pub store : List Range → Target → ℕ → Frame → ℤ → Outcome Frame
store fields (to_variable slot) place fr z = result (frame fr.leaving (set fr.vars slot z) fr.next)
store fields (to_field f) place fr z =
    if in_field (get_or fields f no_range) z then result (frame fr.leaving fr.vars (set fr.next f z))
    else fault 33 place

-- whether a condition is met, or none is asked. Whatever is not 0 is true
abbrev pub met : Env → List ℤ → List ℤ → Option Expr → Outcome Bool
met env vars vs none = result true
met env vars vs (some e) = bind (eval env vars vs e) (λ z. result (truth z))

-- conditions of `when` are tried in order; only the chosen expression is worked out
unfoldable pub assign_first : Env → List ℤ → Target → List Clause → Frame → Outcome Frame
assign_first env vs to [] fr = result fr
assign_first env vs to (c ∷ cs) fr =
    bind (met env fr.vars vs c.condition)
    (λ t. if t then bind (eval env fr.vars vs c.expr) (store env.fields to c.place fr) else assign_first env vs to cs fr)

-- the body for n values of the index variable from v on, or until it is left
unfoldable pub each : (ℤ → Frame → Outcome Frame) → ℕ → ℤ → Frame → Outcome Frame
each body zero v fr = result fr
each body (suc n) v fr = bind (body v fr) (λ g. if g.leaving then result (frame false g.vars g.next) else each body n (v +ℤ pos 1) g)

-- statements run in order
unfoldable pub exec : Env → List ℤ → Block → Frame → Outcome Frame
exec env vs empty fr = result fr
exec env vs (assign to cs rest) fr = onward (assign_first env vs to cs fr) (exec env vs rest)
exec env vs (select c d e rest) fr =
    onward (bind (met env fr.vars vs (some c)) (λ t. if t then exec env vs d fr else exec env vs e fr)) (exec env vs rest)
exec env vs (loop r d rest) fr =
    onward (each (λ v. exec env (vs ++ (v ∷ [])) d) (span_of r.low r.high) r.low fr) (exec env vs rest)
exec env vs (exit rest) fr = result (frame true fr.vars fr.next)
exec env vs (constant rest) fr = exec env vs rest fr

-- ---- a cell

-- the next fields of a cell, or its first fault: variables start at 0, and a field that is not assigned keeps its value.
-- `look` gives the old fields of the cell at each relative index
unfoldable pub evaluate : Program → (List ℤ → List ℤ) → ℕ → Outcome (List ℤ)
evaluate p look t =
    bind (exec (record { dims = p.dims; fields = p.fields; time = t; look = look }) [] p.body
    (frame false (replicate p.slots (pos 0)) (look (offsets p.dims [] []))))
    (λ end. result end.next)
