-- The word table as the evaluators read it, and what it is for an expression, for statements and for a program to stand in it (docs/LAYOUT.md).
-- Past the last token every word is 0. A link is read so that it leads forward: one that does not counts as the end. So whoever follows
-- links comes to an end, whatever the table holds.
use Rattle.std.specs.Prelude.{◌≡◌, Bool, true, false, ◌&&◌, ◌||◌, List, [], ◌∷◌, ℕ, zero, suc, ◌+◌, ◌<◌, ◌≤◌, eqb, ltb, ℤ, if◌then◌else◌}
use Rattle.std.proofs.Math.Option.{Option, none, some}
use Rattle.value.specs.Limits.{most_open, most_turns}
use Rattle.value.specs.Worked.{decode_of, span_of}
use Rattle.automaton.specs.Listed.{list_of}
use Rattle.token.specs.Kind.{kind, keyword, operation, delimiter, level_of}
use Rattle.program.specs.Syntax.{Range, range, Index, fixed, moving, Expr, number, time, variable, index, field, element, unary, binary, Target, to_field, to_variable, Clause, Block, empty, assign, select, loop, exit, constant, Program}
use Rattle.program.specs.declared.Rule.{Rule}
use Rattle.cell_meaning.specs.Links.{Table, begins, table_of}

-- ---- the table

-- a range in words 2 and 3 of a token
abbrev pub range_in : Table → ℕ → Range
range_in t i = range (decode_of (t.word2 i)) (decode_of (t.word3 i))

-- ---- relative indices

-- what a name in use refers to, by word 2
abbrev pub refers : record { constant : ℕ; array : ℕ; variable : ℕ; index : ℕ }
refers = record { constant = 1; array = 2; variable = 4; index = 5 }

unfoldable pub is_sign_kind : ℕ → Bool
is_sign_kind k = eqb k operation.plus || eqb k operation.minus

-- the element of a relative index at a position
unfoldable pub index_in : Table → ℕ → Index
index_in t at =
    if eqb (t.kind at) kind.name && eqb (t.word2 at) refers.index then moving (t.place at) (t.word3 at)
    else fixed (t.place at) (decode_of (t.word3 at))

-- the position of the next element: an element has two tokens if its first is a sign, else one, and a comma stands behind it
unfoldable pub next_index : Table → ℕ → ℕ
next_index t at = if is_sign_kind (t.kind at) then at + 3 else at + 2

-- n elements, from a position on
unfoldable pub indices_in : Table → ℕ → ℕ → List Index
indices_in t zero at = []
indices_in t (suc n) at = index_in t at ∷ indices_in t n (next_index t at)

-- ---- array constants

-- n values, in word 3 of the tokens from a position on
unfoldable pub values_in : Table → ℕ → ℕ → List ℤ
values_in t at zero = []
values_in t at (suc n) = decode_of (t.word3 at) ∷ values_in t (at + 1) n

-- the values of the array constant whose declaring name stands at a position
abbrev pub array_in : Table → ℕ → List ℤ
array_in t at = values_in t (t.word3 at) (t.word2 at)

-- ---- expressions

-- an operator that can stand before a primary
unfoldable pub is_unary : ℕ → Bool
is_unary k = is_sign_kind k || eqb k operation.not

-- what stands at a position: an expression, with the position past it; or none
pub data Decoded : Type 0 where
  parsed : Expr → ℕ → Decoded
  nothing : Decoded

abbrev pub then_decode : Decoded → (Expr → ℕ → Decoded) → Decoded
then_decode (parsed e next) f = f e next
then_decode nothing f = nothing

-- by fuel, of which there must be enough
unfoldable mutual
  -- an expression of operators of a level or tighter: an operand, then operators from left to right
  pub decode_expression : ℕ → Table → ℕ → ℕ → Decoded
  decode_expression zero t level at = nothing
  decode_expression (suc fuel) t level at = then_decode (decode_operand fuel t at) (λ e next. decode_chain fuel t level e next)

  -- operators behind a left part that is read, up to a position
  pub decode_chain : ℕ → Table → ℕ → Expr → ℕ → Decoded
  decode_chain zero t level left at = nothing
  decode_chain (suc fuel) t level left at =
      if ltb (level_of (t.kind at)) level then parsed left at
      else then_decode (decode_expression fuel t (level_of (t.kind at) + 1) (at + 1))
      (λ right next. decode_chain fuel t level (binary (t.kind at) (t.place at) left right) next)

  -- a primary with at most one unary operator
  pub decode_operand : ℕ → Table → ℕ → Decoded
  decode_operand zero t at = nothing
  decode_operand (suc fuel) t at =
      if is_unary (t.kind at) then
      then_decode (decode_primary fuel t (at + 1)) (λ e next. parsed (unary (t.kind at) (t.place at) e) next)
      else decode_primary fuel t at

  pub decode_primary : ℕ → Table → ℕ → Decoded
  decode_primary zero t at = nothing
  decode_primary (suc fuel) t at =
      if eqb (t.kind at) kind.literal then parsed (number (decode_of (t.word2 at))) (at + 1)
      else if eqb (t.kind at) kind.name then decode_name fuel t at
      else if eqb (t.kind at) delimiter.bracket then parsed (field (indices_in t t.dims (at + 1)) (t.word2 at)) (t.past at)
      else if eqb (t.kind at) kind.cell then parsed (field [] (t.word2 at)) (t.past at)
      else if eqb (t.kind at) delimiter.paren then decode_bracket fuel t delimiter.unparen at
      else if eqb (t.kind at) kind.time then parsed time (at + 1)
      else nothing

  -- a name in use
  pub decode_name : ℕ → Table → ℕ → Decoded
  decode_name zero t at = nothing
  decode_name (suc fuel) t at =
      if eqb (t.word2 at) refers.variable then parsed (variable (t.word3 at)) (at + 1)
      else if eqb (t.word2 at) refers.constant then parsed (number (decode_of (t.word3 at))) (at + 1)
      else if eqb (t.word2 at) refers.index then parsed (index (t.word3 at)) (at + 1)
      else if eqb (t.word2 at) refers.array && eqb (t.kind (at + 1)) delimiter.bracket then
      then_decode (decode_bracket fuel t delimiter.unbracket (at + 1)) (λ e next. parsed (element (t.place (at + 1)) (array_in t (t.word3 at)) e) next)
      else nothing

  -- an expression between the opening token at a position and a token of kind `close`
  pub decode_bracket : ℕ → Table → ℕ → ℕ → Decoded
  decode_bracket zero t close at = nothing
  decode_bracket (suc fuel) t close at =
      then_decode (decode_expression fuel t 1 (at + 1)) (λ e next. if eqb (t.kind next) close then parsed e (next + 1) else nothing)

-- an expression stands from a position up to the next
pub record ExprAt (t : Table) (e : Expr) (at next : ℕ) : Type 0 where
  pub enough : ℕ
  pub says : (fuel : ℕ) → enough ≤ fuel → decode_expression fuel t 1 at ≡ parsed e next

-- ---- assignments

-- the left side at a position
unfoldable pub target_in : Table → ℕ → Target
target_in t at = if eqb (t.kind at) kind.cell then to_field (t.word2 at) else to_variable (t.word2 at)

-- the position of the first `:=` of the assignment at a position
unfoldable pub first_clause : Table → ℕ → ℕ
first_clause t at = if eqb (t.kind (at + 1)) delimiter.dot then at + 3 else at + 1

-- the condition of the clause at a `:=`, and the clauses behind it; behind a clause without a condition there are none
abbrev pub GuardAt : Table → Option Expr → (ℕ → Type 0) → ℕ → Type 0
GuardAt t none rest at = t.word2 at ≡ 0
GuardAt t (some e) rest at = (next : ℕ) × (t.word2 at ≡ 0 → ⊥) × ExprAt t e (t.inner at) next × rest (t.past at)

-- clauses stand from a `:=` on
abbrev pub ClausesAt : Table → List Clause → ℕ → Type 0
ClausesAt t [] at = t.kind at ≡ delimiter.assign → ⊥
ClausesAt t (c ∷ cs) at =
    (next : ℕ) × (t.kind at ≡ delimiter.assign) × (c.place ≡ t.place at) × ExprAt t c.expr (at + 1) next
    × GuardAt t c.condition (λ i. ClausesAt t cs i) at

-- ---- choices and loops, by what stands in their parts

-- what stands behind an arm's statements: the part behind `else`, an arm at `elsif`, or nothing
pub record ElseAt (t : Table) (Part Arm : ℕ → Type 0) (None : Type 0) (at : ℕ) : Type 0 where
  pub at_else : t.kind at ≡ keyword.else → Part (at + 1)
  pub at_elsif : t.kind at ≡ keyword.elsif → Arm at
  pub at_end : (t.kind at ≡ keyword.else → ⊥) → (t.kind at ≡ keyword.elsif → ⊥) → None

-- an arm stands at its `if` or `elsif`
pub record ArmAt (t : Table) (c : Expr) (Part Rest : ℕ → Type 0) (at : ℕ) : Type 0 where
  pub then_at : ℕ
  pub condition : ExprAt t c (at + 1) then_at
  pub is_then : t.kind then_at ≡ keyword.then
  pub part : Part (then_at + 1)
  pub rest : Rest (t.inner at)

-- a loop stands at its `forall`, with so many loops open around it
pub record LoopAt (t : Table) (depth : ℕ) (r : Range) (Part : ℕ → Type 0) (at : ℕ) : Type 0 where
  pub shallow : depth < most_open
  pub few : span_of r.low r.high ≤ most_turns
  pub values : r ≡ range_in t (at + 1)
  pub part : Part (t.inner at)

-- ---- statements

-- the kind of an assignment's first token
unfoldable pub assigns : ℕ → Bool
assigns k = eqb k kind.name || eqb k kind.cell

unfoldable mutual
  -- a list of statements stands from a position on, with so many loops open
  pub Stands : Table → ℕ → Block → ℕ → Type 0
  Stands t depth empty at = begins (t.kind at) ≡ false
  Stands t depth (assign to cs rest) at =
      (assigns (t.kind at) ≡ true) × (to ≡ target_in t at) × ClausesAt t cs (first_clause t at) × Stands t depth rest (t.past at)
  Stands t depth (select c d e rest) at =
      (t.kind at ≡ keyword.if)
      × ArmAt t c (λ i. Stands t depth d i) (λ i. ElseAt t (λ j. Stands t depth e j) (λ j. Elsif t depth e j) (e ≡ empty) i) at
      × Stands t depth rest (t.past at)
  Stands t depth (loop r d rest) at =
      (t.kind at ≡ keyword.forall) × LoopAt t depth r (λ i. Stands t (depth + 1) d i) at × Stands t depth rest (t.past at)
  Stands t depth (exit rest) at = (t.kind at ≡ keyword.exit) × Stands t depth rest (t.past at)
  Stands t depth (constant rest) at = (t.kind at ≡ keyword.const) × Stands t depth rest (t.past at)

  -- a choice that is alone stands at `elsif`
  pub Elsif : Table → ℕ → Block → ℕ → Type 0
  Elsif t depth empty at = ⊥
  Elsif t depth (assign to cs rest) at = ⊥
  Elsif t depth (select c d e rest) at =
      (rest ≡ empty)
      × ArmAt t c (λ i. Stands t depth d i) (λ i. ElseAt t (λ j. Stands t depth e j) (λ j. Elsif t depth e j) (e ≡ empty) i) at
  Elsif t depth (loop r d rest) at = ⊥
  Elsif t depth (exit rest) at = ⊥
  Elsif t depth (constant rest) at = ⊥

-- the arm of a `select`, with what stands behind it
abbrev pub Choice : Table → ℕ → Expr → Block → Block → ℕ → Type 0
Choice t depth c d e at = ArmAt t c (λ i. Stands t depth d i) (λ i. ElseAt t (λ j. Stands t depth e j) (λ j. Elsif t depth e j) (e ≡ empty) i) at

-- ---- a program

-- the table of a rule
abbrev pub rule_table : List ℕ → Rule → Table
rule_table words rule = table_of words rule.tokens rule.dims

-- the ranges of n fields, in the tokens from a position on
abbrev pub ranges_in : Table → ℕ → ℕ → List Range
ranges_in t base n = list_of (λ k. range_in t (base + k)) n

-- a program stands in a table
pub record Holds (words : List ℕ) (rule : Rule) (p : Program) : Type 0 where
  pub dims : p.dims ≡ rule.dims
  pub fields : p.fields ≡ ranges_in (rule_table words rule) rule.base rule.fields
  pub slots : p.slots ≡ rule.slots
  pub body : Stands (rule_table words rule) 0 p.body rule.body
