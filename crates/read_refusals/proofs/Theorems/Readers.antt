-- Every reader of the grammar refuses only by a number that refuses, at a place within the source.
use Prim.Native.Nat.{ℕ, zero, suc, ◌≤◌}
use mathlib.Core.Path.{◌≡◌, refl, sym}
use mathlib.Core.Bool.{Bool, true, false, not}
use mathlib.Core.List.{List}
use lib.Dec.{eqb, leb}
use lib.IntN.{ℤ}
use lib.ListN.{length}
use Rattle.std.specs.Prelude.{if◌then◌else◌}
use Rattle.value.proofs.Theorems.Laws.{never}
use Rattle.value.specs.Worked.{span_of}
use Rattle.names.specs.declared.Entry.{Entry}
use Rattle.program.specs.Syntax.{Expr, Range, range, Block, Clause}
use Rattle.grammar.specs.Reader.{Reader, return, turns, refuse, refuse_last, expect_or, forbid, opening, fresh, use_name}
use Rattle.grammar.specs.Constants.{named_constant, read_constant, read_signed, range_rule, read_range, value_turn, read_values, read_size, array_head, array_constant, simple_constant, constant_value, read_declaration, constants_turn, read_constants}
use Rattle.grammar.specs.Expressions.{Cell, plain, field_name, dot_field, field_number, read_field, put_field, named_index, fixed_index, read_index, index_turn, read_indices, read_neighbour, read_own, read_bracket, read_element, array_use, name_use, read_primary, read_operand, LeftPart, left_part, read_right, operator_turn, climb, levels, operand_in, read_expression}
use Rattle.grammar.specs.Statements.{old_variable, new_variable, named_target, field_target, read_target, when_clause, clause_end, clause_turn, read_assignment, Arm, arm_end, arm_turn, read_if, read_forall, read_exit, Parts, statement_turn, read_block}
use Rattle.grammar.specs.Source.{field_turn, read_group, group_turn, read_dims, read_fields, read_cell}
use Rattle.read_refusals.proofs.Theorems.Numbers.{is_refusal}
use Rattle.read_refusals.proofs.Theorems.Steps.{Fine, bind, returned, choose, found, looked, looked_behind, placed, stated, entered, advanced, named, released, wrote, ranged, refused, refused_last, noting, repeated}

ruleset Steps = (bind, returned, choose, found, looked, looked_behind, placed, stated, entered, advanced, named, released, wrote, ranged, refused, refused_last, noting, repeated)

-- ---- tokens and names

module _ (source : List ℕ) (short : length source ≤ 65535) where
  expects : (k n : ℕ) → is_refusal n ≡ true → Fine source (expect_or k n)
  unfolding expect_or
  expects k n e = search Steps

  forbids : (k n : ℕ) → is_refusal n ≡ true → Fine source (forbid k n)
  unfolding forbid
  forbids k n e = search Steps

  opens : (free : Bool) → Fine source (opening free)
  unfolding opening
  opens free = search Steps

  -- refused by `full` if that is not 0
  limited : {A : Type 0} (full : ℕ) {m : Reader A} → (eqb full 0 ≡ false → is_refusal full ≡ true) → Fine source m → Fine source (if not (eqb full 0) then refuse full else m)
  limited {A} full {m} e x = by (eqb full 0) e
    where
      by : (b : Bool) → (b ≡ false → is_refusal full ≡ true) → Fine source (if not b then refuse full else m)
      by true e = x
      by false e = refused source short full (e refl)

  names_read : (fields : Bool) (full : ℕ) → (eqb full 0 ≡ false → is_refusal full ≡ true) → Fine source (fresh fields full)
  unfolding fresh
  names_read fields full e = search (limited, Steps) depth 12

  name_read : Fine source (fresh false 0)
  name_read = names_read false 0 (λ e. never (sym e))

  field_name_read : (n a : ℕ) → is_refusal a ≡ true → Fine source (fresh true (if leb 8 n then a else 0))
  field_name_read n a r = by (leb 8 n)
    where
      by : (b : Bool) → Fine source (fresh true (if b then a else 0))
      by true = names_read true a (λ _. r)
      by false = names_read true 0 (λ e. never (sym e))

  uses : (slot : ℕ) → Fine source (use_name slot)
  unfolding use_name
  uses slot = search Steps depth 10

ruleset Tokens = (Steps, expects, forbids, opens, name_read, field_name_read, uses)

-- ---- constants and ranges

module _ (source : List ℕ) (short : length source ≤ 65535) where
  constant : Fine source read_constant
  unfolding read_constant named_constant
  constant = search Tokens depth 10

  signed : Fine source read_signed
  unfolding read_signed
  signed = search (constant, Tokens) depth 10

  -- a range that breaks a rule is refused by its number
  range_tried : (most : ℕ) (low high : ℤ) → Fine source (if eqb (range_rule most low high) 0 then return (range low high) else refuse_last (range_rule most low high))
  unfolding range_rule
  range_tried most low high = by (eqb (span_of low high) 0) (leb (span_of low high) most)
    where
      by : (a b : Bool) → Fine source (if eqb (if a then 41 else if b then 0 else 42) 0 then return (range low high) else refuse_last (if a then 41 else if b then 0 else 42))
      by true b = refused_last source short 41 refl
      by false true = returned (range low high)
      by false false = refused_last source short 42 refl

  range_read : (most : ℕ) → Fine source (read_range most)
  unfolding read_range
  range_read most = search (signed, range_tried, Tokens) depth 10

ruleset Ranges = (constant, signed, range_read, Tokens)

module _ (source : List ℕ) (short : length source ≤ 65535) where
  values : (size first : ℕ) → Fine source (read_values size first)
  unfolding read_values value_turn
  values size first = search Ranges depth 12

  head : (free : Bool) → Fine source (array_head free)
  unfolding array_head read_size
  head free = search Ranges depth 12

  array : (free : Bool) (i : ℕ) → Fine source (array_constant free i)
  unfolding array_constant
  array free i = search (values, head, Ranges) depth 12

  simple : (i : ℕ) → Fine source (simple_constant i)
  unfolding simple_constant
  simple i = search Ranges depth 10

  value : (free : Bool) (i : ℕ) → Fine source (constant_value free i)
  unfolding constant_value
  value free i = search (array, simple, Ranges)

  declaration : (free : Bool) → Fine source (read_declaration free)
  unfolding read_declaration
  declaration free = search (value, Ranges) depth 12

  pub constants : Fine source read_constants
  unfolding read_constants constants_turn
  constants = search (declaration, Ranges) depth 10

-- ---- the cell declaration

module _ (source : List ℕ) (short : length source ≤ 65535) where
  group : (base : ℕ) (got : List Range) (k : ℕ) → Fine source (read_group base got k)
  unfolding read_group field_turn
  group base got k = search Ranges depth 12

  groups : (base : ℕ) (got : List Range) → Fine source (group_turn base got)
  unfolding group_turn
  groups base got = search (group, Ranges) depth 10

  fields : (base : ℕ) (dims : ℤ) → Fine source (read_fields base dims)
  unfolding read_fields
  fields base dims = search (groups, Ranges) depth 10

  pub cell : Fine source read_cell
  unfolding read_cell read_dims
  cell = search (fields, Ranges) depth 12

-- ---- fields and relative indices

module _ (source : List ℕ) (short : length source ≤ 65535) where
  plain_read : Fine source plain
  unfolding plain
  plain_read = search Tokens

  dotted : Fine source dot_field
  unfolding dot_field field_name
  dotted = search Tokens depth 10

  field_read : (cell : Cell) {unnamed : Reader Unit} → Fine source unnamed → Fine source (read_field cell unnamed)
  unfolding read_field field_number
  field_read cell x = search (dotted, Tokens) depth 12

  noted_field : (i f : ℕ) → Fine source (put_field i f)
  unfolding put_field
  noted_field i f = search Tokens depth 10

  index : Fine source read_index
  unfolding read_index named_index fixed_index
  index = search Ranges depth 14

  indices : (cell : Cell) → Fine source (read_indices cell)
  unfolding read_indices index_turn
  indices cell = search (index, Ranges) depth 14

  neighbour : (cell : Cell) (free : Bool) → Fine source (read_neighbour cell free)
  unfolding read_neighbour
  neighbour cell free = search (indices, field_read, noted_field, Tokens) depth 12

  own : (cell : Cell) → Fine source (read_own cell)
  unfolding read_own
  own cell = search (field_read, plain_read, noted_field, Tokens) depth 12

-- ---- expressions

module _ (source : List ℕ) (short : length source ≤ 65535) where
  bracket : (free : Bool) {inner : Reader Expr} (close : ℕ) → Fine source inner → Fine source (read_bracket free inner close)
  unfolding read_bracket
  bracket free close x = search Tokens depth 10

  element : (free : Bool) {inner : Reader Expr} (e : Entry) → Fine source inner → Fine source (read_element free inner e)
  unfolding read_element
  element free e x = search (bracket, Tokens) depth 12

  name : (free : Bool) {inner : Reader Expr} (slot : ℕ) → Fine source inner → Fine source (name_use free inner slot)
  unfolding name_use array_use
  name free slot x = search (element, plain_read, Tokens) depth 14

  primary : (cell : Cell) (free : Bool) {inner : Reader Expr} → Fine source inner → Fine source (read_primary cell free inner)
  unfolding read_primary
  primary cell free x = search (bracket, neighbour, own, name, plain_read, Tokens) depth 14

  operand : (cell : Cell) (free : Bool) {inner : Reader Expr} → Fine source inner → Fine source (read_operand cell free inner)
  unfolding read_operand
  operand cell free x = search (primary, Tokens) depth 10

  operator : (level : ℕ) {tighter : ℕ → Reader Expr} (l : LeftPart) → ((n : ℕ) → Fine source (tighter n)) → Fine source (operator_turn level tighter l)
  unfolding operator_turn read_right
  operator level l x = search Tokens depth 14

  climbed : (more : ℕ) {operand : Reader Expr} (level : ℕ) → Fine source operand → Fine source (climb more operand level)
  unfolding climb
  climbed zero level x = x
  climbed (suc more) level x = bind x (λ e. repeated source short turns (left_part e 0) (λ l. operator level l (λ n. climbed more n x)))

  operands : (cell : Cell) (free : ℕ) → Fine source (operand_in cell free)
  unfolding operand_in
  operands cell zero = operand cell false (refused source short _ refl)
  operands cell (suc free) = operand cell true (climbed levels 1 (operands cell free))

  expression : (cell : Cell) (free : ℕ) → Fine source (read_expression cell free)
  expression cell free = climbed levels 1 (operands cell free)

-- ---- statements

module _ (source : List ℕ) (short : length source ≤ 65535) where
  target : (cell : Cell) → Fine source (read_target cell)
  unfolding read_target old_variable new_variable named_target field_target
  target cell = search (dotted, Tokens) depth 14

  clauses : {expr : Reader Expr} (got : List Clause) → Fine source expr → Fine source (clause_turn expr got)
  unfolding clause_turn clause_end when_clause
  clauses got x = search Tokens depth 20 fits 2000

  assignment : (cell : Cell) {expr : Reader Expr} → Fine source expr → Fine source (read_assignment cell expr)
  unfolding read_assignment
  assignment cell x = search (target, clauses, Tokens) depth 14

  arms : {expr : Reader Expr} {block : Reader Block} (got : List Arm) → Fine source expr → Fine source block → Fine source (arm_turn expr block got)
  unfolding arm_turn arm_end
  arms got x y = search Tokens depth 20 fits 2000

  choice : (free : Bool) {expr : Reader Expr} {block : Reader Block} → Fine source expr → Fine source block → Fine source (read_if free expr block)
  unfolding read_if
  choice free x y = search (arms, Tokens) depth 12

  loop : (free : Bool) (depth : ℕ) {block : Reader Block} → Fine source block → Fine source (read_forall free depth block)
  unfolding read_forall
  loop free depth x = search Ranges depth 24 fits 2000

  exits : Fine source read_exit
  unfolding read_exit
  exits = search Tokens depth 10

  statement : (cell : Cell) (parts : Parts) (loops : ℕ) (before : Block → Block) → Fine source parts.expr → Fine source parts.inner_expr → ((l : ℕ) → Fine source (parts.inner l)) → Fine source (statement_turn cell parts loops before)
  unfolding statement_turn
  statement cell parts loops before x y z = search (assignment, declaration, choice, loop, exits, Tokens) depth 14

  pub block : (cell : Cell) (free loops : ℕ) → Fine source (read_block cell free loops)
  unfolding read_block
  block cell zero loops =
      repeated source short turns _ (λ before. statement cell _ loops before (expression source short cell 0) (refused source short _ refl) (λ l. refused source short _ refl))
  block cell (suc free) loops =
      repeated source short turns _
      (λ before. statement cell _ loops before (expression source short cell (suc free)) (expression source short cell free) (λ l. block cell free l))
