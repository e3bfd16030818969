-- The leaf table: for each position of the word table, what operand stands there by itself, worked out once for a run. It has eight words a
-- position. Nothing that is promised of a run rests on what it leaves out: where its word 0 is `none`, the word table is read.
use Rattle.std.specs.Prelude.{◌≡◌, false, List, [], ◌∷◌, ℕ, suc, ◌+◌, ◌*◌, ◌<◌, ◌≤◌, length, get_or, ℤ}
use Rattle.value.specs.Worked.{decode_of, wrap_of}
use Rattle.token.specs.Kind.{level_of}
use Rattle.program.specs.Syntax.{Expr, number, variable, field}
use Rattle.cell_meaning.specs.Evaluation.{offset}
use Rattle.cell_meaning.specs.Promises.Stands.{index_in, next_index, indices_in, is_unary, parsed, decode_operand}
use Rattle.cell_meaning.specs.Links.{Table, table_of}

-- word k of the position p
abbrev pub leaf_word : List ℕ → ℕ → ℕ → ℕ
leaf_word leaves p k = get_or leaves (8 * p + k) 0

-- what stands at a position, by word 0: nothing that is noted, a number, a variable, a field of the own cell, or one of the cell at a relative
-- index without index variables
abbrev pub sort : record { none : ℕ; number : ℕ; variable : ℕ; own : ℕ; near : ℕ }
sort = record { none = 0; number = 1; variable = 2; own = 3; near = 4 }

-- the operand at a position, if there is one, is e, up to `next`
abbrev pub OperandIs : Table → ℕ → Expr → ℕ → Type 0
OperandIs t p e next = (fuel : ℕ) (e' : Expr) (next' : ℕ) → decode_operand fuel t p ≡ parsed e' next' → parsed e' next' ≡ parsed e next

-- the words w from k on are, for each size, the element's offset from coordinate 0, wrapped; the elements stand from a position on
abbrev pub OffsetsAre : Table → List ℤ → (ℕ → ℕ) → List ℕ → ℕ → ℕ → Type 0
OffsetsAre t vs w [] at k = Unit {0}
OffsetsAre t vs w (n ∷ ns) at k = (w k ≡ wrap_of 0 (offset vs (index_in t at)) n) × OffsetsAre t vs w ns (next_index t at) (suc k)

-- the words w of the position p, in a table of n tokens, by the sizes of the grid and the numbers of fields and of slots
pub record LeafAt (t : Table) (sizes : List ℕ) (n fields slots : ℕ) (w : ℕ → ℕ) (p : ℕ) : Type 0 where
  -- word 3: the level of the operator there
  pub level : w 3 ≡ level_of (t.kind p)
  -- word 1 of an operator: its kind
  pub operator : (w 3 ≡ 0 → ⊥) → w 1 ≡ t.kind p
  -- what is noted has no unary operator, and word 2 is the position past it
  pub bare : (w 0 ≡ sort.none → ⊥) → is_unary (t.kind p) ≡ false
  pub onward : (w 0 ≡ sort.none → ⊥) → (p < w 2) × (w 2 ≤ n)
  -- word 1: the number, the variable's number, or the field
  pub number : w 0 ≡ sort.number → OperandIs t p (number (decode_of (w 1))) (w 2)
  pub variable : w 0 ≡ sort.variable → (w 1 < slots) × OperandIs t p (variable (w 1)) (w 2)
  pub own : w 0 ≡ sort.own → (w 1 < fields) × OperandIs t p (field [] (w 1)) (w 2)
  -- words 4 and on: the offsets
  pub near : w 0 ≡ sort.near
      → (w 1 < fields) × OperandIs t p (field (indices_in t t.dims (p + 1)) (w 1)) (w 2) × ((vs : List ℤ) → OffsetsAre t vs w sizes (p + 1) 4)

-- ---- expressions of one or two operands

-- what is noted is a number, a variable or a field of the own cell
abbrev pub Simple : ℕ → Type 0
Simple s = (1 ≤ s) × (s ≤ 3)

-- the operand at a position is simple, and no operator stands behind it
abbrev pub Last : List ℕ → ℕ → Type 0
Last leaves p = Simple (leaf_word leaves p 0) × (leaf_word leaves (leaf_word leaves p 2) 3 ≡ 0)

-- word 7 of a position: 1 where the operand there is the last; 2 where it is simple, a relation or logic stands behind it, and the operand behind
-- that is the last
pub record ShapeAt (leaves : List ℕ) (p : ℕ) : Type 0 where
  pub alone : leaf_word leaves p 7 ≡ 1 → Last leaves p
  pub related : leaf_word leaves p 7 ≡ 2
      → Simple (leaf_word leaves p 0) × (1 ≤ leaf_word leaves (leaf_word leaves p 2) 3) × (leaf_word leaves (leaf_word leaves p 2) 3 ≤ 2) × Last leaves (leaf_word leaves p 2 + 1)

-- ---- the whole table

-- the leaf table of a word table of n tokens, the position past the last one included
pub record Leaves (leaves words sizes : List ℕ) (n fields slots : ℕ) : Type 0 where
  pub at : (p : ℕ) → p ≤ n → LeafAt (table_of words n (length sizes)) sizes n fields slots (leaf_word leaves p) p
  pub shape : (p : ℕ) → p ≤ n → ShapeAt leaves p
