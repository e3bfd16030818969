-- What a source means, as a tree. Places are those of bytes in the source.
-- A variable is known by its number, how many were declared before it, an index variable by its loop's depth, 0 for the outermost open loop.
use Rattle.std.specs.Prelude.{Bool, List, ℕ, ℤ, pos}
use Rattle.std.proofs.Math.Option.{Option}

-- the values from low to high
abbrev pub Range : Type 0
Range = record { low : ℤ; high : ℤ }

abbrev pub range : ℤ → ℤ → Range
range low high = record { low = low; high = high }

-- the range that has 0 alone
abbrev pub no_range : Range
no_range = range (pos 0) (pos 0)

-- an element of a relative index, with the place of its first token: a number, or the index variable of the loop at a depth
pub data Index : Type 0 where
  fixed : (place : ℕ) → ℤ → Index
  moving : (place depth : ℕ) → Index

pub data Expr : Type 0 where
  number : ℤ → Expr
  time : Expr
  variable : (slot : ℕ) → Expr
  index : (depth : ℕ) → Expr
  -- a field of the cell at a relative index; dimensions that are not written count as 0, so that `[]` is the own cell
  field : List Index → ℕ → Expr
  -- an array constant's element: the place of `[`, the array's values, the index
  element : (place : ℕ) → List ℤ → Expr → Expr
  -- an operator's kind of token, its place, and its operands
  unary : (op place : ℕ) → Expr → Expr
  binary : (op place : ℕ) → Expr → Expr → Expr

-- what is assigned: a field by its number, or a variable by its own
pub data Target : Type 0 where
  to_field : ℕ → Target
  to_variable : ℕ → Target

-- `:= e when c`, with the place of `:=`; without condition `:= e` alone, or `:= e otherwise`
abbrev pub Clause : Type 0
Clause = record { place : ℕ; expr : Expr; condition : Option Expr }

-- a list of statements: empty, or a first statement and those after it, which are the last part of each.
-- `elsif` is a `select` alone in the part after `else`; `loop` opens a loop one deeper; `constant` is a declaration, which does nothing
pub data Block : Type 0 where
  empty : Block
  assign : Target → List Clause → Block → Block
  select : Expr → Block → Block → Block → Block
  loop : Range → Block → Block → Block
  exit : Block → Block
  constant : Block → Block

-- an accepted source: the number of dimensions, the range of each field, how many slots its variables need, the statements, and
-- whether `time` stands in it outside comments
abbrev pub Program : Type 0
Program = record { dims : ℕ; fields : List Range; slots : ℕ; body : Block; timed : Bool }
