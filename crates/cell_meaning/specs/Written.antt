-- The relative indices that are written in a program, and their elements.
use Rattle.std.specs.Prelude.{List, [], ◌∷◌, ◌++◌, ℕ, suc, get_or}
use Rattle.std.proofs.Math.Option.{Option, none, some}
use Rattle.program.specs.Syntax.{Range, range, no_range, Index, fixed, moving, Expr, number, time, variable, index, field, element, unary, binary, Clause, Block, empty, assign, select, loop, exit, constant, Program}

-- ---- relative indices

-- a relative index as it is written: its elements, and the ranges of the loops that are open there, outermost first
abbrev pub Relative : Type 0
Relative = record { loops : List Range; elements : List Index }

-- the relative index with given elements; `cell` has none
abbrev pub relative_of : List Range → List Index → List Relative
relative_of loops [] = []
relative_of loops (i ∷ is) = record { loops = loops; elements = i ∷ is } ∷ []

unfoldable pub relatives_in_expr : List Range → Expr → List Relative
relatives_in_expr loops (number z) = []
relatives_in_expr loops time = []
relatives_in_expr loops (variable slot) = []
relatives_in_expr loops (index depth) = []
relatives_in_expr loops (field is f) = relative_of loops is
relatives_in_expr loops (element place zs e) = relatives_in_expr loops e
relatives_in_expr loops (unary op place e) = relatives_in_expr loops e
relatives_in_expr loops (binary op place d e) = relatives_in_expr loops d ++ relatives_in_expr loops e

unfoldable pub relatives_in_condition : List Range → Option Expr → List Relative
relatives_in_condition loops none = []
relatives_in_condition loops (some e) = relatives_in_expr loops e

unfoldable pub relatives_in_clauses : List Range → List Clause → List Relative
relatives_in_clauses loops [] = []
relatives_in_clauses loops (c ∷ cs) =
    relatives_in_expr loops c.expr ++ (relatives_in_condition loops c.condition ++ relatives_in_clauses loops cs)

-- every relative index of a list of statements, run or not, in the order of the source
unfoldable pub relatives_in_block : List Range → Block → List Relative
relatives_in_block loops empty = []
relatives_in_block loops (assign to cs rest) = relatives_in_clauses loops cs ++ relatives_in_block loops rest
relatives_in_block loops (select c d e rest) =
    relatives_in_expr loops c ++ (relatives_in_block loops d ++ (relatives_in_block loops e ++ relatives_in_block loops rest))
relatives_in_block loops (loop r d rest) = relatives_in_block (loops ++ (r ∷ [])) d ++ relatives_in_block loops rest
relatives_in_block loops (exit rest) = relatives_in_block loops rest
relatives_in_block loops (constant rest) = relatives_in_block loops rest

-- every relative index of a program
unfoldable pub relatives_in : Program → List Relative
relatives_in p = relatives_in_block [] p.body

-- ---- their elements

-- a written index: its place, its dimension from 0, and the values that it can take
abbrev pub Written : Type 0
Written = record { place : ℕ; dim : ℕ; values : Range }

-- the values of an element of a relative index. An index variable counts with its whole range
abbrev pub values_of : List Range → Index → Range
values_of loops (fixed place z) = range z z
values_of loops (moving place depth) = get_or loops depth no_range

abbrev pub place_of : Index → ℕ
place_of (fixed place z) = place
place_of (moving place depth) = place

-- the elements of one relative index, from dimension d on
unfoldable pub written_in_index : List Range → ℕ → List Index → List Written
written_in_index loops d [] = []
written_in_index loops d (i ∷ is) = record { place = place_of i; dim = d; values = values_of loops i } ∷ written_in_index loops (suc d) is

-- the elements of relative indices, in their order
unfoldable pub written_of : List Relative → List Written
written_of [] = []
written_of (r ∷ rs) = written_in_index r.loops 0 r.elements ++ written_of rs

-- every written index of a program, in the order of the source
unfoldable pub written_in : Program → List Written
written_in p = written_of (relatives_in p)
