-- What every tree that is read satisfies: a clause without a condition is the last.
use mathlib.Core.Path.{◌≡◌}
use mathlib.Core.List.{List, [], ◌∷◌}
use mathlib.Core.Option.{Option, none, some}
use Rattle.program.specs.Syntax.{Expr, Clause, Block, empty, assign, select, loop, exit, constant}

abbrev pub OnlyLast : Option Expr → List Clause → Type 0
OnlyLast none cs = cs ≡ []
OnlyLast (some e) cs = Unit {0}

abbrev pub ProperClauses : List Clause → Type 0
ProperClauses [] = Unit {0}
ProperClauses (c ∷ cs) = OnlyLast c.condition cs × ProperClauses cs

abbrev pub Proper : Block → Type 0
Proper empty = Unit {0}
Proper (assign to cs rest) = ProperClauses cs × Proper rest
Proper (select c d e rest) = Proper d × Proper e × Proper rest
Proper (loop r d rest) = Proper d × Proper rest
Proper (exit rest) = Proper rest
Proper (constant rest) = Proper rest
