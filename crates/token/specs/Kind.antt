-- The kinds of tokens, and the levels of operators.
use Rattle.std.specs.Prelude.{◌||◌, ℕ, eqb, if◌then◌else◌}

-- ---- the numbers of the kinds of tokens. A token of one byte has its byte's number

-- a stop; tokens that are spelled in more than one way; the predefined names; and what is always refused
abbrev pub kind : record { stop : ℕ; name : ℕ; literal : ℕ; cell : ℕ; time : ℕ; refused : ℕ }
kind = record { stop = 0; name = 1; literal = 2; cell = 3; time = 4; refused = 18 }

abbrev pub keyword :
    record { const : ℕ; dimensions : ℕ; else : ℕ; elsif : ℕ; end : ℕ; exit : ℕ; for : ℕ; forall : ℕ; if : ℕ; of : ℕ; otherwise : ℕ; then : ℕ; when : ℕ }
keyword =
    record { const = 5; dimensions = 6; else = 7; elsif = 8; end = 9; exit = 10; for = 11; forall = 12; if = 13; of = 14; otherwise = 15; then = 16; when = 17 }

abbrev pub relation : record { equal : ℕ; unequal : ℕ; less : ℕ; greater : ℕ; at_most : ℕ; at_least : ℕ }
relation = record { equal = 61; unequal = 132; less = 60; greater = 62; at_most = 130; at_least = 131 }

abbrev pub operation : record { plus : ℕ; minus : ℕ; times : ℕ; slash : ℕ; percent : ℕ; and : ℕ; or : ℕ; not : ℕ }
operation = record { plus = 43; minus = 45; times = 42; slash = 47; percent = 37; and = 38; or = 124; not = 33 }

abbrev pub delimiter : record { assign : ℕ; dots : ℕ; bracket : ℕ; unbracket : ℕ; paren : ℕ; unparen : ℕ; comma : ℕ; colon : ℕ; dot : ℕ }
delimiter = record { assign = 128; dots = 129; bracket = 91; unbracket = 93; paren = 40; unparen = 41; comma = 44; colon = 58; dot = 46 }

-- the level of a binary operator, the loosest first: 1 `&` and `|`, 2 the relations, 3 `+` and `-`, 4 `*`, `/` and `%`; 0 for what is none
unfoldable pub level_of : ℕ → ℕ
level_of k =
    if eqb k operation.times || eqb k operation.slash || eqb k operation.percent then 4
    else if eqb k operation.plus || eqb k operation.minus then 3
    else if eqb k relation.equal || eqb k relation.unequal || eqb k relation.less || eqb k relation.greater || eqb k relation.at_most || eqb k relation.at_least then 2
    else if eqb k operation.and || eqb k operation.or then 1
    else 0
