-- What a line of a value list says: a time, a cell with its values, or nothing that can be read.
--
--     time       →  literal
--     cell       →  [ literal { , literal } ] = value { , value }
--     value      →  literal | + literal | - literal | (missing)
use Rattle.std.specs.Prelude.{Bool, ◌||◌, List, [], ◌∷◌, map, ℕ, eqb, ℤ, pos, neg_ℤ, if◌then◌else◌}
use Rattle.std.proofs.Math.Option.{Option, some, none}
use Rattle.token.specs.Kind.{relation, operation, delimiter}
use Rattle.list_meaning.specs.Text.{Line, lines, Piece, literal, sign, pieces}

-- a line that cannot be read, a time, or a cell's index and its values, of which some are missing
pub data Said : Type 0 where
  bad : Said
  time : ℕ → Said
  cell : List ℕ → List (Option ℤ) → Said

-- ---- the index

-- an index, and the tokens behind its `]`
abbrev pub Indexed : Type 0
Indexed = record { index : List ℕ; rest : List Piece }

abbrev pub indexed : List ℕ → List Piece → Indexed
indexed index rest = record { index = index; rest = rest }

abbrev pub with_index : ℕ → Option Indexed → Option Indexed
with_index n none = none
with_index n (some i) = some (indexed (n ∷ i.index) i.rest)

-- the index behind `[`: literals with commas between them, and `]`
unfoldable pub indices : List Piece → Option Indexed
indices [] = none
indices (sign k ∷ ps) = none
indices (literal n ∷ []) = none
indices (literal n ∷ literal m ∷ ps) = none
indices (literal n ∷ sign k ∷ ps) =
    if eqb k delimiter.unbracket then some (indexed (n ∷ []) ps)
    else if eqb k delimiter.comma then with_index n (indices ps)
    else none

-- ---- the values

abbrev pub before_values : Option ℤ → Option (List (Option ℤ)) → Option (List (Option ℤ))
before_values v none = none
before_values v (some vs) = some (v ∷ vs)

-- whether a byte is `+` or `-`
abbrev pub plus_or_minus : ℕ → Bool
plus_or_minus k = eqb k operation.plus || eqb k operation.minus

-- a literal's value under a sign
abbrev pub signed : ℕ → ℕ → ℤ
signed k n = if eqb k operation.minus then neg_ℤ (pos n) else pos n

unfoldable mutual
  -- the values behind `=`, or behind a comma, with commas between them; a value may be missing, also at the end
  pub values : List Piece → Option (List (Option ℤ))
  values [] = some (none ∷ [])
  values (literal n ∷ ps) = behind (some (pos n)) ps
  values (sign k ∷ ps) = if eqb k delimiter.comma then before_values none (values ps) else under_sign k ps

  -- a literal behind a sign, and what follows
  pub under_sign : ℕ → List Piece → Option (List (Option ℤ))
  under_sign k [] = none
  under_sign k (sign c ∷ ps) = none
  under_sign k (literal n ∷ ps) = if plus_or_minus k then behind (some (signed k n)) ps else none

  -- behind a value: the end of the line, or a comma and further values
  pub behind : Option ℤ → List Piece → Option (List (Option ℤ))
  behind v [] = some (v ∷ [])
  behind v (literal n ∷ ps) = none
  behind v (sign k ∷ ps) = if eqb k delimiter.comma then before_values v (values ps) else none

-- ---- the line

-- the values behind the index
unfoldable pub assigned : List Piece → Option (List (Option ℤ))
assigned [] = none
assigned (literal n ∷ ps) = none
assigned (sign k ∷ ps) = if eqb k relation.equal then values ps else none

abbrev pub cell_with : List ℕ → Option (List (Option ℤ)) → Said
cell_with index none = bad
cell_with index (some vs) = cell index vs

abbrev pub cell_of_index : Option Indexed → Said
cell_of_index none = bad
cell_of_index (some i) = cell_with i.index (assigned i.rest)

-- what tokens say; a line without tokens is blank, and bad
unfoldable pub said_by : List Piece → Said
said_by [] = bad
said_by (literal n ∷ []) = time n
said_by (literal n ∷ p ∷ ps) = bad
said_by (sign k ∷ ps) = if eqb k delimiter.bracket then cell_of_index (indices ps) else bad

abbrev pub said_in : Option (List Piece) → Said
said_in none = bad
said_in (some ps) = said_by ps

-- what a line says; a line without an end is bad
unfoldable pub say : Line → Said
say l = if l.ended then said_in (pieces 0 l.bytes) else bad

-- what the lines of a text say
unfoldable pub said : List ℕ → List Said
said text = map say (lines text)
