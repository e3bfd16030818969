-- What the laws of proofs/Walking.antt are stated with.
use Rattle.std.specs.Prelude.{ℕ, suc, ◌+◌, ◌*◌, Bool, true, false, not, ◌&&◌, ◌||◌, List, [], ◌∷◌, length, set, ℤ, eqb, ltb, if◌then◌else◌}
use Rattle.std.proofs.Math.Option.{Option, some, none}
use Rattle.automaton.specs.Shape as shape
use Rattle.automaton.specs.Shape.{product}
use Rattle.token.specs.Bytes.{byte_kind, kind_of}
use Rattle.token.specs.Kind.{delimiter}
use Rattle.program.specs.Syntax.{Range}
use Rattle.list_meaning.specs.Text.{Piece, literal, sign}
use Rattle.list_meaning.specs.Lines.{Indexed}
use Rattle.list_meaning.specs.ListChecking.{inside, value_fits, all_fit, is_zero}
use Rattle.list_meaning.specs.Setting.{store_values}

-- ---- lines

-- how many bytes stand before the first line end
unfoldable pub to_end : List ℕ → ℕ
to_end [] = 0
to_end (b ∷ bs) = if eqb (kind_of b) byte_kind.line_end then 0 else suc (to_end bs)

-- ---- the index, element by element

-- what a walk over an index gives: it cannot be read, or has the wrong count; or whether a coordinate is outside, the cell's number, and the
-- tokens behind `]`
pub data Placed : Type 0 where
  wrong : Placed
  placed : (outside : Bool) (cell : ℕ) (rest : List Piece) → Placed

-- the walk, over the sizes of the dimensions left, behind coordinates of which some are outside, or which make up a number
unfoldable pub place_from : List ℕ → Bool → ℕ → List Piece → Placed
place_from [] out c ps = wrong
place_from (n ∷ ns) out c [] = wrong
place_from (n ∷ ns) out c (sign k ∷ ps) = wrong
place_from (n ∷ ns) out c (literal i ∷ []) = wrong
place_from (n ∷ ns) out c (literal i ∷ literal m ∷ ps) = wrong
place_from (n ∷ []) out c (literal i ∷ sign k ∷ ps) = if eqb k delimiter.unbracket then placed (out || not (ltb i n)) (c * n + i) ps else wrong
place_from (n ∷ m ∷ ns) out c (literal i ∷ sign k ∷ ps) = if eqb k delimiter.comma then place_from (m ∷ ns) (out || not (ltb i n)) (c * n + i) ps else wrong

-- what an index is to a grid: wrong, or whether it is outside, its cell's number behind others, and the tokens behind it
abbrev pub placed_by : List ℕ → Bool → ℕ → Option Indexed → Placed
placed_by ns out c none = wrong
placed_by ns out c (some i) =
    if eqb (length i.index) (length ns) then placed (out || not (inside ns i.index)) (c * product ns + shape.cell_number ns i.index) i.rest else wrong

-- ---- the values, one by one

-- whether a value is in the range of the first field left, if there is one
abbrev pub head_fits : List Range → Option ℤ → Bool
head_fits [] v = true
head_fits (r ∷ rs) v = value_fits r v

abbrev pub none_left : List Range → Bool
none_left [] = true
none_left (r ∷ rs) = false

abbrev pub rest_of : List Range → List Range
rest_of [] = []
rest_of (r ∷ rs) = rs

-- value number k does not give the flag f 0
abbrev pub keeps_flag : ℕ → ℕ → Option ℤ → Bool
keeps_flag f k v = not (eqb k f && is_zero v)

-- nor do any from number k on
abbrev pub all_keep : ℕ → ℕ → List (Option ℤ) → Bool
all_keep f k [] = true
all_keep f k (v ∷ vs) = keeps_flag f k v && all_keep f (suc k) vs

-- the number of values that are still to be read, for the fields left, from value number k on: `over` says whether there were more than fields, `fit`
-- whether all fit so far, `kept` whether none gave the flag f 0
abbrev pub values_number : List Range → ℕ → ℕ → Bool → Bool → Bool → Option (List (Option ℤ)) → ℕ
values_number rs f k over fit kept none = 50
values_number rs f k over fit kept (some vs) =
    if over || ltb (length rs) (length vs) then 52
    else if not (fit && all_fit rs vs) then 53
    else if not (kept && all_keep f k vs) then 58
    else 0

-- values stored one by one: one value more
abbrev pub store_one : List ℤ → ℕ → Option ℤ → List ℤ
store_one g e none = g
store_one g e (some z) = set g e z

abbrev pub stored_by : List ℤ → ℕ → Option (List (Option ℤ)) → List ℤ
stored_by g e none = g
stored_by g e (some vs) = store_values g e vs
