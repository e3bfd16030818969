-- Worked examples of value lists, as one list with one claim.
use mathlib.Core.Path.{◌≡◌, refl}
use mathlib.Core.List.{List, [], ◌∷◌, ◌++◌}
use mathlib.Core.Option.{Option, some, none}
use Prim.Native.Nat.{ℕ, ◌*◌}
use Prim.Native.String.{String}
use lib.ListN.{length, replicate}
use lib.IntN.{ℤ, pos, negsuc}
use Rattle.value.proofs.Theorems.Truth.{failing}
use Rattle.token.specs.Bytes.{as_bytes}
use Rattle.program.specs.Syntax.{range}
use Rattle.list_meaning.specs.ListChecking.{Limits}
use Rattle.list_meaning.proofs.Theorems.Cases.{Case, checks, sets, writes, holds}

-- a grid of 2 by 4 cells with three fields, of ranges -9..9, 0..1 and 0..100, from time 3 to time 8
abbrev pub plane : Option ℕ → Limits
plane flag = record {
  sizes = 2 ∷ 4 ∷ [];
  fields = range (negsuc 8) (pos 9) ∷ range (pos 0) (pos 1) ∷ range (pos 0) (pos 100) ∷ [];
  flag = flag;
  first = 3;
  last = 8;
}

-- a text checked on that grid
abbrev pub judged : String → ℕ → ℕ → Case
judged text number line = checks (plane none) (as_bytes text) number line

-- where its second field is the flag
abbrev pub judged_once : String → ℕ → ℕ → Case
judged_once text number line = checks (plane (some 1)) (as_bytes text) number line

-- a line of four cells with one field, at time 3
abbrev pub row : String → List ℤ → List ℤ → Case
row text before after = sets (4 ∷ []) 1 (as_bytes text) 3 before after

-- four cells in a row, of which the last changes to values, where field f is the flag; the text of its values behind `=`
abbrev pub moves : ℕ → List ℤ → List ℤ → String → Case
moves f before after text =
    let line = as_bytes "7\n[0, 3] =" ++ as_bytes text ++ as_bytes "\n" in
    let three = replicate (3 * length after) (pos 1) in
    writes (1 ∷ 4 ∷ []) (length after) (some f) (three ++ before) (three ++ after) 7 (replicate (length line) 0) 0 (length line) line

unfoldable pub worked_examples : List Case
worked_examples =
    -- 1 to 3: the empty list, a block without cells, a block
    judged "" 0 0
    ∷ judged "3\n8\n" 0 0
    ∷ judged "3\n[0, 3] = 5, , 1\n" 0 0
    -- 4 to 8: 50. A blank line, CR LF, a last line without end, a cell before any time, a wrong index count before a place outside
    ∷ judged "3\n\n" 50 2
    ∷ judged "3\r\n" 50 2
    ∷ judged "3\n[0, 3] = 5" 50 2
    ∷ judged "[0, 3] = 5\n3\n" 50 1
    ∷ judged "3\n[9] = 5\n" 50 2
    -- 9 to 11: a literal over the limit, a stray underscore, two signs
    ∷ judged "3\n[0, 3] = 2147483648\n" 50 2
    ∷ judged "3\n[0, 3] = 1_\n" 50 2
    ∷ judged "3\n[0, 3] = --1\n" 50 2
    -- 12 to 15: 51, 52 and 53; the lowest number on a line
    ∷ judged "3\n[2, 3] = 5\n" 51 2
    ∷ judged "3\n[0, 3] = , , ,\n" 52 2
    ∷ judged "3\n[1, 3] = 5, 2\n" 53 2
    ∷ judged "3\n[0, 4] = 10, 2, , 1\n" 51 2
    -- 16 to 18: 54, 55 and 56
    ∷ judged "5\n5\n" 54 2
    ∷ judged "0_2\n" 55 1
    ∷ judged "3\n4\n9\n" 56 3
    -- 19: the block of a time, its lines in order; a missing value leaves its field
    ∷ row "1\n[0] = 7\n3\n[1] = 5\n[1]=-6\r [ 2 ] =\n4\n[3] = 8\n" (pos 0 ∷ pos 1 ∷ pos 2 ∷ pos 3 ∷ []) (pos 0 ∷ negsuc 5 ∷ pos 2 ∷ pos 3 ∷ [])
    -- 20: a missing value in the middle keeps its place
    ∷ sets (2 ∷ []) 3 (as_bytes "3\n[1] = 5, , 1\n") 3 (pos 1 ∷ pos 2 ∷ pos 3 ∷ pos 4 ∷ pos 5 ∷ pos 6 ∷ []) (pos 1 ∷ pos 2 ∷ pos 3 ∷ pos 5 ∷ pos 5 ∷ pos 1 ∷ [])
    -- 21 and 22: the writer; a longer room keeps its rest, a room too short stays
    ∷ writes (2 ∷ 2 ∷ []) 2 none (pos 1 ∷ pos 2 ∷ pos 3 ∷ pos 4 ∷ pos 5 ∷ pos 6 ∷ pos 7 ∷ pos 8 ∷ [])
    (pos 1 ∷ pos 2 ∷ pos 0 ∷ pos 4 ∷ pos 5 ∷ pos 6 ∷ pos 7 ∷ negsuc 11 ∷ []) 40 (replicate 35 1) 0 33
    (as_bytes "40\n[0, 1] = 0, 4\n[1, 1] = 7, -12\n" ++ 1 ∷ 1 ∷ [])
    ∷ writes (1 ∷ []) 1 none (pos 0 ∷ []) (pos 1 ∷ []) 7 (9 ∷ 9 ∷ []) 57 0 (9 ∷ 9 ∷ [])
    -- 23 to 27: 58, however 0 is spelled; a flag that is missing or 1, and any value where there is no flag
    ∷ judged_once "3\n[0, 3] = 5, 0, 1\n" 58 2
    ∷ judged_once "3\n[0, 3] = , -0\n" 58 2
    ∷ judged_once "3\n[0, 3] = 0, 1, 0\n[1, 0] = 5, 0_0\n" 58 3
    ∷ judged_once "3\n[0, 3] = 0, , 0\n[0, 2] = 0\n" 0 0
    ∷ judged "3\n[0, 3] = 5, 0, 1\n" 0 0
    -- 28 to 32: it is the last on its line; the lowest line goes first
    ∷ judged_once "3\n[0, 3] = 5, 0, 1 1\n" 50 2
    ∷ judged_once "3\n[0, 4] = 5, 0\n" 51 2
    ∷ judged_once "3\n[0, 3] = 5, 0, 1, 1\n" 52 2
    ∷ judged_once "3\n[0, 3] = 5, 0, 101\n" 53 2
    ∷ judged_once "3\n[0, 3] = , 0\n[0, 3] = , 2\n" 58 2
    -- 33 to 37: the writer leaves a flag that is 0 missing, in the middle, first, last and alone; a flag that is 1 and other zeros are written
    ∷ moves 1 (pos 4 ∷ pos 0 ∷ pos 1 ∷ []) (pos 5 ∷ pos 0 ∷ pos 1 ∷ []) " 5, , 1"
    ∷ moves 0 (pos 0 ∷ pos 4 ∷ []) (pos 0 ∷ pos 5 ∷ []) " , 5"
    ∷ moves 1 (pos 4 ∷ pos 0 ∷ []) (pos 5 ∷ pos 0 ∷ []) " 5, "
    ∷ moves 0 (pos 1 ∷ []) (pos 0 ∷ []) " "
    ∷ moves 1 (pos 4 ∷ pos 0 ∷ pos 1 ∷ []) (pos 0 ∷ pos 1 ∷ pos 0 ∷ []) " 0, 1, 0"
    ∷ []

-- none fails
pub all_hold : failing holds 1 worked_examples ≡ []
unfolding worked_examples failing holds
all_hold = refl
