-- The marked examples M1 to M13 of document 01, and examples of the requests: each one list with one claim.
use mathlib.Core.Path.{◌≡◌, refl}
use mathlib.Core.List.{List, [], ◌∷◌, ◌++◌}
use Prim.Native.Nat.{ℕ}
use Prim.Native.String.{String}
use lib.IntN.{ℤ, pos, negsuc}
use Rattle.value.proofs.Theorems.Truth.{failing}
use Rattle.token.specs.Bytes.{as_bytes}
use Rattle.run_meaning.specs.Report.{Manner, Report, quiet, pausing, resuming, refused}
use Rattle.run_calls.proofs.Theorems.Cases.{Lent, Case, checks, runs, leaves, counts, text, ask, ask_with, report, holds}

-- a source of one dimension with an unnamed field of a range
abbrev pub line : String → String → Lent
line range rest = text (as_bytes "1 dimensions of " ++ as_bytes range ++ as_bytes " " ++ as_bytes rest)

-- one cell whose value after a step is that of an expression
abbrev pub gives : String → ℤ → Case
gives e z =
    runs (text (as_bytes "1 dimensions of -99..99 cell := " ++ as_bytes e)) (ask (1 ∷ []) (pos 0 ∷ []) (pos 0) (pos 1))
    (report 0 0 0 1 1 (z ∷ [])) 1

unfoldable pub marked_examples : List Case
marked_examples =
    -- M1, M2, M3, M4
    checks (text (as_bytes "")) 7 0
    ∷ checks (line "0..1" "") 0 0
    ∷ checks (line "0..1" "x := y") 8 26
    ∷ checks (line "0..1" "cell := 1 < 2 < 3") 13 35
    -- M5
    ∷ runs (line "0..1" "cell := [-1]") (ask (5 ∷ []) (pos 1 ∷ pos 0 ∷ pos 0 ∷ pos 0 ∷ pos 0 ∷ []) (pos 0) (pos 2))
    (report 0 0 0 2 10 (pos 0 ∷ pos 0 ∷ pos 1 ∷ pos 0 ∷ pos 0 ∷ [])) 8
    -- M6
    ∷ runs (line "0..9" "cell := time") (ask (2 ∷ []) (pos 0 ∷ pos 0 ∷ []) (pos 0) (pos 3)) (report 0 0 0 3 6 (pos 2 ∷ pos 2 ∷ [])) 6
    -- M7. The full run's count is 5 too: 3 cells, and then the 2 up to the faulting one
    ∷ runs (line "0..3" "cell := cell + 1") (ask (3 ∷ []) (pos 0 ∷ pos 2 ∷ pos 1 ∷ []) (pos 0) (pos 5))
    (report 33 26 1 1 5 (pos 1 ∷ pos 3 ∷ pos 2 ∷ [])) 5
    -- M8, M9, M10, M11
    ∷ gives "1 | 0 & 0" (pos 0)
    ∷ gives "7 / -2" (negsuc 2)
    ∷ gives "-7 % 2" (negsuc 0)
    ∷ gives "7 % -2" (pos 1)
    -- M12: the own cell, and 23
    ∷ runs (line "0..1" "cell := [5]") (ask (5 ∷ []) (pos 0 ∷ pos 1 ∷ pos 1 ∷ pos 0 ∷ pos 1 ∷ []) (pos 0) (pos 1))
    (report 0 0 0 1 5 (pos 0 ∷ pos 1 ∷ pos 1 ∷ pos 0 ∷ pos 1 ∷ [])) 5
    ∷ runs (line "0..1" "cell := [6]") (ask (5 ∷ []) (pos 0 ∷ pos 1 ∷ pos 1 ∷ pos 0 ∷ pos 1 ∷ []) (pos 0) (pos 1))
    (report 23 30 0 0 0 (pos 0 ∷ pos 1 ∷ pos 1 ∷ pos 0 ∷ pos 1 ∷ [])) 0
    -- M13
    ∷ checks (text (as_bytes "4 dimensions of 0..1")) 40 0
    ∷ []

-- none fails
pub all_hold : failing holds 1 marked_examples ≡ []
unfolding marked_examples failing holds
all_hold = refl

-- ---- the reach as a list of places (request 4/13)

-- a source of two dimensions with an unnamed field 0..9
abbrev pub plane : String → Lent
plane rest = text (as_bytes "2 dimensions of 0..9 " ++ as_bytes rest)

-- a grid of nine cells, of which the first is 1
abbrev pub nine : List ℤ
nine = pos 1 ∷ pos 0 ∷ pos 0 ∷ pos 0 ∷ pos 0 ∷ pos 0 ∷ pos 0 ∷ pos 0 ∷ pos 0 ∷ []

-- the first cell goes to 0 in the first step, and nothing changes after it: the second step opens as many cells as there are places
abbrev pub opens : String → List ℕ → ℕ → Case
opens rest sizes count = runs (plane rest) (ask sizes nine (pos 0) (pos 2)) (report 0 0 0 2 18 (pos 0 ∷ pos 0 ∷ pos 0 ∷ pos 0 ∷ pos 0 ∷ pos 0 ∷ pos 0 ∷ pos 0 ∷ pos 0 ∷ [])) count

unfoldable pub place_examples : List Case
place_examples =
    -- no index: the own cell alone
    opens "cell := 0" (3 ∷ 3 ∷ []) 10
    -- two places and the own cell; the box has four
    ∷ opens "cell := 0 * [0,1] * [1,0]" (3 ∷ 3 ∷ []) 12
    -- the same place twice
    ∷ opens "cell := 0 * [0,1] * [0,1]" (3 ∷ 3 ∷ []) 11
    -- one variable in both dimensions: a diagonal
    ∷ opens "forall i : -1..1 cell := 0 * [i,i] end" (3 ∷ 3 ∷ []) 12
    -- two variables: all nine
    ∷ opens "forall i : -1..1 forall j : -1..1 cell := 0 * [i,j] end end" (3 ∷ 3 ∷ []) 18
    -- a variable that does not stand in the index adds nothing
    ∷ opens "forall i : -1..1 forall j : 0..1 cell := 0 * [0,j] end end" (3 ∷ 3 ∷ []) 11
    -- run or not
    ∷ opens "if 0 then cell := [2,2] end cell := 0" (3 ∷ 3 ∷ []) 11
    -- different before wrapping, and one cell after it
    ∷ opens "cell := 0 * [0,1] * [0,-2]" (3 ∷ 3 ∷ []) 11
    ∷ []

pub places_hold : failing holds 1 place_examples ≡ []
unfolding place_examples failing holds
places_hold = refl

-- ---- runs with a value list (request 1/13)

-- M5's rule on its five cells, 2 steps from time 0
abbrev pub shifts : String → List ℤ → ℕ → ℕ → Case
shifts values after count full =
    runs (line "0..1" "cell := [-1]") (ask_with (as_bytes values) (5 ∷ []) (pos 1 ∷ pos 0 ∷ pos 0 ∷ pos 0 ∷ pos 0 ∷ []) (pos 0) (pos 2)) (report 0 0 0 2 full after) count

unfoldable pub list_examples : List Case
list_examples =
    -- a block before the second step: what it changed opens two cells more
    shifts "1\n[3] = 1\n" (pos 0 ∷ pos 0 ∷ pos 1 ∷ pos 0 ∷ pos 1 ∷ []) 10 10
    -- a cell that is set twice and has its old value again did not change
    ∷ shifts "1\n[3] = 1\n[3] = 0\n" (pos 0 ∷ pos 0 ∷ pos 1 ∷ pos 0 ∷ pos 0 ∷ []) 8 10
    -- what the first step changed, the block changes back: both are looked at
    ∷ shifts "1\n[0] = 1\n[1] = 0\n" (pos 0 ∷ pos 1 ∷ pos 0 ∷ pos 0 ∷ pos 0 ∷ []) 8 10
    -- the lines of a block are set in order
    ∷ shifts "0\n[0] = 0\n1\n[4] = 0\n[4] = 1\n" (pos 1 ∷ pos 0 ∷ pos 0 ∷ pos 0 ∷ pos 0 ∷ []) 7 10
    -- a block behind the last step
    ∷ shifts "2\n[0] = 1\n[2] =\n" (pos 1 ∷ pos 0 ∷ pos 1 ∷ pos 0 ∷ pos 0 ∷ []) 8 10
    -- a run of 0 steps sets the block of its time
    ∷ runs (line "0..1" "cell := [-1]") (ask_with (as_bytes "7\n[1] = 1\n") (2 ∷ []) (pos 0 ∷ pos 0 ∷ []) (pos 7) (pos 0)) (report 0 0 0 0 0 (pos 0 ∷ pos 1 ∷ [])) 0
    -- a fault leaves the grid with that step's block set
    ∷ runs (line "0..3" "cell := cell + 1") (ask_with (as_bytes "1\n[0] = 0\n") (3 ∷ []) (pos 0 ∷ pos 2 ∷ pos 1 ∷ []) (pos 0) (pos 5))
    (report 33 26 1 1 5 (pos 0 ∷ pos 3 ∷ pos 2 ∷ [])) 5
    -- a list that is refused, and 24 before it
    ∷ runs (line "0..1" "") (ask_with (as_bytes "1\n3\n") (1 ∷ []) (pos 0 ∷ []) (pos 0) (pos 2)) (refused 56 0 2 (pos 0 ∷ [])) 0
    ∷ runs (line "0..1" "") (ask_with (as_bytes "1\n3\n") (1 ∷ []) (pos 2 ∷ []) (pos 0) (pos 2)) (refused 24 0 0 (pos 2 ∷ [])) 0
    ∷ []

pub lists_hold : failing holds 1 list_examples ≡ []
unfolding list_examples failing holds
lists_hold = refl

-- ---- rules that move a pixel once (request 6/13)

-- a rule that copies the pixel before it, in the profile; with `rest` behind its statement
abbrev pub moving : String → Lent
moving rest = text (as_bytes "1 dimensions of c of 0..9 moved of 0..1 end if cell.moved = 0 then cell.c := [-1].c cell.moved := 1 end" ++ as_bytes rest)

-- its run on three pixels, the second one moved before, 2 steps from time 0
abbrev pub moves : String → String → Report → ℕ → Case
moves rest values r count =
    runs (moving rest) (ask_with (as_bytes values) (3 ∷ []) (pos 1 ∷ pos 0 ∷ pos 2 ∷ pos 1 ∷ pos 3 ∷ pos 0 ∷ []) (pos 0) (pos 2)) r count

unfoldable pub move_examples : List Case
move_examples =
    -- each pixel moves once, and the second step changes nothing
    moves "" "" (report 0 0 0 2 6 (pos 3 ∷ pos 1 ∷ pos 2 ∷ pos 1 ∷ pos 2 ∷ pos 1 ∷ [])) 6
    -- a block may set the flag, and other fields
    ∷ moves "" "0\n[2] = 9, 1\n" (report 0 0 0 2 6 (pos 9 ∷ pos 1 ∷ pos 2 ∷ pos 1 ∷ pos 9 ∷ pos 1 ∷ [])) 5
    -- but not clear it, however 0 is spelled
    ∷ moves "" "1\n[1] = 4\n[1] = , -00\n" (refused 58 0 3 (pos 1 ∷ pos 0 ∷ pos 2 ∷ pos 1 ∷ pos 3 ∷ pos 0 ∷ [])) 0
    -- 58 is last on its line
    ∷ moves "" "1\n[1] = 10, 0\n" (refused 53 0 2 (pos 1 ∷ pos 0 ∷ pos 2 ∷ pos 1 ∷ pos 3 ∷ pos 0 ∷ [])) 0
    -- outside the profile the same list passes
    ∷ moves " x := 0" "1\n[1] = , 0\n" (report 0 0 0 2 6 (pos 3 ∷ pos 1 ∷ pos 3 ∷ pos 1 ∷ pos 2 ∷ pos 1 ∷ [])) 6
    ∷ []

pub moves_hold : failing holds 1 move_examples ≡ []
unfolding move_examples failing holds
moves_hold = refl

-- ---- runs that are paused and resumed (request 12/13)

-- zeros and ones as a grid
abbrev pub bits : List ℕ → List ℤ
bits [] = []
bits (n ∷ ns) = pos n ∷ bits ns

-- M5's rule on its five cells, so many steps from a time on
abbrev pub shifted : Manner → List ℕ → String → List ℕ → ℕ → ℕ → ℕ → List ℕ → List ℕ → Case
shifted manner marks values before start n count after left =
    leaves (line "0..1" "cell := [-1]") manner (ask_with (as_bytes values) (5 ∷ []) (bits before) (pos start) (pos n)) marks (report 0 0 0 n count (bits after)) left

unfoldable pub pause_examples : List Case
pause_examples =
    let first : List ℕ = 1 ∷ 0 ∷ 0 ∷ 0 ∷ 0 ∷ [] in
    let none : List ℕ = 0 ∷ 0 ∷ 0 ∷ 0 ∷ 0 ∷ [] in
    let all : List ℕ = 1 ∷ 1 ∷ 1 ∷ 1 ∷ 1 ∷ [] in
    -- after 0 steps all cells are open still
    shifted pausing none "" first 0 0 0 first all
    -- M5 in two calls
    ∷ shifted pausing none "" first 0 1 5 (0 ∷ 1 ∷ 0 ∷ 0 ∷ 0 ∷ []) (1 ∷ 1 ∷ 1 ∷ 0 ∷ 0 ∷ [])
    ∷ shifted (resuming (1 ∷ 1 ∷ 1 ∷ 0 ∷ 0 ∷ [])) (1 ∷ 1 ∷ 1 ∷ 0 ∷ 0 ∷ []) "" (0 ∷ 1 ∷ 0 ∷ 0 ∷ 0 ∷ []) 1 1 3 (0 ∷ 0 ∷ 1 ∷ 0 ∷ 0 ∷ []) (0 ∷ 1 ∷ 1 ∷ 1 ∷ 0 ∷ [])
    -- any mark that is not 0 opens its cell, and no other is evaluated
    ∷ shifted (resuming (0 ∷ 7 ∷ 0 ∷ 0 ∷ 0 ∷ [])) (0 ∷ 7 ∷ 0 ∷ 0 ∷ 0 ∷ []) "" first 0 1 1 (1 ∷ 1 ∷ 0 ∷ 0 ∷ 0 ∷ []) (0 ∷ 1 ∷ 1 ∷ 0 ∷ 0 ∷ [])
    ∷ shifted (resuming none) none "" first 0 2 0 first none
    -- a block at the time of the pause, in the earlier call and in the later one
    ∷ shifted pausing none "1\n[3] = 1\n" first 0 1 5 (0 ∷ 1 ∷ 0 ∷ 1 ∷ 0 ∷ []) all
    ∷ shifted (resuming all) all "" (0 ∷ 1 ∷ 0 ∷ 1 ∷ 0 ∷ []) 1 1 5 (0 ∷ 0 ∷ 1 ∷ 0 ∷ 1 ∷ []) all
    ∷ shifted (resuming (1 ∷ 1 ∷ 1 ∷ 0 ∷ 0 ∷ [])) (1 ∷ 1 ∷ 1 ∷ 0 ∷ 0 ∷ []) "1\n[3] = 1\n" (0 ∷ 1 ∷ 0 ∷ 0 ∷ 0 ∷ []) 1 1 5 (0 ∷ 0 ∷ 1 ∷ 0 ∷ 1 ∷ []) all
    -- 0 steps resumed: marks become 0 or 1, and the block opens
    ∷ shifted (resuming (0 ∷ 0 ∷ 3 ∷ 0 ∷ 0 ∷ [])) (0 ∷ 0 ∷ 3 ∷ 0 ∷ 0 ∷ []) "4\n[0] = 1\n" (0 ∷ 0 ∷ 1 ∷ 0 ∷ 0 ∷ []) 4 0 0 (1 ∷ 0 ∷ 1 ∷ 0 ∷ 0 ∷ []) (1 ∷ 1 ∷ 1 ∷ 0 ∷ 0 ∷ [])
    -- changed by the step, and changed back by the block
    ∷ shifted pausing none "1\n[0] = 1\n[1] = 0\n" first 0 1 5 first (1 ∷ 1 ∷ 1 ∷ 0 ∷ 0 ∷ [])
    -- a quiet run leaves no mark
    ∷ shifted quiet all "" first 0 1 5 (0 ∷ 1 ∷ 0 ∷ 0 ∷ 0 ∷ []) none
    -- after a fault none stands
    ∷ leaves (line "0..3" "cell := cell + 1") pausing (ask (3 ∷ []) (pos 0 ∷ pos 2 ∷ pos 1 ∷ []) (pos 0) (pos 5)) (1 ∷ 1 ∷ 1 ∷ []) (report 33 26 1 1 5 (pos 1 ∷ pos 3 ∷ pos 2 ∷ [])) (0 ∷ 0 ∷ 0 ∷ [])
    -- with `time` all cells are open, whatever is lent
    ∷ leaves (line "0..9" "cell := time") (resuming (0 ∷ 0 ∷ [])) (ask (2 ∷ []) (pos 0 ∷ pos 0 ∷ []) (pos 1) (pos 2)) (0 ∷ 0 ∷ []) (report 0 0 0 2 4 (pos 2 ∷ pos 2 ∷ [])) (1 ∷ 1 ∷ [])
    -- a refusal leaves the marks as they were
    ∷ leaves (line "0..1" "") pausing (ask (2 ∷ []) (pos 0 ∷ pos 2 ∷ []) (pos 0) (pos 1)) (7 ∷ 0 ∷ []) (refused 24 1 0 (pos 0 ∷ pos 2 ∷ [])) (7 ∷ 0 ∷ [])
    ∷ []

pub pauses_hold : failing holds 1 pause_examples ≡ []
unfolding pause_examples failing holds
pauses_hold = refl

-- ---- runs that keep row counts (request 11/13)

-- M5's rule on its five rows of one cell: the zeros of a field
abbrev pub zeros : ℕ → String → ℕ → List ℕ → ℕ → ℕ → List ℕ → List ℕ → Case
zeros field values n lent done count after left =
    counts (line "0..1" "cell := [-1]") quiet (ask_with (as_bytes values) (5 ∷ []) (bits (1 ∷ 0 ∷ 0 ∷ 0 ∷ 0 ∷ [])) (pos 0) (pos n)) field lent (report 0 0 0 done count (bits after)) left

-- the same refused
abbrev pub not_counted : ℕ → String → List ℕ → List ℕ → ℕ → ℕ → ℕ → Case
not_counted field values grid lent number place line_number =
    counts (line "0..1" "cell := [-1]") quiet (ask_with (as_bytes values) (5 ∷ []) (bits grid) (pos 0) (pos 2)) field lent (refused number place line_number (bits grid)) lent

unfoldable pub count_examples : List Case
count_examples =
    let first : List ℕ = 1 ∷ 0 ∷ 0 ∷ 0 ∷ 0 ∷ [] in
    let lent : List ℕ = 9 ∷ 8 ∷ 7 ∷ 6 ∷ 5 ∷ [] in
    -- filled when the run is admitted, and moved by its steps
    zeros 0 "" 0 lent 0 0 first (0 ∷ 1 ∷ 1 ∷ 1 ∷ 1 ∷ [])
    ∷ zeros 0 "" 2 lent 2 8 (0 ∷ 0 ∷ 1 ∷ 0 ∷ 0 ∷ []) (1 ∷ 1 ∷ 0 ∷ 1 ∷ 1 ∷ [])
    -- no such field; not one a row, before the list is looked at; 24 before it; the list behind it
    ∷ not_counted 1 "" first lent 61 0 0
    ∷ not_counted 0 "\n" first (9 ∷ 8 ∷ 7 ∷ 6 ∷ []) 61 0 0
    ∷ not_counted 0 "" (1 ∷ 0 ∷ 2 ∷ 0 ∷ 0 ∷ []) (9 ∷ []) 24 2 0
    ∷ not_counted 0 "9\n" first lent 56 0 1
    -- a faulting step leaves the counts of the grid with its block set
    ∷ counts (line "0..3" "cell := cell + 1") quiet (ask (3 ∷ []) (pos 0 ∷ pos 2 ∷ pos 1 ∷ []) (pos 0) (pos 5)) 0 (7 ∷ 7 ∷ 7 ∷ []) (report 33 26 1 1 5 (pos 1 ∷ pos 3 ∷ pos 2 ∷ [])) (0 ∷ 0 ∷ 0 ∷ [])
    ∷ counts (line "0..3" "cell := cell + 1") quiet (ask_with (as_bytes "1\n[0] = 0\n") (3 ∷ []) (pos 0 ∷ pos 2 ∷ pos 1 ∷ []) (pos 0) (pos 5)) 0 (7 ∷ 7 ∷ 7 ∷ []) (report 33 26 1 1 5 (pos 0 ∷ pos 3 ∷ pos 2 ∷ [])) (1 ∷ 0 ∷ 0 ∷ [])
    -- a resumed run fills them anew from its grid
    ∷ counts (line "0..1" "cell := [-1]") (resuming (0 ∷ 0 ∷ 0 ∷ 0 ∷ 0 ∷ [])) (ask (5 ∷ []) (bits first) (pos 0) (pos 2)) 0 lent (report 0 0 0 2 0 (bits first)) (0 ∷ 1 ∷ 1 ∷ 1 ∷ 1 ∷ [])
    ∷ []

pub counts_hold : failing holds 1 count_examples ≡ []
unfolding count_examples failing holds
counts_hold = refl
