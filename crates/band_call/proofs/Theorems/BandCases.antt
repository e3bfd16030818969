-- Worked cases of a band's call, as one list with one claim.
use mathlib.Core.Path.{◌≡◌, refl}
use mathlib.Core.Bool.{Bool, true, not, ◌&&◌}
use mathlib.Core.List.{List, [], ◌∷◌}
use Prim.Native.Nat.{ℕ}
use lib.Dec.{eqb}
use lib.IntN.{ℤ, pos, negsuc}
use Rattle.value.proofs.Theorems.Truth.{failing}
use Rattle.automaton.specs.Grid.{differ}
use Rattle.automaton.specs.Bands
use Rattle.token.specs.Bytes.{as_bytes}
use Rattle.run_calls.proofs.Theorems.Cases
use Rattle.band_meaning.specs.Edge
use Rattle.band_meaning.specs.OnSizes
use Rattle.band_meaning.specs.Plans.{band}
use Rattle.band_call.specs.BandCall
use Rattle.band_call.specs.BandCall.{band_source}

data Case : Type 0 where
  -- a source, sizes, a band, how many rows can be held, its old rows with borders, a room and a time; number, place, cell and count of the report, and the room afterwards
  calls : (source sizes : List ℕ) (first last held : ℕ) (rows room : List ℤ) (time : ℤ) (number place cell count : ℕ) (left : List ℤ) → Case

-- a case holds. What it computes with is opened by `Cases` of the services, and by the names here
unfoldable holds : Case → Bool
unfolding Cases.holds Bands.part_step Bands.band_outcome Bands.band_step Edge.edge_of Edge.edge OnSizes.on_sizes
    BandCall.band_right BandCall.band_rooms BandCall.band_refusal BandCall.band_stepped BandCall.band_report BandCall.band_source
holds (calls source sizes first last held rows room time number place cell count left) =
    let r = band_source true source (record { sizes = sizes; band = band first last; held = held; rows = rows; room = room; time = time }) in
    eqb r.number number && eqb r.place place && eqb r.cell cell && eqb r.count count && not (differ r.grid left)

-- the numbers, from n on, of the cases that do not hold
-- numbers
abbrev of : List ℕ → List ℤ
of [] = []
of (n ∷ ns) = pos n ∷ of ns

-- five cells that take the value before them
abbrev line : (first last held : ℕ) (rows room : List ℕ) (number count : ℕ) (left : List ℕ) → Case
line first last held rows room number count left =
    calls (as_bytes "1 dimensions of 0..9 cell := [-1]") (5 ∷ []) first last held (of rows) (of room) (pos 0) number 0 0 count (of left)

-- five cells that are counted up
abbrev up : (first last : ℕ) (rows : List ℕ) (time : ℤ) (number place cell count : ℕ) (left : List ℕ) → Case
up first last rows time number place cell count left =
    calls (as_bytes "1 dimensions of 0..3 cell := cell + 1") (5 ∷ []) first last 2 (of rows) (of (9 ∷ 9 ∷ [])) time number place cell count (of left)

unfoldable cases : List Case
cases =
    -- the grid 5 6 7 8 9 in two bands: the row before the first is the last
    line 0 1 4 (9 ∷ 5 ∷ 6 ∷ []) (0 ∷ 0 ∷ []) 0 2 (9 ∷ 5 ∷ [])
    ∷ line 2 4 4 (6 ∷ 7 ∷ 8 ∷ 9 ∷ []) (0 ∷ 0 ∷ 0 ∷ []) 0 3 (6 ∷ 7 ∷ 8 ∷ [])
    -- reversed, past the last row, too many rows
    ∷ line 2 1 4 [] (7 ∷ []) 60 0 (7 ∷ [])
    ∷ line 4 5 4 (8 ∷ 9 ∷ 5 ∷ []) (7 ∷ 7 ∷ []) 60 0 (7 ∷ 7 ∷ [])
    ∷ line 2 4 3 (6 ∷ 7 ∷ 8 ∷ 9 ∷ []) (7 ∷ 7 ∷ 7 ∷ []) 60 0 (7 ∷ 7 ∷ 7 ∷ [])
    -- a row too few, and a room too long
    ∷ line 2 4 4 (7 ∷ 8 ∷ 9 ∷ []) (7 ∷ 7 ∷ 7 ∷ []) 21 0 (7 ∷ 7 ∷ 7 ∷ [])
    ∷ line 2 4 4 (6 ∷ 7 ∷ 8 ∷ 9 ∷ []) (7 ∷ 7 ∷ 7 ∷ 7 ∷ []) 21 0 (7 ∷ 7 ∷ 7 ∷ 7 ∷ [])
    -- a fault: the cell's number in the whole grid, zeros in the room, and the count up to it
    ∷ up 1 2 (3 ∷ 1 ∷ []) (pos 0) 33 26 1 1 (0 ∷ 0 ∷ [])
    ∷ up 3 4 (2 ∷ 3 ∷ []) (pos 0) 33 26 4 2 (0 ∷ 0 ∷ [])
    ∷ up 3 4 (2 ∷ 1 ∷ []) (pos 2147483646) 0 0 0 2 (3 ∷ 2 ∷ [])
    -- the time, as of a run of one step; and a row that is out of range
    ∷ up 3 4 (2 ∷ 7 ∷ []) (pos 2147483647) 22 0 0 0 (9 ∷ 9 ∷ [])
    ∷ up 3 4 (2 ∷ 7 ∷ []) (negsuc 0) 22 0 0 0 (9 ∷ 9 ∷ [])
    ∷ up 3 4 (2 ∷ 7 ∷ []) (pos 0) 24 1 0 0 (9 ∷ 9 ∷ [])
    -- two rows, and two border rows before: rows wrap and repeat
    ∷ calls (as_bytes "1 dimensions of 0..9 cell := [-2]") (2 ∷ []) 0 0 3 (of (5 ∷ 6 ∷ 5 ∷ [])) (of (0 ∷ [])) (pos 0) 0 0 0 1 (of (5 ∷ []))
    -- in two dimensions
    ∷ calls (as_bytes "2 dimensions of 0..9 cell := [1,0]") (3 ∷ 2 ∷ []) 2 2 2 (of (7 ∷ 8 ∷ 1 ∷ 2 ∷ [])) (of (0 ∷ 0 ∷ [])) (pos 0) 0 0 0 2 (of (1 ∷ 2 ∷ []))
    -- the order of the replies: the source, 20, 60, 21, 22, 23, 24
    ∷ calls (as_bytes "1 dimensions of 0..9 cell := [6] + x") (5 ∷ 5 ∷ []) 1 0 0 [] [] (negsuc 0) 8 35 0 0 []
    ∷ calls (as_bytes "1 dimensions of 0..9 cell := [6]") (5 ∷ 5 ∷ []) 1 0 0 [] [] (negsuc 0) 20 0 0 0 []
    ∷ calls (as_bytes "1 dimensions of 0..9 cell := [6]") (5 ∷ []) 0 0 6 [] [] (negsuc 0) 60 0 0 0 []
    ∷ calls (as_bytes "1 dimensions of 0..9 cell := [6]") (5 ∷ []) 0 0 7 [] [] (negsuc 0) 21 0 0 0 []
    ∷ calls (as_bytes "1 dimensions of 0..9 cell := [6]") (5 ∷ []) 0 0 7 (of (5 ∷ 6 ∷ 7 ∷ 8 ∷ 9 ∷ 5 ∷ 10 ∷ [])) (of (4 ∷ [])) (negsuc 0) 22 0 0 0 (of (4 ∷ []))
    ∷ calls (as_bytes "1 dimensions of 0..9 cell := [6]") (5 ∷ []) 0 0 7 (of (5 ∷ 6 ∷ 7 ∷ 8 ∷ 9 ∷ 5 ∷ 10 ∷ [])) (of (4 ∷ [])) (pos 0) 23 30 0 0 (of (4 ∷ []))
    ∷ calls (as_bytes "1 dimensions of 0..9 cell := [5]") (5 ∷ []) 0 0 6 (of (5 ∷ 6 ∷ 7 ∷ 8 ∷ 9 ∷ 10 ∷ [])) (of (4 ∷ [])) (pos 0) 24 5 0 0 (of (4 ∷ []))
    ∷ []

-- none fails
cases_hold : failing holds 1 cases ≡ []
unfolding cases failing holds
cases_hold = refl
