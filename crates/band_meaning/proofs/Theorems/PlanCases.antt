-- Worked cases of plans: the plan check, the planner and the border rows, as one list with one claim.
use mathlib.Core.Path.{◌≡◌, refl}
use mathlib.Core.Bool.{Bool, true, ◌&&◌}
use mathlib.Core.List.{List, [], ◌∷◌, ◌++◌}
use Prim.Native.Nat.{ℕ}
use Prim.Native.String.{String}
use lib.Dec.{eqb}
use Rattle.value.proofs.Theorems.Truth.{failing}
use Rattle.automaton.specs.Bands
use Rattle.token.specs.Bytes.{as_bytes, same}
use Rattle.run_calls.proofs.Theorems.Cases
use Rattle.band_meaning.specs.Edge
use Rattle.band_meaning.specs.OnSizes
use Rattle.band_meaning.specs.Plans
use Rattle.band_meaning.specs.PlanCalls
use Rattle.band_meaning.specs.BorderCall
use Rattle.band_meaning.specs.PlanCalls.{check_plan_source, planned_source}
use Rattle.band_meaning.specs.BorderCall.{borders_source}

data Case : Type 0 where
  -- a source, sizes, how many rows can be held and a plan; number and place of the reply
  checks : (source sizes : List ℕ) (held : ℕ) (plan : List ℕ) (number place : ℕ) → Case
  -- a source, sizes, how many rows can be held and a room; number and place of the reply, the number of bands, and the room afterwards
  plans : (source sizes : List ℕ) (held : ℕ) (room : List ℕ) (number place bands : ℕ) (left : List ℕ) → Case
  -- a source and sizes; number and place of the reply, and the border rows before and behind a band
  tells : (source sizes : List ℕ) (number place before behind : ℕ) → Case

-- a case holds. What it computes with is opened by `Cases` of the services, and by the names here
unfoldable holds : Case → Bool
unfolding Cases.holds Bands.runs_on Bands.accepts Bands.plannable Bands.longest Bands.plan_of Edge.edge_of Edge.edge OnSizes.on_sizes
    Plans.bands_in Plans.entries_of Plans.plan_right Plans.plan_fits Plans.check_plan Plans.put_plan Plans.planned PlanCalls.check_plan_source
    PlanCalls.planned_source BorderCall.borders BorderCall.borders_source
holds (checks source sizes held plan number place) =
    let r = check_plan_source true source sizes held plan in
    eqb r.number number && eqb r.place place
holds (plans source sizes held room number place bands left) =
    let r = planned_source true source sizes held room in
    eqb r.number number && eqb r.place place && eqb r.bands bands && same r.room left
holds (tells source sizes number place before behind) =
    let r = borders_source true source sizes in
    eqb r.number number && eqb r.place place && eqb r.before before && eqb r.behind behind

-- the numbers, from n on, of the cases that do not hold
-- a source of one dimension, and one of two
abbrev line : String → List ℕ
line rest = as_bytes "1 dimensions of 0..9 " ++ as_bytes rest

abbrev plane : String → List ℕ
plane rest = as_bytes "2 dimensions of 0..9 " ++ as_bytes rest

-- five rows with one border row before: a plan where so many rows can be held, in a room of ten entries
abbrev five : ℕ → ℕ → ℕ → List ℕ → Case
five held number bands left = plans (line "cell := [-1]") (5 ∷ []) held (9 ∷ 9 ∷ 9 ∷ 9 ∷ 9 ∷ 9 ∷ 9 ∷ 9 ∷ 9 ∷ 9 ∷ []) number 0 bands left

-- three rows with three border rows before and three behind
abbrev three : ℕ → ℕ → ℕ → List ℕ → Case
three held number bands left = plans (line "cell := [-3] + [3]") (3 ∷ []) held (9 ∷ 9 ∷ 9 ∷ 9 ∷ 9 ∷ 9 ∷ []) number 0 bands left

-- a plan for five rows with one border row before, where three rows can be held
abbrev plan : List ℕ → ℕ → Case
plan entries number = checks (line "cell := [-1]") (5 ∷ []) 3 entries number 0

unfoldable cases : List Case
cases =
    -- the planner
    five 3 0 3 (0 ∷ 1 ∷ 2 ∷ 3 ∷ 4 ∷ 4 ∷ 9 ∷ 9 ∷ 9 ∷ 9 ∷ [])
    ∷ five 2 0 5 (0 ∷ 0 ∷ 1 ∷ 1 ∷ 2 ∷ 2 ∷ 3 ∷ 3 ∷ 4 ∷ 4 ∷ [])
    ∷ five 1 59 0 (9 ∷ 9 ∷ 9 ∷ 9 ∷ 9 ∷ 9 ∷ 9 ∷ 9 ∷ 9 ∷ 9 ∷ [])
    ∷ five 0 59 0 (9 ∷ 9 ∷ 9 ∷ 9 ∷ 9 ∷ 9 ∷ 9 ∷ 9 ∷ 9 ∷ 9 ∷ [])
    ∷ five 5 0 2 (0 ∷ 3 ∷ 4 ∷ 4 ∷ 9 ∷ 9 ∷ 9 ∷ 9 ∷ 9 ∷ 9 ∷ [])
    ∷ five 6 0 1 (0 ∷ 4 ∷ 9 ∷ 9 ∷ 9 ∷ 9 ∷ 9 ∷ 9 ∷ 9 ∷ 9 ∷ [])
    ∷ five 4294967295 0 1 (0 ∷ 4 ∷ 9 ∷ 9 ∷ 9 ∷ 9 ∷ 9 ∷ 9 ∷ 9 ∷ 9 ∷ [])
    -- border rows on both sides
    ∷ plans (line "cell := [-1] + [1]") (10 ∷ []) 5 (9 ∷ 9 ∷ 9 ∷ 9 ∷ 9 ∷ 9 ∷ 9 ∷ 9 ∷ 9 ∷ 9 ∷ 9 ∷ 9 ∷ 9 ∷ 9 ∷ 9 ∷ 9 ∷ 9 ∷ 9 ∷ 9 ∷ 9 ∷ []) 0 0 4
    (0 ∷ 2 ∷ 3 ∷ 5 ∷ 6 ∷ 8 ∷ 9 ∷ 9 ∷ 9 ∷ 9 ∷ 9 ∷ 9 ∷ 9 ∷ 9 ∷ 9 ∷ 9 ∷ 9 ∷ 9 ∷ 9 ∷ 9 ∷ [])
    -- more border rows than the grid has
    ∷ three 7 0 3 (0 ∷ 0 ∷ 1 ∷ 1 ∷ 2 ∷ 2 ∷ [])
    ∷ three 6 59 0 (9 ∷ 9 ∷ 9 ∷ 9 ∷ 9 ∷ 9 ∷ [])
    ∷ three 9 0 1 (0 ∷ 2 ∷ 9 ∷ 9 ∷ 9 ∷ 9 ∷ [])
    -- in two dimensions the first one counts
    ∷ plans (plane "cell := [0,2] + [1,0]") (2 ∷ 3 ∷ []) 2 (9 ∷ 9 ∷ 9 ∷ 9 ∷ []) 0 0 2 (0 ∷ 0 ∷ 1 ∷ 1 ∷ [])
    -- more than 256 places: the box
    ∷ plans (plane "forall i : -2..1 forall j : -32..32 cell := [i,j] end end") (3 ∷ 32 ∷ []) 5 (9 ∷ 9 ∷ 9 ∷ 9 ∷ 9 ∷ 9 ∷ []) 0 0 2 (0 ∷ 1 ∷ 2 ∷ 2 ∷ 9 ∷ 9 ∷ [])
    -- the order of the replies: the source, 20, 21, 23, 59
    ∷ plans (line "cell := [6] + x") (5 ∷ 5 ∷ []) 0 [] 8 35 0 []
    ∷ plans (line "cell := [6]") (5 ∷ 5 ∷ []) 0 [] 20 0 0 []
    ∷ plans (line "cell := [6]") (0 ∷ []) 0 (9 ∷ []) 20 0 0 (9 ∷ [])
    ∷ plans (line "cell := [6]") (5 ∷ []) 0 (9 ∷ 9 ∷ 9 ∷ 9 ∷ 9 ∷ 9 ∷ 9 ∷ 9 ∷ []) 21 0 0 (9 ∷ 9 ∷ 9 ∷ 9 ∷ 9 ∷ 9 ∷ 9 ∷ 9 ∷ [])
    ∷ plans (line "cell := [6]") (1 ∷ []) 0 (9 ∷ 9 ∷ []) 23 30 0 (9 ∷ 9 ∷ [])
    ∷ plans (line "cell := [1]") (1 ∷ []) 0 (9 ∷ 9 ∷ []) 59 0 0 (9 ∷ 9 ∷ [])
    -- the plan check: accepted; a gap, an overlap, an early end; four rows with the border row; an empty band; an odd number of entries, and none
    ∷ plan (0 ∷ 0 ∷ 1 ∷ 2 ∷ 3 ∷ 4 ∷ []) 0
    ∷ plan (0 ∷ 0 ∷ 2 ∷ 3 ∷ 4 ∷ 4 ∷ []) 60
    ∷ plan (0 ∷ 1 ∷ 1 ∷ 2 ∷ 3 ∷ 4 ∷ []) 60
    ∷ plan (0 ∷ 1 ∷ 2 ∷ 3 ∷ []) 60
    ∷ plan (0 ∷ 2 ∷ 3 ∷ 4 ∷ []) 60
    ∷ plan (0 ∷ 1 ∷ 3 ∷ 2 ∷ 4 ∷ 4 ∷ []) 60
    ∷ plan (0 ∷ 1 ∷ 2 ∷ 3 ∷ 4 ∷ []) 60
    ∷ plan (0 ∷ 0 ∷ 1 ∷ 2 ∷ 3 ∷ 4 ∷ 5 ∷ []) 60
    ∷ plan [] 60
    -- past the last row; not from row 0
    ∷ plan (0 ∷ 1 ∷ 2 ∷ 3 ∷ 4 ∷ 5 ∷ []) 60
    ∷ plan (1 ∷ 2 ∷ 3 ∷ 4 ∷ []) 60
    -- the order of the replies: the source, 20, 23, 60
    ∷ checks (line "cell := [6] + x") (5 ∷ 5 ∷ []) 0 [] 8 35
    ∷ checks (line "cell := [6]") (5 ∷ 5 ∷ []) 0 [] 20 0
    ∷ checks (line "cell := [6]") (5 ∷ []) 0 [] 23 30
    ∷ checks (line "cell := [5]") (5 ∷ []) 5 (0 ∷ 4 ∷ []) 60 0
    ∷ checks (line "cell := [5]") (5 ∷ []) 10 (0 ∷ 4 ∷ []) 0 0
    -- the border rows: none, before, on both sides, as many as rows; in two dimensions the first one counts; the box
    ∷ tells (line "cell := cell") (5 ∷ []) 0 0 0 0
    ∷ tells (line "cell := [-1]") (5 ∷ []) 0 0 1 0
    ∷ tells (line "cell := [-1] + [2]") (5 ∷ []) 0 0 1 2
    ∷ tells (line "cell := [-3] + [3]") (3 ∷ []) 0 0 3 3
    ∷ tells (plane "cell := [0,2] + [1,0]") (2 ∷ 3 ∷ []) 0 0 0 1
    ∷ tells (plane "forall i : -2..1 forall j : -32..32 cell := [i,j] end end") (3 ∷ 32 ∷ []) 0 0 2 1
    -- the order of the replies: the source, 20, 23
    ∷ tells (line "cell := [6] + x") (5 ∷ 5 ∷ []) 8 35 0 0
    ∷ tells (line "cell := [6]") (5 ∷ 5 ∷ []) 20 0 0 0
    ∷ tells (line "cell := [-1] + [6]") (5 ∷ []) 23 37 0 0
    ∷ []

-- none fails
cases_hold : failing holds 1 cases ≡ []
unfolding cases failing holds
cases_hold = refl
