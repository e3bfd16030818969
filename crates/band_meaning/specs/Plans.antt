-- Plans as they are lent, two entries a band: the plan check and the planner. Bands and the planner's plan are those of `Bands`, of the automaton.
use Rattle.std.specs.Prelude.{Bool, false, not, List, [], ◌∷◌, ◌++◌, ℕ, ◌*◌, length, get_or, drop, eqb, if◌then◌else◌}
use Rattle.std.proofs.Math.Option.{Option, none, some}
use Rattle.automaton.specs.Shape.{Bound}
use Rattle.automaton.specs.Bands.{Band, accepts, plannable, plan_of}
use Rattle.program.specs.Syntax.{Program}
use Rattle.cell_meaning.specs.Written.{written_in}
use Rattle.program.specs.Refusal.{Refusal, refusal}
use Rattle.run_meaning.specs.Admission.{too_far}
use Rattle.band_meaning.specs.Edge.{edge}

-- how many rows a grid of these sizes has
abbrev pub rows : List ℕ → ℕ
rows sizes = get_or sizes 0 0

-- ---- entries

abbrev pub band : ℕ → ℕ → Band
band first last = record { first = first; last = last }

-- one band more, before the others
abbrev pub before_others : Band → Option (List Band) → Option (List Band)
before_others b none = none
before_others b (some bs) = some (b ∷ bs)

-- the bands of a plan as it is lent: first and last row of each. An odd number of entries is no plan
unfoldable pub bands_in : List ℕ → Option (List Band)
bands_in [] = some []
bands_in (first ∷ []) = none
bands_in (first ∷ last ∷ entries) = before_others (band first last) (bands_in entries)

-- the entries of bands
unfoldable pub entries_of : List Band → List ℕ
entries_of [] = []
entries_of (b ∷ bs) = b.first ∷ b.last ∷ entries_of bs

-- ---- the plan check

abbrev pub accepts_some : ℕ → Bound → ℕ → Option (List Band) → Bool
accepts_some n border held none = false
accepts_some n border held (some bs) = accepts n border held bs

-- a plan for n rows is accepted, with these border rows, where so many rows can be held
unfoldable pub plan_right : ℕ → Bound → ℕ → List ℕ → Bool
plan_right n border held plan = accepts_some n border held (bands_in plan)

-- a plan for a program on a grid of these sizes is accepted
unfoldable pub plan_fits : Program → List ℕ → ℕ → List ℕ → Bool
plan_fits p sizes held plan = plan_right (rows sizes) (edge p) held plan

-- the reply of the plan check, where the sizes are right: 23, then 60 for a plan that is not accepted, else 0
unfoldable pub check_plan : Program → List ℕ → ℕ → List ℕ → Refusal
check_plan p sizes held plan =
    let far = too_far sizes (written_in p) in
    if not (eqb far.number 0) then far
    else if plan_fits p sizes held plan then refusal 0 0
    else refusal 60 0

-- ---- the planner

-- the reply's number and place, the number of bands, and the room that is left
abbrev pub Planned : Type 0
Planned = record { number : ℕ; place : ℕ; bands : ℕ; room : List ℕ }

-- a refusal: the room stays
abbrev pub unplanned : ℕ → ℕ → List ℕ → Planned
unplanned number place room = record { number = number; place = place; bands = 0; room = room }

-- a plan at the front of a room, which keeps its rest
unfoldable pub put_plan : List Band → List ℕ → Planned
put_plan bs room = record { number = 0; place = 0; bands = length bs; room = entries_of bs ++ drop (length (entries_of bs)) room }

-- what the planner gives, where the sizes are right: 21 for a room that does not have two entries a row, 23, then 59 where there is no plan; else
-- the accepted plan whose bands, in turn, are as long as can be
unfoldable pub planned : Program → List ℕ → ℕ → List ℕ → Planned
planned p sizes held room =
    let far = too_far sizes (written_in p) in
    if not (eqb (length room) (2 * rows sizes)) then unplanned 21 0 room
    else if not (eqb far.number 0) then unplanned far.number far.place room
    else if not (plannable (edge p) held) then unplanned 59 0 room
    else put_plan (plan_of (rows sizes) (edge p) held) room
