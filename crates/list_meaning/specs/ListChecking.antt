-- The check of a value list: replies 50 to 56 and 58, each with its line.
use Rattle.std.specs.Prelude.{Bool, true, false, not, ◌&&◌, List, [], ◌∷◌, ℕ, suc, ◌+◌, length, get_or, eqb, ltb, ℤ, pos, nat_abs, if◌then◌else◌}
use Rattle.std.proofs.Math.Option.{Option, some, none}
use Rattle.value.specs.Number.{eq_z}
use Rattle.program.specs.Syntax.{Range, Program}
use Rattle.cell_meaning.specs.Evaluation.{in_field}
use Rattle.run_meaning.specs.Admission.{Request, admission}
use Rattle.list_meaning.specs.Lines.{Said, bad, time, cell, said}

-- what a list is held against: the sizes of the grid, the ranges of the fields, the field that serves as flag where the source moves a pixel once, the
-- time of the run's start, and start plus steps
abbrev pub Limits : Type 0
Limits = record { sizes : List ℕ; fields : List Range; flag : Option ℕ; first : ℕ; last : ℕ }

-- the limits of an admitted run
abbrev pub limits_of : Program → Option ℕ → Request → Limits
limits_of p flag q =
    record { sizes = q.sizes; fields = p.fields; flag = flag; first = nat_abs q.start; last = nat_abs q.start + nat_abs q.steps }

-- ---- a cell's line

-- every index is below the size of its dimension
unfoldable pub inside : List ℕ → List ℕ → Bool
inside [] is = true
inside (n ∷ ns) [] = true
inside (n ∷ ns) (i ∷ is) = ltb i n && inside ns is

-- a value is in the range of its field; a missing one always
abbrev pub value_fits : Range → Option ℤ → Bool
value_fits r none = true
value_fits r (some z) = in_field r z

-- every value is in the range of its field
unfoldable pub all_fit : List Range → List (Option ℤ) → Bool
all_fit rs [] = true
all_fit [] (v ∷ vs) = true
all_fit (r ∷ rs) (v ∷ vs) = value_fits r v && all_fit rs vs

-- a value that is there and 0, however it is spelled
abbrev pub is_zero : Option ℤ → Bool
is_zero none = false
is_zero (some z) = eq_z z (pos 0)

-- the values give the flag 0; a missing one gives it nothing
abbrev pub clears : Option ℕ → List (Option ℤ) → Bool
clears none vs = false
clears (some f) vs = is_zero (get_or vs f none)

-- the number of a cell's line behind some time: 50 wrong index count, 51 place outside the grid, 52 too many values, missing ones
-- counted, 53 a value out of range, 58 the flag given 0; 0 if it is right
unfoldable pub cell_line_number : Limits → List ℕ → List (Option ℤ) → ℕ
cell_line_number q is vs =
    if not (eqb (length is) (length q.sizes)) then 50
    else if not (inside q.sizes is) then 51
    else if ltb (length q.fields) (length vs) then 52
    else if not (all_fit q.fields vs) then 53
    else if clears q.flag vs then 58
    else 0

-- ---- a time's line

-- a time is above the one before it; the first one always
abbrev pub rises : Option ℕ → ℕ → Bool
rises none t = true
rises (some before) t = ltb before t

-- the number of a time's line: 54 it does not rise, 55 it is before the start, 56 it is past start plus steps; 0 if it is right
unfoldable pub time_number : Limits → Option ℕ → ℕ → ℕ
time_number q before t =
    if not (rises before t) then 54
    else if ltb t q.first then 55
    else if ltb q.last t then 56
    else 0

-- ---- the list

-- the number of a line, by the last time before it, if any; 50 is also a cell before any time
abbrev pub line_number : Limits → Option ℕ → Said → ℕ
line_number q before bad = 50
line_number q before (time t) = time_number q before t
line_number q none (cell is vs) = 50
line_number q (some before) (cell is vs) = cell_line_number q is vs

-- the last time behind a line
abbrev pub time_behind : Option ℕ → Said → Option ℕ
time_behind before bad = before
time_behind before (time t) = some t
time_behind before (cell is vs) = before

-- a refused list's number and line, counted from 1; number 0 and line 0: it passes
abbrev pub Verdict : Type 0
Verdict = record { number : ℕ; line : ℕ }

abbrev pub verdict : ℕ → ℕ → Verdict
verdict number line = record { number = number; line = line }

-- the first line, from number n on, that is not right
unfoldable pub check_lines : Limits → Option ℕ → ℕ → List Said → Verdict
check_lines q before n [] = verdict 0 0
check_lines q before n (s ∷ ss) =
    let number = line_number q before s in
    if eqb number 0 then check_lines q (time_behind before s) (suc n) ss else verdict number n

-- the check of a list: the lowest line that is not right, and its lowest number
unfoldable pub check_list : Limits → List ℕ → Verdict
check_list q text = check_lines q none 1 (said text)

-- ---- admission of a run with a list

-- a refusal's number, its place in the source or the grid, and its line in the list; number 0: admitted
abbrev pub Turned : Type 0
Turned = record { number : ℕ; place : ℕ; line : ℕ }

-- 20 to 24 go first; a run with a list is admitted only if the list passes too
unfoldable pub admission_with : Program → Option ℕ → Request → List ℕ → Turned
admission_with p flag q text =
    let a = admission p q in
    let v = check_list (limits_of p flag q) text in
    elim (eqb a.number 0) [
      | true ↦ record { number = v.number; place = 0; line = v.line }
      | false ↦ record { number = a.number; place = a.place; line = 0 }
    ]
