-- A full run under a plan of bands of rows: what is lent to it beside a run, whether it is refused, and what it leaves.
use Rattle.std.specs.Prelude.{Bool, not, ◌&&◌, List, ℕ, ◌*◌, length, drop, replicate, eqb, ℤ, pos, if◌then◌else◌}
use Rattle.std.proofs.Math.Option.{Option}
use Rattle.automaton.specs.Shape.{product}
use Rattle.program.specs.Syntax.{Program}
use Rattle.grammar.specs.Checking.{SourceRead, by_outcome, words_after}
use Rattle.move_meaning.specs.Profile.{profile_flag}
use Rattle.run_meaning.specs.Admission.{good_sizes}
use Rattle.run_meaning.specs.Report.{full, refused}
use Rattle.list_meaning.specs.ListChecking.{Turned}
use Rattle.run_calls.specs.Running.{Asked, admitted}
use Rattle.run_calls.specs.Calls.{NameForm, memory, Lent, Left, fits, asked, read_lent, names_left, run_left}
use Rattle.band_meaning.specs.Plans.{plan_fits}

-- ---- refusals

-- what is asked beside a run: how many rows can be held, the plan, and how long the room is for the rows that a band is lent
abbrev pub Under : Type 0
Under = record { held : ℕ; plan : List ℕ; room : ℕ }

-- the room is of as many rows as can be held, else 21
unfoldable pub room_right : Program → List ℕ → Under → Bool
room_right p sizes u = eqb u.room (u.held * product (drop 1 sizes) * length p.fields)

-- as a run, with 21 for the room too, which is tried after 20; and 60, tried last, for a plan that is not accepted. Number 0: the run is admitted
unfoldable pub admitted_under : Program → Option ℕ → Asked → Under → Turned
admitted_under p flag q u =
    let a = admitted p flag q in
    let sizes = q.request.sizes in
    if good_sizes p sizes && not (room_right p sizes u) then record { number = 21; place = 0; line = 0 }
    else if eqb a.number 0 && not (plan_fits p sizes u.held u.plan) then record { number = 60; place = 0; line = 0 }
    else a

-- ---- the call

-- what is lent: what a run is lent, how many rows can be held, the plan, and the room
abbrev pub BandedLent : Type 0 → Type 0
BandedLent N = record { run : Lent N; held : ℕ; plan : List ℕ; room : List ℤ }

abbrev pub banded_lent : {N : Type 0} → Lent N → ℕ → List ℕ → List ℤ → BandedLent N
banded_lent run held plan room = record { run = run; held = held; plan = plan; room = room }

-- what is left: what a run leaves, and the room
abbrev pub BandedLeft : Type 0 → Type 0
BandedLeft N = record { left : Left N; room : List ℤ }

abbrev pub under : {N : Type 0} → BandedLent N → Under
under l = record { held = l.held; plan = l.plan; room = length l.room }

-- after a refusal: word table and name list as after a run, and all else as it was
abbrev pub left_refused : {N : Type 0} → NameForm N → BandedLent N → (number place line : ℕ) → BandedLeft N
left_refused form l number place line =
    let m = l.run.memory in
    let words = words_after (fits form l.run) l.run.source m.words in
    let names = names_left form (fits form l.run) l.run.source m.names in
    let kept = memory words names m.grid m.scratch m.marks m.counts in
    record { left = record { report = refused number place line m.grid; memory = kept }; room = l.room }

-- after a run that began: what the full run of the whole grid leaves; the room holds zeros
abbrev pub left_full : {N : Type 0} → NameForm N → BandedLent N → BandedLeft N
left_full form l = record { left = run_left form full l.run; room = replicate (length l.room) (pos 0) }

-- by whether it is admitted
abbrev pub left_turned : {N : Type 0} → NameForm N → BandedLent N → Turned → BandedLeft N
left_turned form l t = if eqb t.number 0 then left_full form l else left_refused form l t.number t.place t.line

-- the source is read first
abbrev pub left_read : {N : Type 0} → NameForm N → BandedLent N → SourceRead → BandedLeft N
left_read form l =
    by_outcome (λ number place. left_refused form l number place 0)
    (λ a. left_turned form l (admitted_under a.program (profile_flag l.run.source a) (asked l.run) (under l)))

-- what a run under a plan leaves of what it is lent
unfoldable pub banded_left : {N : Type 0} → NameForm N → BandedLent N → BandedLeft N
banded_left form l = left_read form l (read_lent form l.run)
