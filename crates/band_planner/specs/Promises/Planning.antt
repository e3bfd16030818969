-- What the plan check and the planner return, and what they leave.
use Rattle.std.specs.Prelude.{◌≡◌, Bool, not, List, ℕ, Result, Ok, Err, if◌then◌else◌}
use Rattle.automaton.specs.Shape.{Bound}
use Rattle.automaton.specs.Bands.{plannable, plan_of}
use Rattle.grammar.specs.Checking.{words_after}
use Rattle.grammar.specs.Promises.Flat.{names_after}
use Rattle.program.specs.Refusal.{Refusal}
use Rattle.run_calls.specs.Calls.{NameForm, SourceLent}
use Rattle.run_admission.specs.Promises.Admitting.{refusal_told}
use Rattle.band_meaning.specs.Plans as plans
use Rattle.band_meaning.specs.PlanCalls.{check_plan_source, plan_check_left, planned_source, planner_left}

-- `check_listed`: the reply to a source, 0 for `Ok` alone, and what is left, whether or not the rooms fit
pub record ChecksSource (fit : Bool) (source sizes : List ℕ) (held : ℕ) (plan words names : List ℕ) (r : Result (Unit {0}) Refusal) (words' names' : List ℕ) : Type 0 where
  pub reply : refusal_told r ≡ check_plan_source fit source sizes held plan
  pub refuses : (e : Refusal) → r ≡ Err e → e.number ≡ 0 → ⊥
  pub words_are : words' ≡ words_after fit source words
  pub names_are : names' ≡ names_after fit source names

-- `check_plan`: the reply, 0 for `Ok` alone, and the memory that it leaves, are those of the definition
pub record CheckLeaves {N : Type 0} (form : NameForm N) (l : SourceLent N) (sizes : List ℕ) (held : ℕ) (plan : List ℕ) (r : Result (Unit {0}) Refusal) (words : List ℕ) (names : List N) : Type 0 where
  pub is : record { answer = refusal_told r; words = words; names = names } ≡ plan_check_left form l sizes held plan
  pub refuses : (e : Refusal) → r ≡ Err e → e.number ≡ 0 → ⊥

-- the numbers that the planner's result gives, with the room
abbrev pub planned_of : Result ℕ Refusal → List ℕ → plans.Planned
planned_of (Ok bands) room = record { number = 0; place = 0; bands = bands; room = room }
planned_of (Err e) room = plans.unplanned e.number e.place room

-- `put_plan`: the planner's plan in a room, or 59
abbrev pub plan_or_none : ℕ → Bound → ℕ → List ℕ → plans.Planned
plan_or_none n border held room = if not (plannable border held) then plans.unplanned 59 0 room else plans.put_plan (plan_of n border held) room

-- `plan_listed`: the reply to a source, and what is left, whether or not the rooms fit
pub record PlansSource (fit : Bool) (source sizes : List ℕ) (held : ℕ) (words names room : List ℕ) (r : Result ℕ Refusal) (words' names' room' : List ℕ) : Type 0 where
  pub planned : planned_of r room' ≡ planned_source fit source sizes held room
  pub words_are : words' ≡ words_after fit source words
  pub names_are : names' ≡ names_after fit source names

-- `plan_bands`: the reply, and the memory that it leaves, are those of the definition
pub record PlannerLeaves {N : Type 0} (form : NameForm N) (l : SourceLent N) (sizes : List ℕ) (held : ℕ) (room : List ℕ) (r : Result ℕ Refusal) (words : List ℕ) (names : List N) (room' : List ℕ) : Type 0 where
  pub is : record { answer = planned_of r room'; words = words; names = names } ≡ planner_left form l sizes held room
