-- The plan check and the planner as calls: what they answer, and what they leave of what is lent to them.
use Rattle.std.specs.Prelude.{Bool, List, ℕ}
use Rattle.grammar.specs.Checking.{read_source}
use Rattle.program.specs.Refusal.{Refusal, refusal}
use Rattle.run_calls.specs.Calls.{NameForm, SourceLent, SourceLeft, source_left}
use Rattle.band_meaning.specs.OnSizes.{on_sizes, by_grid}
use Rattle.band_meaning.specs.Plans.{check_plan, Planned, unplanned, planned}

-- the reply of the plan check of a source: by the sizes, how many rows can be held, and the plan
unfoldable pub check_plan_source : Bool → List ℕ → List ℕ → ℕ → List ℕ → Refusal
check_plan_source fit source sizes held plan =
    by_grid refusal (λ p. check_plan p sizes held plan) (on_sizes sizes (read_source fit source))

-- what the plan check leaves
unfoldable pub plan_check_left : {N : Type 0} → NameForm N → SourceLent N → List ℕ → ℕ → List ℕ → SourceLeft N Refusal
plan_check_left form l sizes held plan = source_left form l (λ fit source. check_plan_source fit source sizes held plan)

-- what the planner gives for a source, with its room: by the sizes, how many rows can be held, and the room
unfoldable pub planned_source : Bool → List ℕ → List ℕ → ℕ → List ℕ → Planned
planned_source fit source sizes held room =
    by_grid (λ number place. unplanned number place room) (λ p. planned p sizes held room) (on_sizes sizes (read_source fit source))

-- what the planner leaves
unfoldable pub planner_left : {N : Type 0} → NameForm N → SourceLent N → List ℕ → ℕ → List ℕ → SourceLeft N Planned
planner_left form l sizes held room = source_left form l (λ fit source. planned_source fit source sizes held room)
