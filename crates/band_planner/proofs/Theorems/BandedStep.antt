-- Under every plan that the plan check takes, a step of the source leaves the grid and gives the fault and count that the step of the whole grid does.
use Prim.Native.Nat.{ℕ}
use mathlib.Core.Path.{◌≡◌, sym, ap, ◌∙◌}
use mathlib.Core.List.{List, ◌∷◌}
use mathlib.Core.Bool.{Bool}
use mathlib.Core.Option.{some}
use lib.ListN.{length}
use lib.IntN.{ℤ}
use Rattle.automaton.specs.Step.{step_of}
use Rattle.automaton.specs.Bands.{Band}
use Rattle.automaton.specs.Promises.BandSteps.{step_under}
use Rattle.grammar.specs.Source.{Accepted}
use Rattle.cell_meaning.specs.Evaluation.{evaluate}
use Rattle.program.specs.Refusal.{Refusal}
use Rattle.run_meaning.specs.Reach.{running}
use Rattle.run_calls.proofs.Theorems.AcceptedSources.{accepted_flagged}
use Rattle.run_admission.proofs.RequestLaws.{positive}
use Rattle.band_meaning.specs.Edge.{edge}
use Rattle.band_meaning.specs.Plans.{bands_in}
use Rattle.band_meaning.specs.PlanCalls.{check_plan_source}
use Rattle.band_meaning.proofs.Theorems.EdgeTheorems.{step_under_program}
use Rattle.band_meaning.proofs.Theorems.PlanTheorems.{OnRows, check_zero, bands_fit, checked_begins, checked_at}
use Rattle.band_planner.proofs.OpeningLaws.{sizes_known}

-- the step under a plan, for the program of a source that is read
pub record StepIs (read : Accepted) (n : ℕ) (ns : List ℕ) (bands : List Band) : Type 0 where
  pub is : (g : List ℤ) (t : ℕ) → step_under ns (length read.program.fields) (evaluate read.program) n (edge read.program) bands g t ≡ step_of (running read.program (n ∷ ns)) g t

pub taken_step : (fit : Bool) (source : List ℕ) (n : ℕ) (ns : List ℕ) (held : ℕ) (plan : List ℕ) → (check_plan_source fit source (n ∷ ns) held plan).number ≡ 0
    → (bands : List Band) → bands_in plan ≡ some bands → (r : OnRows fit source (n ∷ ns)) × StepIs r.read n ns bands
taken_step fit source n ns held plan z bands e =
    let x = checked_begins fit source (n ∷ ns) held plan z in
    let r = x.0 in
    let p = r.read.program in
    let fits = (check_zero p (n ∷ ns) held plan (ap (λ (y : Refusal). y.number) (sym (checked_at fit source (n ∷ ns) held r x.1 plan)) ∙ z)).1 in
    let known = sizes_known p (n ∷ ns) r.sized in (
      r,
      record {
        is = step_under_program p (accepted_flagged fit source r.read r.is) n ns (positive (n ∷ ns) known.each).1 known.many held bands (sym (bands_fit p (n ∷ ns) held plan bands e) ∙ fits);
      },
    )
