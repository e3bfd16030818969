-- The report of a run under a plan, and the grid, the marks and the row counts that it leaves.
use mathlib.Core.Path.{ap, subst₂}
use mathlib.Core.Bool.{Bool}
use mathlib.Core.List.{List}
use Prim.Native.Nat.{ℕ}
use lib.IntN.{ℤ}
use mir.Syntax.{w64}
use mir.Val.{SFits, to_z, of_z}
use mir.Facts.{to_z-of_z}
use Rattle.token.specs.Lexeme.{built_in_names}
use Rattle.run_calls.specs.Calls.{flat_names, Memory, lent}
use Rattle.run_steps.specs.declared.Report.{Report}
use Rattle.band_run.specs.BandedRun.{banded_lent, BandedLeft}
use Rattle.band_run.specs.Promises.Running.{BandedLeaves}
use Rattle.tool_planned_run.specs.Promises.RunsBanded.{lent_listed, RunsBanded}

-- the times as the machine reads them
pub banded_of : {source sizes : List ℕ} {m : Memory ℕ} {values : List ℕ} {start steps : ℤ} {counted : Bool} {field held : ℕ} {plan : List ℕ} {room : List ℤ} {r : Report} {left : Memory ℕ} {room' : List ℤ}
    → SFits w64 start → SFits w64 steps
    → BandedLeaves flat_names (banded_lent (lent source built_in_names sizes m values (to_z w64 (of_z w64 start)) (to_z w64 (of_z w64 steps)) counted field) held plan room) r left room'
    → RunsBanded (lent_listed source sizes m values start steps counted field held plan room) r left.grid left.marks left.counts
banded_of {source} {sizes} {m} {values} {start} {steps} {counted} {field} {held} {plan} {room} {r} {left} {room'} h k leaves =
    let run : BandedLeaves flat_names (lent_listed source sizes m values start steps counted field held plan room) r left room' =
    subst₂ (λ (a b : ℤ). BandedLeaves flat_names (lent_listed source sizes m values a b counted field held plan room) r left room') (to_z-of_z {w = w64} h) (to_z-of_z {w = w64} k) leaves in
    record {
      report = ap (λ (x : BandedLeft ℕ). x.left.report) run.is;
      marks_are = ap (λ (x : BandedLeft ℕ). x.left.memory.marks) run.is;
      counts_are = ap (λ (x : BandedLeft ℕ). x.left.memory.counts) run.is;
    }
