use mir.Syntax.{w32}
use mir.Val.{Fits}
use mir.Facts.{to_z-of_z}
use lib.Dec.{T}
use lib.Signed.{non_neg}
use lib.IntN.{ℤ, nat_abs}
use mathlib.Core.Path.{sym, ap, subst}
use Rattle.run_admission.proofs.RequestLaws.{cast_in}
use Rattle.band_call.proofs.CallLaws.{read_admits, not_stepped, lent_fits, stepped, time_small}
use Rattle.band_call.proofs.calling.band_listed.Goals as goal

pub row_cells-requires : goal.row_cells-requires
row_cells-requires c = c.admit_band.ensures.divides _ c.in-Ok.is

pub overflow_cast-time : goal.overflow_cast-time
overflow_cast-time c =
    let t = time_small (read_admits c.ranges.time c.admit_band.ensures) c.in-Ok.is in
    subst (λ (z : ℤ). T (non_neg z) × Fits w32 (nat_abs z)) (sym (to_z-of_z c.ranges.time)) (cast_in c.args.time t.0 t.1)

pub step_lent-requires : goal.step_lent-requires
step_lent-requires c = lent_fits (read_admits c.ranges.time c.admit_band.ensures) c.in-Ok.is c.row_cells.ensures (ap nat_abs (to_z-of_z c.ranges.time))

pub returns-in-Ok : goal.returns-in-Ok
returns-in-Ok c = stepped (read_admits c.ranges.time c.admit_band.ensures) c.in-Ok.is c.row_cells.ensures (ap nat_abs (to_z-of_z c.ranges.time)) c.step_lent.ensures

pub returns-in-Err : goal.returns-in-Err
returns-in-Err c = not_stepped (read_admits c.ranges.time c.admit_band.ensures) c.in-Err.is c.refused.ensures
