use Prim.Native.Nat.{ℕ, ◌*◌}
use mathlib.Core.Path.{ap}
use Rattle.band_planner.specs.Promises.Borders.{border_of}
use Rattle.band_planner.specs.Promises.Plans.{band_told}
use Rattle.band_call.proofs.AskingLaws.{rows_wrong, by_room}
use Rattle.band_call.proofs.asking.rooms_right.Goals as goal

pub returns-then-rows-rows_with : goal.returns-then-rows-rows_with
returns-then-rows-rows_with c =
    let a = c.args in
    rows_wrong a.row a.fields a.rows a.room (border_of a.border) (band_told a.band) (ap (λ (n : ℕ). n * a.row * a.fields) c.rows_with.ensures) c.if-rows-rows_with.true

pub returns : goal.returns
returns c =
    let a = c.args in
    by_room a.row a.fields a.rows a.room (border_of a.border) (band_told a.band) (ap (λ (n : ℕ). n * a.row * a.fields) c.rows_with.ensures) c.if-rows-rows_with.false (ap (λ (n : ℕ). n * a.row * a.fields) c.rows.ensures)
