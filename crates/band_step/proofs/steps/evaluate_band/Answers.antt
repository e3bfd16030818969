use mathlib.Core.Path.{refl}
use Prim.Native.Nat.{◌+◌, ◌-◌}
use native.Mathlib.Omega.{arith}
use Rattle.run_step.proofs.TurnLaws.{part_whole}
use Rattle.band_step.proofs.OneBand.{part_inside, band_evaluated}
use borrow.Author.Rules.{rules}
use Rattle.band_step.proofs.steps.evaluate_band.Goals as goal

pub overflow_add-end : goal.overflow_add-end
overflow_add-end c = let a = part_inside c.requires.0 c.requires.1 {own = c.args.last + 1 - c.args.first} (omega arith) in search rules

pub offset_bounds-scratch-from : goal.offset_bounds-scratch-from
offset_bounds-scratch-from c = let a = part_inside c.requires.0 c.requires.1 {own = c.args.last + 1 - c.args.first} (omega arith) in search (c.well_formed.1.1.1.1.1.1.1.1.1.1.1.0, rules)

pub slice_bounds-step_rows-end : goal.slice_bounds-step_rows-end
slice_bounds-step_rows-end c = part_inside c.requires.0 c.requires.1 {own = c.args.last + 1 - c.args.first} (omega arith)

pub returns : goal.returns
returns c = band_evaluated c.requires.0 c.requires.1 (omega arith) c.args.grid.now c.args.room.now refl c.fill_room.ensures c.step_rows.ensures (search rules) (part_whole _ _)
