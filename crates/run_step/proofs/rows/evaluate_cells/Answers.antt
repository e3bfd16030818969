use Prim.Native.Nat.{◌+◌}
use mathlib.Core.Path.{refl}
use native.Mathlib.Omega.{arith}
use borrow.Author.Rules.{rules}
use Rattle.run_step.proofs.RowLaws.{placed_at, rowing_start, rowing_turn, rowing_stop}
use Rattle.run_step.proofs.rows.evaluate_cells.Goals as goal

pub loop-i-init : goal.loop-i-init
loop-i-init c = (rowing_start _ _ _ _ _ _ _ _, search rules, refl, search rules, placed_at c.args.sizes.now _ _ _ c.set_point.ensures (omega arith))

pub returns-in-Err : goal.returns-in-Err
returns-in-Err c = rowing_stop _ _ _ _ _ _ _ c.loop-i.i c.loop-i.total c.loop-i.next _ c.loop-i.invariant.0 c.evaluate_into-turn.ensures c.in-Err.is c.loop-i-test.true refl refl

pub loop-i-preserved : goal.loop-i-preserved
loop-i-preserved c = (rowing_turn _ _ _ _ _ _ _ c.loop-i.i c.loop-i.total c.loop-i.next _ c.loop-i.invariant.0 c.evaluate_into-turn.ensures c.in_default.is, omega arith, search rules, search rules, placed_at c.args.sizes.now (c.args.from + c.loop-i.i + 1) (c.args.from + (c.loop-i.i + 1)) _ c.move_point.ensures (omega arith))
