use mathlib.Core.Path.{refl}
use mathlib.Core.Option.{some}
use native.Mathlib.Omega.{arith}
use borrow.Author.Rules.{rules}
use Rattle.list_writer.proofs.LineLaws.{changed_length, cells_start, cells_again}
use Rattle.list_writer.proofs.lines.put_cells.Goals as goal

pub loop-c-init : goal.loop-c-init
loop-c-init c =
    let d = c.args.change.now in
    (cells_start d.sizes.now d.fields (some d.flag) d.earlier.now d.later.now _ _, refl, omega arith, refl)

pub loop-c-preserved : goal.loop-c-preserved
loop-c-preserved c =
    let d = c.args.change.now in
    (cells_again d.sizes.now d.fields (some d.flag) d.earlier.now d.later.now c.loop-c.c c.loop-c.invariant.0 c.put_changed.ensures.puts, search rules, omega (arith, c.put_changed.ensures.puts.end, changed_length c.requires.0.0 {c = c.loop-c.c} (omega (arith, c.requires.0.1)) (some d.flag)), search rules)
