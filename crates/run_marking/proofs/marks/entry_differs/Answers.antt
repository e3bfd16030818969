use lib.ListN.{get_or}
use lib.IntN.{pos}
use mathlib.Core.Path.{ap}
use mathlib.Core.Bool.{not}
use mir.Syntax.{w32}
use Rattle.value.proofs.Tests.{eq_bits}
use Rattle.run_marking.proofs.marks.entry_differs.Goals as goal

pub returns : goal.returns
returns c =
    let x = get_or c.args.old.now c.args.i (pos 0) in
    let y = get_or c.args.grid.now c.args.i (pos 0) in
    ap not (eq_bits w32 x y (record { sfits = c.x-1.given }) (record { sfits = c.y-1.given }))
