use Prim.Native.Nat.{◌-◌, ◌≤◌, ◌<◌}
use mathlib.Core.Path.{◌≡◌}
use mathlib.Core.Bool.{true}
use lib.ListN.{length}
use Rattle.automaton.specs.Step.{marked}
use Rattle.run_marked_cells.proofs.ExchangeLaws.{Half}
use Rattle.run_marked_cells.proofs.exchange.exchange_marked.Given as goal

abbrev pub invariant-loop-cell : goal.invariant-loop-cell
invariant-loop-cell l =
    Half l.fields l.marks l.initial.a l.initial.b l.a l.cell × Half l.fields l.marks l.initial.b l.initial.a l.b l.cell × (l.cell ≤ length l.marks) × (l.cell < length l.marks → marked l.marks l.cell ≡ true)

abbrev pub decreases-loop-cell : goal.decreases-loop-cell
decreases-loop-cell l = length l.marks - l.cell
