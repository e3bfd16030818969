use Prim.Native.Nat.{◌-◌, ◌≤◌}
use mathlib.Core.Path.{◌≡◌}
use mathlib.Core.List.{[]}
use lib.ListN.{length}
use Rattle.grammar.specs.Reader.{repeat, turns}
use Rattle.grammar.specs.Expressions.{index_turn}
use Rattle.read_state.proofs.Turns.{Turning}
use Rattle.read_expressions.specs.Promises.Promises.{cell_as}
use Rattle.read_expressions.proofs.read_indices.Given as goal

abbrev pub invariant-loop-a : goal.invariant-loop-a
invariant-loop-a l = Turning (repeat turns (index_turn (cell_as l.cell)) []) (index_turn (cell_as l.cell)) l.source l.scan l.initial.here l.names l.initial.words (λ got. length got ≡ l.k) l.here l.names l.words × (length l.words ≡ 16384) × (l.initial.here.at ≤ l.here.at) × (l.here.at ≤ l.scan.count) × (l.here.count ≤ l.initial.here.count) × (l.k ≤ l.here.at)

abbrev pub decreases-loop-a : goal.decreases-loop-a
decreases-loop-a l = 4097 - l.here.at
