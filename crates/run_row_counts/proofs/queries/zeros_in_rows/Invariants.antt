use Prim.Native.Nat.{◌*◌, ◌≤◌}
use mathlib.Core.Path.{◌≡◌}
use Rattle.automaton.specs.Rows.{in_rows}
use Rattle.run_row_counts.proofs.queries.zeros_in_rows.Given as goal

abbrev pub invariant-loop-count : goal.invariant-loop-count
invariant-loop-count l = (l.sum ≡ in_rows l.counts l.first l.count-index) × (l.sum ≤ 4294967295 * l.count-index)
