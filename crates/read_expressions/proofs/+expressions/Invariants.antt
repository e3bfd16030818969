use Prim.Native.Nat.{suc, ◌+◌, ◌*◌, ◌-◌, ◌≤◌, ℕ}
use mathlib.Core.Path.{◌≡◌}
use lib.ListN.{length}
use Rattle.program.specs.Syntax.{Expr}
use Rattle.grammar.specs.Reader.{repeat, turns}
use Rattle.grammar.specs.Expressions.{left_part, operand_in}
use Rattle.read_state.proofs.Turns.{Turning}
use Rattle.read_expressions.specs.Promises.Promises.{cell_as}
use Rattle.read_expressions.proofs.Operators.{turn_in}
use Rattle.read_expressions.proofs.+expressions.Given as goal

abbrev pub decreases-array_use : goal.decreases-array_use
decreases-array_use l = 8 * (l.scan.count - l.s.at) + 3

abbrev pub decreases-name_use : goal.decreases-name_use
decreases-name_use l = 8 * (l.scan.count - l.s.at) + 4

abbrev pub decreases-read_bracket : goal.decreases-read_bracket
decreases-read_bracket l = 8 * (l.scan.count - l.s.at) + 1

abbrev pub decreases-read_element : goal.decreases-read_element
decreases-read_element l = 8 * (l.scan.count - l.s.at) + 2

abbrev pub decreases-read_expression : goal.decreases-read_expression
decreases-read_expression l = 8 * (l.scan.count - l.s.at) + 7

abbrev pub decreases-read_operand : goal.decreases-read_operand
decreases-read_operand l = 8 * (l.scan.count - l.s.at) + 6

abbrev pub decreases-read_primary : goal.decreases-read_primary
decreases-read_primary l = 8 * (l.scan.count - l.s.at) + 5

abbrev pub invariant-read_expression-loop-scan : goal.invariant-read_expression-loop-scan
invariant-read_expression-loop-scan at_loop = ((more : ℕ) → 5 ≤ suc more + at_loop.level → (e : Expr) → Turning (repeat turns (turn_in (operand_in (cell_as at_loop.inside.cell) at_loop.inside.free) at_loop.level more) (left_part e 0)) (turn_in (operand_in (cell_as at_loop.inside.cell) at_loop.inside.free) at_loop.level more) at_loop.source at_loop.scan at_loop.initial.here at_loop.names at_loop.initial.words (λ l. l.level ≡ at_loop.last) at_loop.here at_loop.names at_loop.words) × (length at_loop.words ≡ 16384) × (at_loop.initial.here.at ≤ at_loop.here.at) × (at_loop.here.at ≤ at_loop.scan.count) × (at_loop.here.count ≤ at_loop.initial.here.count)

abbrev pub decreases-read_expression-loop-scan : goal.decreases-read_expression-loop-scan
decreases-read_expression-loop-scan l = 4097 - l.here.at
