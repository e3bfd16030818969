use Prim.Native.Nat.{◌+◌, ◌*◌, ◌-◌, ◌≤◌, ◌<◌}
use mathlib.Core.Path.{◌≡◌}
use mathlib.Core.List.{[]}
use lib.ListN.{length}
use Rattle.grammar.specs.Reader.{repeat, turns}
use Rattle.grammar.specs.Statements.{arm_turn, statement_turn}
use Rattle.read_expressions.specs.Promises.Promises.{cell_as}
use Rattle.read_state.proofs.Turns.{Turning}
use Rattle.read_statements.specs.Promises.Promises.{whatever, expression_in, block_in, parts_in}
use Rattle.read_statements.proofs.+statements.Given as goal

abbrev pub decreases-arm_end : goal.decreases-arm_end
decreases-arm_end l = 5 * (l.scan.count - l.s.at)

abbrev pub decreases-read_arm : goal.decreases-read_arm
decreases-read_arm l = 5 * (l.scan.count - l.s.at) + 1

abbrev pub decreases-read_block : goal.decreases-read_block
decreases-read_block l = 5 * (l.scan.count - l.s.at) + 4

abbrev pub decreases-read_forall : goal.decreases-read_forall
decreases-read_forall l = 5 * (l.scan.count - l.s.at) + 2

abbrev pub decreases-read_if : goal.decreases-read_if
decreases-read_if l = 5 * (l.scan.count - l.s.at) + 2

abbrev pub decreases-read_statement : goal.decreases-read_statement
decreases-read_statement l = 5 * (l.scan.count - l.s.at) + 3

abbrev pub invariant-read_block-loop-a : goal.invariant-read_block-loop-a
invariant-read_block-loop-a l = Turning (block_in l.inside) (statement_turn (cell_as l.inside.cell) (parts_in l.inside) l.inside.loops) l.source l.scan l.initial.here l.initial.names l.initial.words whatever l.here l.names l.words × (length l.names ≡ length l.initial.names) × (length l.words ≡ length l.initial.words) × (l.initial.here.at ≤ l.here.at) × (l.here.at ≤ l.scan.count) × (l.here.count ≤ 256)

abbrev pub decreases-read_block-loop-a : goal.decreases-read_block-loop-a
decreases-read_block-loop-a l = l.scan.count - l.here.at

abbrev pub invariant-read_if-loop-a : goal.invariant-read_if-loop-a
invariant-read_if-loop-a l = Turning (repeat turns (arm_turn (expression_in l.inner) (block_in l.inner)) []) (arm_turn (expression_in l.inner) (block_in l.inner)) l.source l.scan l.initial.here l.initial.names l.initial.words whatever l.here l.names l.words × (length l.names ≡ length l.initial.names) × (length l.words ≡ length l.initial.words) × (l.initial.here.at ≤ l.here.at) × (l.here.at < l.scan.count) × (l.here.count ≤ 256)

abbrev pub decreases-read_if-loop-a : goal.decreases-read_if-loop-a
decreases-read_if-loop-a l = l.scan.count - l.here.at
