use Rattle.grammar.specs.Reader.{repeat, turns}
use Rattle.read_state.proofs.Turns.{Turning}
use Rattle.read_statements.specs.Promises.Promises.{IsLink, expression_in}
use Prim.Native.Nat.{◌≤◌, ◌-◌}
use lib.ListN.{length}
use mathlib.Core.List.{[]}
use mathlib.Core.Path.{◌≡◌}
use Rattle.grammar.specs.Statements.{clause_turn}
use Rattle.read_statements.proofs.read_clauses.Given as goal

abbrev pub invariant-loop-a : goal.invariant-loop-a
invariant-loop-a l = Turning (repeat turns (clause_turn (expression_in l.inside)) []) (clause_turn (expression_in l.inside)) l.source l.scan l.initial.here l.names l.initial.words (IsLink l.link) l.here l.names l.words × (length l.words ≡ length l.initial.words) × (l.initial.here.at ≤ l.here.at) × (l.here.at ≤ l.scan.count) × (l.here.count ≤ l.initial.here.count)

abbrev pub decreases-loop-a : goal.decreases-loop-a
decreases-loop-a l = l.scan.count - l.here.at
