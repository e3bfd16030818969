use Rattle.value.specs.Limits.{table_words}
use Rattle.grammar.specs.Reader.{turns}
use Rattle.grammar.specs.Constants.{read_values, value_turn}
use Rattle.read_state.proofs.Turns.{Turning}
use Prim.Native.Nat.{◌+◌, ◌-◌, ◌≤◌}
use mathlib.Core.Path.{◌≡◌}
use lib.ListN.{length}
use Rattle.read_constants.proofs.read_values.Given as goal

abbrev pub invariant-loop-a : goal.invariant-loop-a
invariant-loop-a l = Turning (read_values l.size l.initial.here.at) (value_turn l.size l.initial.here.at) l.source l.scan l.initial.here l.names l.initial.words (λ x. x ≡ l.k) l.here l.names l.words
    × (length l.words ≡ table_words)
    × (l.here.at ≤ l.scan.count)
    × (l.here.count ≤ l.initial.here.count)
    × (l.k + l.initial.here.at ≤ l.here.at)

abbrev pub decreases-loop-a : goal.decreases-loop-a
decreases-loop-a l = turns - l.here.at
