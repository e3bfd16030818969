use Rattle.value.specs.Limits.{table_words, most_names, name_words}
use Rattle.grammar.specs.Reader.{turns}
use Rattle.grammar.specs.Constants.{read_constants, constants_turn}
use Rattle.read_state.proofs.Turns.{Turning}
use Prim.Native.Nat.{◌-◌, ◌≤◌}
use lib.ListN.{length}
use mathlib.Core.Path.{◌≡◌}
use Rattle.read_constants.proofs.read_constants.Given as goal

abbrev pub invariant-loop-scan : goal.invariant-loop-scan
invariant-loop-scan l = Turning read_constants constants_turn l.source l.scan l.initial.here l.initial.names l.initial.words (λ _. Unit {0}) l.here l.names l.words
    × (length l.words ≡ table_words)
    × (length l.names ≡ name_words)
    × (l.here.at ≤ l.scan.count)
    × (l.here.count ≤ most_names)
    × (l.initial.here.at ≤ l.here.at)

abbrev pub decreases-loop-scan : goal.decreases-loop-scan
decreases-loop-scan l = turns - l.here.at
