use Prim.Native.Nat.{◌-◌, ◌+◌, ◌≤◌, ◌<◌}
use mathlib.Core.List.{[]}
use lib.ListN.{length}
use Rattle.grammar.specs.Reader.{repeat, turns}
use Rattle.grammar.specs.Source.{group_turn}
use Rattle.read_state.specs.Promises.Reading.{Ready}
use Rattle.read_state.proofs.Turns.{Turning}
use Rattle.read_declaration.specs.Promises.Fields.{Ranges}
use Rattle.read_declaration.proofs.read_groups.Given as goal

abbrev pub invariant-loop-scan : goal.invariant-loop-scan
invariant-loop-scan l =
    Turning (repeat turns (group_turn l.base) []) (group_turn l.base) l.source l.scan l.initial.here l.initial.names l.initial.words (λ rs. Ranges l.words l.base rs l.n) l.here l.names l.words
    × Ready l.scan (length l.names) (length l.words) l.here
    × (l.base + l.n < l.here.at)
    × (l.n ≤ 8)
    × (l.initial.here.at ≤ l.here.at)

abbrev pub decreases-loop-scan : goal.decreases-loop-scan
decreases-loop-scan l = 4097 - l.here.at
