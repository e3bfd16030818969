use Prim.Native.Nat.{◌-◌, ◌≤◌}
use lib.ListN.{length}
use Rattle.token.proofs.Scans.{Going}
use Rattle.token.proofs.scanning.read_tokens.Given as goal

abbrev pub invariant-loop-here : goal.invariant-loop-here
invariant-loop-here l = Going l.source l.words l.cursor.at l.count × (length l.source ≤ 65535)

abbrev pub decreases-loop-here : goal.decreases-loop-here
decreases-loop-here l = length l.source - l.cursor.at
