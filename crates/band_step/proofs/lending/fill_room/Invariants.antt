use Prim.Native.Nat.{◌≤◌}
use Rattle.band_step.proofs.LendLaws.{Lent}
use Rattle.band_step.proofs.lending.fill_room.Given as goal

abbrev pub invariant-loop-k : goal.invariant-loop-k
invariant-loop-k l =
    Lent l.rows l.first l.before l.width l.grid l.initial.room l.k l.from l.room × (l.k ≤ l.count)
