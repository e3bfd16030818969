use mathlib.Core.Path.{◌≡◌}
use Prim.Native.Nat.{◌-◌, ◌*◌, ◌≤◌}
use lib.ListN.{length}
use Rattle.names.proofs.Removing.{moved}
use Rattle.names.proofs.remove_entry.Given as goal

abbrev pub invariant-loop-k : goal.invariant-loop-k
invariant-loop-k l = (l.names ≡ moved l.initial.names l.from l.k) × (l.k ≤ l.many) × (l.from ≡ 4 * l.slot) × (l.many ≡ 1020 - l.from) × (length l.names ≡ 1024)
