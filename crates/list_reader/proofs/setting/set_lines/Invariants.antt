use mathlib.Core.Path.{◌≡◌}
use Prim.Native.Nat.{◌-◌}
use lib.ListN.{length}
use Rattle.list_reader.proofs.SettingLaws.{Setting}
use Rattle.list_reader.proofs.setting.set_lines.Given as goal

abbrev pub invariant-loop-at : goal.invariant-loop-at
invariant-loop-at l = Setting l.sizes l.fields l.text l.from l.initial.grid l.at l.grid × (length l.grid ≡ length l.initial.grid)

abbrev pub decreases-loop-at : goal.decreases-loop-at
decreases-loop-at l = length l.text - l.at
