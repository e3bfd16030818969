use mathlib.Core.Path.{◌≡◌}
use lib.ListN.{length}
use Rattle.list_reader.proofs.SettingLaws.{Storing}
use Rattle.list_reader.proofs.setting.store_values.Given as goal

abbrev pub invariant-loop-e : goal.invariant-loop-e
invariant-loop-e l = Storing l.line l.entry l.initial.grid l.here l.e l.grid × (length l.grid ≡ length l.initial.grid)
