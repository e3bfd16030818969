use Rattle.std.proofs.Common.{length, ◌-◌, ◌≡◌}
use Rattle.io.specs.Counts.{IsPrefixLen}
use Rattle.tool_text.proofs.read_full.Given as goal

abbrev pub invariant-loop-done : goal.invariant-loop-done
invariant-loop-done g l = IsPrefixLen l.done l.room × (length l.room ≡ length l.initial.room)

abbrev pub decreases-loop-done : goal.decreases-loop-done
decreases-loop-done g l = length l.initial.room - l.done
