use Rattle.std.proofs.Common.{◌≡◌, length, ◌+◌, ◌*◌, ◌≤◌}
use Rattle.api_comparison.specs.Differences.{differences, first_written}
use Rattle.api_comparison.proofs.DifferenceLaws.{room_to_be, differences_from}
use Rattle.api_comparison.proofs.compare.Given as goal

-- the differences found so far and those to come are all; the room that will be is the one promised
abbrev pub invariant-loop-i : goal.invariant-loop-i
invariant-loop-i l =
    record {
      room_length : length l.room ≡ 3 * l.k;
      within : l.i ≤ length l.left;
      few : l.total ≤ l.i;
      all_counted : l.total + length (differences_from l.i l.left l.right) ≡ length (differences 0 l.left l.right);
      room_is : room_to_be l.k l.total (differences_from l.i l.left l.right) l.room ≡ first_written l.k (differences 0 l.left l.right) l.fn.room;
    }
