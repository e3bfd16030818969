use Rattle.std.proofs.Common.{◌≤◌, length, get_or, pos}
use Rattle.automaton.specs.Promises.ListedLaws.{Made}
use Rattle.run_marked_cells.proofs.rooms.copy_numbers.Given as goal

-- so many entries are copied
abbrev pub invariant-loop-i : goal.invariant-loop-i
invariant-loop-i l = Made (λ k. get_or l.from k (pos 0)) (pos 0) (length l.from) l.to l.i × (l.i ≤ length l.to)
