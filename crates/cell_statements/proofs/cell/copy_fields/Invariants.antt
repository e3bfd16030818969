use Rattle.std.proofs.Common.{◌≡◌, ◌+◌, ◌*◌, ◌≤◌, length, get_or, pos}
use Rattle.automaton.specs.Promises.ListedLaws.{Made}
use Rattle.cell_statements.proofs.cell.copy_fields.Given as goal

-- so many fields are copied
abbrev pub invariant-loop-k : goal.invariant-loop-k
invariant-loop-k l =
    (l.k ≤ l.fields) × Made (λ i. get_or l.grid (l.cell * length l.fn.next + i) (pos 0)) (pos 0) (length l.fn.next) l.next l.k
    × (l.fields ≡ length l.fn.next) × (l.from ≡ l.cell * length l.fn.next)
