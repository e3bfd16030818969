use Prim.Native.Nat.{ℕ, ◌+◌, ◌*◌}
use native.Mathlib.Omega.{arith}
use mathlib.Core.Path.{◌≡◌, subst}
use lib.ListN.{length, get_or}
use lib.IntN.{pos}
use Rattle.automaton.specs.Grid.{cell_of}
use Rattle.automaton.specs.Promises.ListedLaws.{Made, made_done}
use Rattle.cell_statements.proofs.cell.copy_fields.Goals as goal

pub returns : goal.returns
unfolding cell_of
returns c =
    let old = c.args.next.now in
    let turn = c.loop-k in
    let copied : ℕ → Type 0 = Made (λ i. get_or c.args.grid.now (c.args.cell * length old + i) (pos 0)) (pos 0) (length old) turn.next in
    let e : turn.k ≡ length old = omega arith in
    made_done _ (pos 0) (length old) turn.next (subst copied e turn.invariant.1)
