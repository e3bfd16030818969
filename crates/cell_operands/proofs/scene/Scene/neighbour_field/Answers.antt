use native.Mathlib.Omega.{arith}
use Prim.Native.Nat.{◌<◌, ◌+◌}
use lib.ListN.{length, take}
use Rattle.automaton.specs.Shape.{product}
use Rattle.automaton.proofs.Theorems.GridLaws.{cell_room}
use Rattle.cell_meaning.specs.Links.{table_of}
use Rattle.cell_operands.proofs.PrimaryLaws.{ready_inside, neighbour_is}
use Rattle.cell_operands.proofs.NeighbourLaws.{total_small}
use Rattle.cell_operands.proofs.scene.Scene.neighbour_field.Goals as goal

pub neighbour_number-cell-requires : goal.neighbour_number-cell-requires
neighbour_number-cell-requires c =
    let r = c.self.invariant in
    (r.table, r.tokens, r.loops, omega (arith, c.requires), r.dims, r.shaped.cells, ready_inside r)

pub field_of-requires : goal.field_of-requires
field_of-requires c =
    let s = c.self.inside in
    let r = c.self.invariant in
    let l : c.neighbour_number-cell.result < product s.sizes.now = rw c.neighbour_number-cell.ensures
    (total_small (table_of s.words.now s.site.tokens (length s.sizes.now)) (take s.depth c.args.index.now) s.sizes.now s.point.now (ready_inside r) (c.args.at + 1))
    in
    cell_room _ _ _ _ l r.shaped.entries

pub returns : goal.returns
returns c =
    rw (← c.self.view_is) (rw (← c.word_at-field.ensures) (neighbour_is c.self.invariant _ _ _ c.neighbour_number-cell.ensures c.field_of.ensures))
