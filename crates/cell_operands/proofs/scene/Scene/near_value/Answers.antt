use native.Mathlib.Omega.{arith}
use mathlib.Core.Path.{refl}
use Rattle.cell_operands.proofs.PrimaryLaws.{ready_inside}
use Rattle.cell_operands.proofs.NotedLaws.{near_offsets, near_room, near_small, near_leaf}
use Rattle.cell_operands.proofs.scene.Scene.near_value.Goals as goal

pub noted_number-cell-requires : goal.noted_number-cell-requires
noted_number-cell-requires c =
    let pre = rw (← c.self.view_is) at c.requires in
    let args = c.args in
    let r = c.self.invariant in
    (omega (arith, r.tokens, pre.0), r.dims, r.shaped.cells, ready_inside r, near_offsets r args.vars.now args.index.now _ pre.0 pre.1)

pub entry_of-requires : goal.entry_of-requires
entry_of-requires c =
    let pre = rw (← c.self.view_is) at c.requires in
    let args = c.args in
    let leaf-word-ensures = c.leaf_word-which.ensures in (
      near_room c.self.invariant args.vars.now args.index.now _ pre.0 refl leaf-word-ensures c.noted_number-cell.ensures,
      near_small c.self.invariant args.vars.now args.index.now _ pre.0 refl leaf-word-ensures pre.1,
    )

pub returns : goal.returns
returns c =
    let pre = rw (← c.self.view_is) at c.requires in
    let args = c.args in
    rw (← c.self.view_is) (near_leaf c.self.invariant args.vars.now args.index.now _ pre.0 refl c.leaf_word-which.ensures c.noted_number-cell.ensures pre.1 c.entry_of.ensures)
