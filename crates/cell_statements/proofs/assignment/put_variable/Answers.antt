use mathlib.Core.Path.{◌≡◌}
use mir.Val.{to_z, of_z}
use mir.Syntax.{w32}
use Rattle.cell_statements.proofs.AssignmentLaws.{front_set}
use borrow.Author.Rules.{rules}
use Rattle.cell_statements.proofs.assignment.put_variable.Goals as goal

pub returns-then-which-scene : goal.returns-then-which-scene
returns-then-which-scene c =
    let args = c.args in
    let e : to_z w32 (of_z w32 args.v.n) ≡ args.v.n = search rules in
    rw (← c.scene.view_is) (rw e (front_set c.scene.inside.site.slots args.vars.now _ _ c.if-which-scene.true))
