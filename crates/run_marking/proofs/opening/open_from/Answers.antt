use Prim.Native.Nat.{ℕ}
use mathlib.Core.Path.{sym, ap, ◌∙◌}
use mathlib.Core.List.{List}
use Rattle.run_marking.specs.Promises.Noting.{note_all}
use Rattle.run_marking.proofs.OpenLaws.{by_list, by_box}
use Rattle.run_marking.proofs.opening.open_from.Goals as goal

pub open_list-requires : goal.open_list-requires
open_list-requires c = (c.requires.0, c.requires.2, c.if-listed-lt257.true, c.requires.3, c.requires.4)

pub returns-then-listed-lt257 : goal.returns-then-listed-lt257
returns-then-listed-lt257 c = let a = c.args in c.open_list.ensures ∙ ap (λ (cs : List ℕ). note_all cs a.marks.now) (sym (by_list a.sizes.now a.bounds a.steps.now a.listed a.x c.if-listed-lt257.true))

pub open_box-requires : goal.open_box-requires
open_box-requires c = (c.requires.0, c.requires.1, c.requires.3, c.requires.4)

pub returns : goal.returns
returns c = let a = c.args in c.open_box.ensures ∙ ap (λ (cs : List ℕ). note_all cs a.marks.now) (sym (by_box a.sizes.now a.bounds a.steps.now a.listed a.x c.if-listed-lt257.false))
