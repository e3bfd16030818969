use Prim.Native.Nat.{◌*◌}
use mathlib.Core.Path.{refl}
use borrow.Author.Rules.{rules}
use Rattle.run_step.proofs.TurnLaws.{part_length, part_whole, turned}
use Rattle.run_step.proofs.cells.evaluate_into.Goals as goal

pub returns : goal.returns
returns c =
    let long = part_length (c.args.to * c.args.rule.fields) c.args.rule.fields c.args.scratch.now c.requires.part_fits in
    turned c.requires c.evaluate_counted.ensures refl (search rules) (part_whole _ _)
