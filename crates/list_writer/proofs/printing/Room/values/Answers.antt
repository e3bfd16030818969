use native.Mathlib.Omega.{arith}
use mathlib.Core.Path.{refl}
use lib.ListN.{get_or}
use lib.Dec.{eqb}
use lib.IntN.{pos}
use borrow.Author.Rules.{rules}
use Rattle.list_writer.proofs.PrintingLaws.{field_read, separator_length, fields_start, fields_bound, fields_again, fields_end}
use Rattle.list_writer.proofs.printing.Room.values.Goals as goal

pub loop-k-init : goal.loop-k-init
loop-k-init c = (fields_start c.args.flag c.args.values.now _ _, refl)

pub separator-requires : goal.separator-requires
separator-requires c = omega (arith, fields_bound c.args.flag c.args.values.now (omega arith) c.loop-k.invariant.0)

pub field-requires : goal.field-requires
field-requires c =
    omega (arith, fields_bound c.args.flag c.args.values.now (omega arith) c.loop-k.invariant.0, c.separator.ensures.puts.end, separator_length c.loop-k.k)

pub loop-k-preserved : goal.loop-k-preserved
loop-k-preserved c =
    (fields_again c.args.flag c.args.values.now c.loop-k.k c.loop-k-test.true c.loop-k.invariant.0 c.separator.ensures.puts (field_read (eqb c.loop-k.k c.args.flag) (get_or c.args.values.now c.loop-k.k (pos 0)) (search rules) c.field.ensures.puts), search rules)

pub returns-clause-puts : goal.returns-clause-puts
returns-clause-puts c = fields_end c.args.flag c.args.values.now c.loop-k.k c.loop-k-test.false c.loop-k.invariant.0
