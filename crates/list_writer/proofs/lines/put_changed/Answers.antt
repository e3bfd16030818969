use mathlib.Core.Option.{some}
use native.Mathlib.Omega.{arith}
use Rattle.list_writer.proofs.LineLaws.{same_put, changed_put}
use Rattle.list_writer.proofs.lines.put_changed.Goals as goal

pub returns-then-not-differs-clause-puts : goal.returns-then-not-differs-clause-puts
returns-then-not-differs-clause-puts c =
    same_put c.requires.0.0 (omega (arith, c.requires.0.1)) (some c.args.change.now.flag) c.differs.ensures c.if-not-differs.true _ _

pub returns-clause-puts : goal.returns-clause-puts
returns-clause-puts c =
    changed_put c.requires.0.0 (omega (arith, c.requires.0.1)) (some c.args.change.now.flag) c.differs.ensures c.if-not-differs.false c.set_point.ensures c.put_line.ensures.puts
