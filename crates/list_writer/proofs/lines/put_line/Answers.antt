use mathlib.Core.Option.{some}
use native.Mathlib.Omega.{arith}
use Rattle.list_meaning.specs.Writing.{shown}
use Rattle.list_writer.proofs.LineLaws.{numbers_length, values_length, line_put}
use Rattle.list_writer.proofs.lines.put_line.Goals as goal

pub put_between-requires : goal.put_between-requires
put_between-requires c =
    omega (arith, c.push.ensures.puts.end, c.numbers.ensures.puts.end, numbers_length c.args.point.now c.requires.0)

pub values-requires : goal.values-requires
values-requires c =
    (c.requires.1, omega (arith, c.push.ensures.puts.end, c.numbers.ensures.puts.end, c.put_between.ensures.puts.end, numbers_length c.args.point.now c.requires.0))

pub push-requires-2 : goal.push-requires-2
push-requires-2 c =
    omega (arith, c.push.ensures.puts.end, c.numbers.ensures.puts.end, c.put_between.ensures.puts.end, c.values.ensures.puts.end, numbers_length c.args.point.now c.requires.0, values_length (some c.args.flag) c.args.values.now c.requires.1)

pub returns-clause-puts : goal.returns-clause-puts
returns-clause-puts c =
    line_put c.args.point.now (shown (some c.args.flag) c.args.values.now) c.push.ensures.puts c.numbers.ensures.puts c.put_between.ensures.puts c.values.ensures.puts c.push-2.ensures.puts
