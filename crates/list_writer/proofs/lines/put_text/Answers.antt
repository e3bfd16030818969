use native.Mathlib.Omega.{arith}
use mathlib.Core.Path.{refl}
use Rattle.tool_reply_line.proofs.Lines.{digits_length}
use Rattle.list_writer.proofs.LineLaws.{point_fits, text_put}
use Rattle.list_writer.proofs.lines.put_text.Goals as goal

pub push-requires : goal.push-requires
push-requires c = omega (arith, c.number.ensures.puts.end, digits_length 9 c.args.change.now.time)

pub put_cells-requires : goal.put_cells-requires
put_cells-requires c =
    (c.requires.0, point_fits c.requires.0.0 _ refl, omega (arith, c.number.ensures.puts.end, c.push.ensures.puts.end, digits_length 9 c.args.change.now.time))

pub returns-clause-puts : goal.returns-clause-puts
returns-clause-puts c =
    text_put _ _ _ _ _ c.args.change.now.time c.args.change.now.cells c.requires.0.1 c.number.ensures.puts c.push.ensures.puts c.put_cells.ensures.puts
