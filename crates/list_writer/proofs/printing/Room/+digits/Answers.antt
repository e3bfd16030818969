use Prim.Native.Nat.{◌/◌}
use native.Mathlib.Omega.{arith}
use Rattle.tool_reply_line.proofs.Lines.{digits_length}
use Rattle.list_writer.proofs.PrintingLaws.{one_put, more_put}
use Rattle.list_writer.proofs.printing.Room.+digits.Goals as goal

pub returns-then-n-lt10-clause-puts : goal.returns-then-n-lt10-clause-puts
returns-then-n-lt10-clause-puts t c = one_put c.if-n-lt10.true c.push.ensures.puts

pub push-requires-2 : goal.push-requires-2
push-requires-2 t c =
    let args = c.args in
    omega (arith, (c.digits.ensures.puts.puts 8 (omega arith)).end, digits_length 8 (args.n / 10))

pub returns-clause-puts : goal.returns-clause-puts
returns-clause-puts t c =
    let more = c.if-n-lt10.false in
    let digits = c.digits.ensures.puts in
    more_put more digits c.push-2.ensures.puts
