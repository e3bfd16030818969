use native.Mathlib.Omega.{arith}
use Rattle.tool_reply_line.proofs.Lines.{digits_length, wrote_one, wrote_last}
use Prim.Native.Nat.{◌/◌}
use Rattle.tool_reply_line.proofs.+put_digits.Goals as goal

pub overflow_add-n : goal.overflow_add-n
overflow_add-n t c = omega arith

pub overflow_cast-n : goal.overflow_cast-n
overflow_cast-n t c = omega arith

pub put_byte-requires : goal.put_byte-requires
put_byte-requires t c = omega arith

pub returns-then-n-lt10 : goal.returns-then-n-lt10
returns-then-n-lt10 t c = wrote_one c.if-n-lt10.true c.put_byte.ensures

pub put_digits-behind-requires : goal.put_digits-behind-requires
put_digits-behind-requires t c = (omega (arith, c.decreases, c.if-n-lt10.false), omega arith)

pub overflow_add-n-2 : goal.overflow_add-n-2
overflow_add-n-2 t c = omega arith

pub overflow_cast-n-2 : goal.overflow_cast-n-2
overflow_cast-n-2 t c = omega arith

pub put_byte-requires-2 : goal.put_byte-requires-2
put_byte-requires-2 t c =
    let args = c.args in
    omega
    (arith, (c.put_digits-behind.ensures 8 (omega arith)).end, digits_length 8 (args.n / 10), c.put_digits-behind.auto.line)

pub returns : goal.returns
returns t c =
    let if1-left = c.if-n-lt10.false in
    let put-digits-ensures = c.put_digits-behind.ensures in
    wrote_last if1-left put-digits-ensures c.put_byte-2.ensures
