use native.Mathlib.Omega.{arith}
use Rattle.tool_reply_line.proofs.Lines.{refused_end, says_accepted, says_refused}
use Rattle.tool_reply_line.proofs.write_line.Goals as goal

pub returns-then-number-eq0 : goal.returns-then-number-eq0
returns-then-number-eq0 c =
    let args = c.args in
    let if1 = c.if-number-eq0 in
    let put_text = c.put_text in
    says_accepted args.number args.place if1.true put_text.ensures

pub put_byte-requires : goal.put_byte-requires
put_byte-requires c =
    let args = c.args in
    omega (arith, refused_end args.number args.place c.put_refused-end.ensures, c.put_refused-end.auto.line)

pub returns : goal.returns
returns c =
    let args = c.args in
    let if1 = c.if-number-eq0 in
    let put_byte = c.put_byte in
    says_refused args.number args.place if1.false c.put_refused-end.ensures put_byte.ensures
