use native.Mathlib.Omega.{arith}
use Rattle.tool_reply_line.proofs.Lines.{digits_end, wrote_refused}
use Rattle.tool_reply_line.proofs.put_refused.Goals as goal

pub put_text-c-requires : goal.put_text-c-requires
put_text-c-requires c =
    let fits = c.ranges in
    let put_text = c.put_text-a in
    let put-digits = c.put_digits-b in
    omega (arith, put_text.ensures.end, put_text.auto.line, digits_end fits.number.fits put-digits.ensures, put-digits.auto.line)

pub put_digits-requires : goal.put_digits-requires
put_digits-requires c =
    let fits = c.ranges in
    let put_text = c.put_text-a in
    let put-digits = c.put_digits-b in
    let put-text2 = c.put_text-c in
    omega (arith, put_text.ensures.end, put_text.auto.line, digits_end fits.number.fits put-digits.ensures, put-digits.auto.line, put-text2.ensures.end, put-text2.auto.line)

pub returns : goal.returns
returns c =
    let fits = c.ranges in
    let put_text = c.put_text-a in
    let put-digits = c.put_digits-b in
    let put-text2 = c.put_text-c in
    let put-digits2 = c.put_digits in
    wrote_refused fits.number.fits fits.place.fits put_text.ensures put-digits.ensures put-text2.ensures put-digits2.ensures
