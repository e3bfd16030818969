use Rattle.tool_reply_line.proofs.Lines.{wrote_item}
use Rattle.tool_reply_line.proofs.put_item.Goals as goal

pub returns : goal.returns
returns c =
    let fits = c.ranges in
    let put_byte = c.put_byte-behind in
    let put-digits = c.put_digits in
    wrote_item fits.n.fits put_byte.ensures put-digits.ensures
