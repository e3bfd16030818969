use Rattle.tool_reply_line.proofs.Lines.{wrote_byte}
use Rattle.tool_reply_line.proofs.put_byte.Goals as goal

pub returns : goal.returns
returns c =
    let pre = c.requires in
    wrote_byte _ _ _ (pre)
