use Rattle.read_state.proofs.Leaves.{forbidden, allowed}
use Rattle.read_state.proofs.forbid.Goals as goal

pub returns-then-t-kind : goal.returns-then-t-kind
returns-then-t-kind c =
    let token_at = c.token_at-t in
    let if1 = c.if-t-kind in
    let refuse = c.refuse in
    forbidden _ _ token_at.ensures if1.true refuse.ensures

pub returns : goal.returns
returns c =
    let pre = c.requires in
    let token_at = c.token_at-t in
    let if1 = c.if-t-kind in
    allowed _ _ token_at.ensures if1.false pre.2
