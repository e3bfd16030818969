use Rattle.read_state.proofs.Leaves.{expected, unexpected}
use Rattle.read_state.proofs.expect.Goals as goal

pub returns-then-t-kind : goal.returns-then-t-kind
returns-then-t-kind c =
    let pre = c.requires in
    let token_at = c.token_at-t in
    let if1 = c.if-t-kind in
    let moved = c.moved in
    expected _ _ token_at.ensures if1.true pre.2 moved.ensures

pub returns : goal.returns
returns c =
    let token_at = c.token_at-t in
    let if1 = c.if-t-kind in
    let refuse = c.refuse in
    unexpected _ _ token_at.ensures if1.false refuse.ensures
