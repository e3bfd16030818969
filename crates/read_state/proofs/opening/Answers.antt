use Rattle.read_state.proofs.Leaves.{opened, unopened}
use Rattle.read_state.proofs.opening.Goals as goal

pub returns-then-free : goal.returns-then-free
returns-then-free c =
    let pre = c.requires in
    let if1 = c.if-free in
    let moved = c.moved in
    opened if1.true pre.2 moved.ensures

pub returns : goal.returns
returns c =
    let if1 = c.if-free in
    let refuse = c.refuse in
    unopened if1.false refuse.ensures
