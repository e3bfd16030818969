use native.Mathlib.Omega.{arith}
use Rattle.tool_reply_line.proofs.Lines.{item_end, refused_end, spells_accepted, spells_refused}
use Rattle.tool_reply_line.proofs.write_spelled.Goals as goal

pub returns-then-number-eq0 : goal.returns-then-number-eq0
returns-then-number-eq0 c =
    let args = c.args in
    let if1 = c.if-number-eq0 in
    let put_text = c.put_text in
    spells_accepted args.number args.place args.stands args.start args.len if1.true put_text.ensures

pub put_item-b-requires : goal.put_item-b-requires
put_item-b-requires c =
    let args = c.args in
    omega (arith, refused_end args.number args.place c.put_refused-a.ensures, c.put_refused-a.auto.line)

pub put_item-c-requires : goal.put_item-c-requires
put_item-c-requires c =
    let args = c.args in
    let put_item = c.put_item-b in
    omega (arith, refused_end args.number args.place c.put_refused-a.ensures, c.put_refused-a.auto.line, item_end args.stands put_item.ensures, put_item.auto.line)

pub put_item-d-requires : goal.put_item-d-requires
put_item-d-requires c =
    let args = c.args in
    let put_item = c.put_item-b in
    let put-item2 = c.put_item-c in
    omega (arith, refused_end args.number args.place c.put_refused-a.ensures, c.put_refused-a.auto.line, item_end args.stands put_item.ensures, put_item.auto.line, item_end args.start put-item2.ensures, put-item2.auto.line)

pub put_byte-requires : goal.put_byte-requires
put_byte-requires c =
    let args = c.args in
    let put_item = c.put_item-b in
    let put-item2 = c.put_item-c in
    let put-item3 = c.put_item-d in
    omega (arith, refused_end args.number args.place c.put_refused-a.ensures, c.put_refused-a.auto.line, item_end args.stands put_item.ensures, put_item.auto.line, item_end args.start put-item2.ensures, put-item2.auto.line, item_end args.len put-item3.ensures, put-item3.auto.line)

pub returns : goal.returns
returns c =
    let args = c.args in
    let if1 = c.if-number-eq0 in
    let put_item = c.put_item-b in
    let put-item2 = c.put_item-c in
    let put-item3 = c.put_item-d in
    let put_byte = c.put_byte in
    spells_refused args.number args.place args.stands args.start args.len if1.false c.put_refused-a.ensures put_item.ensures put-item2.ensures put-item3.ensures put_byte.ensures
