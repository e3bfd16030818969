use Rattle.std.proofs.lemmas.Iterator.{empty_from_Zip}
use Rattle.token.proofs.Words.{compare_all}
use Rattle.token.proofs.spelling.spells.Goals as goal

pub returns : goal.returns
returns c =
    let w = c.loop-b.invariant.2 in
    let e = empty_from_Zip c.loop-b.b-iterator c.next.new.self c.next.result c.in-None.is c.next.ensures.steps w.long in
    compare_all c.args.word.now c.args.letters.now w e.0 e.1
