use mathlib.Core.Path.{◌∙◌}
use Rattle.read_state.proofs.use_name.Goals as goal

pub returns : goal.returns
returns c =
    let put_word = c.put_word in
    let put-word2 = c.put_word-2 in
    let moved = c.moved in
    let m = moved.ensures in record { words = put-word2.ensures ∙ rw put_word.ensures; is = m.is; at = m.at; count = m.count }
