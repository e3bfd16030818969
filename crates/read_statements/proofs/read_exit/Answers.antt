use Rattle.read_state.proofs.Steps.{on, here, returned, put_in, advanced}
use mathlib.Core.Path.{refl}
use Rattle.grammar.specs.Statements.{read_exit}
use Rattle.read_statements.proofs.read_exit.Goals as goal

pub returns : goal.returns
unfolding read_exit
returns c =
    let put_word = c.put_word in
    let moved = c.moved in
    let m = moved.ensures in
    record { gives = λ source scan ns. here _ (on _ (advanced m) refl (λ _ _. on _ (put_in _ _ _ put_word.ensures) refl (λ _ _. returned _ tt))); at = m.at; count = m.count }
