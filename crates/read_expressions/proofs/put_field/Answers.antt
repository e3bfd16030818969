use mathlib.Core.Path.{refl}
use Rattle.grammar.specs.Expressions.{put_field}
use Rattle.read_state.proofs.Steps.{on, here, put_in}
use Rattle.read_expressions.proofs.put_field.Goals as goal

pub returns : goal.returns
unfolding put_field
returns c =
    let put_word = c.put_word in
    let put-word2 = c.put_word-2 in
    λ source ns scan. here _ (on _ (put_in _ 2 _ put_word.ensures) refl (λ _ _. put_in _ 3 _ put-word2.ensures))
