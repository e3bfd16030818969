use mathlib.Core.Path.{refl, ◌∙◌}
use Rattle.read_state.proofs.declare.Goals as goal

pub returns : goal.returns
returns c =
    let token_at = c.token_at-start in
    let write-entry = c.write_entry in
    record { words = write-entry.ensures ∙ rw token_at.ensures.is; is = refl; at = refl; count = refl; number = refl }
