use Prim.Native.Nat.{◌+◌, ◌*◌}
use native.Mathlib.Omega.{arith}
use mathlib.Core.Path.{◌∙◌}
use Rattle.token.specs.Scanning.{token_words}
use Rattle.token.proofs.Scans.{store}
use Rattle.token.proofs.scanning.write_token.Goals as goal

pub returns : goal.returns
unfolding token_words
returns c =
    let s = c.before.before.before.before.before.before.before in
    let a = s.args in
    c.put_four.ensures ∙ store a.words.now (4 * a.i) a.t.kind (a.t.start + 65536 * a.t.len) a.t.value 0 (omega (arith, s.requires.0, s.requires.1))
