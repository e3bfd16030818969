use mathlib.Core.Path.{ap, ◌∙◌}
use native.Mathlib.Omega.{arith}
use Rattle.token.specs.Bytes.{kind_of}
use Rattle.token.proofs.Heads.{head_inside, head_past}
use Rattle.token.proofs.bytes.kind_at.Goals as goal

pub returns-in-Some : goal.returns-in-Some
returns-in-Some c =
    let l = c.in-Some.ensures.lookup in
    head_inside c.args.source.now c.args.i l.3.0 (c.kind_of.ensures ∙ ap kind_of (l.4 (omega arith) 0))

pub returns-in-None : goal.returns-in-None
returns-in-None c = head_past c.args.source.now c.args.i c.in-None.ensures.lookup.3
