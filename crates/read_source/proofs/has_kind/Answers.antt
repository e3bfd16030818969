use native.Mathlib.Omega.{arith}
use mathlib.Core.Path.{◌≡◌, refl}
use Rattle.grammar.specs.Source.{has_kind}
use Rattle.read_source.proofs.Tables.{seen, unseen_next}
use Rattle.read_source.proofs.has_kind.Goals as goal

pub loop-i-init : goal.loop-i-init
unfolding has_kind
loop-i-init c = refl

pub returns-then-words-i : goal.returns-then-words-i
returns-then-words-i c = seen _ _ c.loop-i.i _ c.loop-i-test.true c.if-words-i.true

pub loop-i-preserved : goal.loop-i-preserved
loop-i-preserved c = unseen_next _ _ _ c.loop-i.invariant c.if-words-i.false

pub returns : goal.returns
returns c = let e : c.loop-i.i ≡ c.args.n = omega (arith, c.loop-i.auto.i-end, c.loop-i-test.false) in rw (← e) c.loop-i.invariant
