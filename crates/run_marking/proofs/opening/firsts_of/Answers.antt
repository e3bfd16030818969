use Rattle.run_marking.proofs.PlaceLaws.{same_ahead, first_ready, firsting_start, firsting_more, firsting_done}
use mathlib.Core.Path.{refl}
use native.Mathlib.Omega.{arith}
use Rattle.run_marking.proofs.opening.firsts_of.Goals as goal

pub loop-k-init : goal.loop-k-init
loop-k-init c = firsting_start _ _ _ _ refl

pub wrap_sum-requires : goal.wrap_sum-requires
wrap_sum-requires c = let l = c.loop-k in first_ready _ _ c.requires.0 l.k (omega arith) refl (c.requires.1.each l.k (omega arith))

pub loop-k-preserved : goal.loop-k-preserved
loop-k-preserved c =
    let l = c.loop-k in
    firsting_more _ _ _ l.firsts l.k l.invariant (omega (arith, c.requires.0.dims)) refl (same_ahead _ _ c.requires.0 l.k (omega arith) refl) c.wrap_sum.ensures

pub returns : goal.returns
returns c = let l = c.loop-k in firsting_done _ _ _ l.firsts l.k l.invariant (omega arith)
