use Rattle.run_marking.proofs.PlaceLaws.{same_back, same_ahead, clipped_ready, counting_start, counting_more, counting_done}
use mathlib.Core.Path.{refl}
use native.Mathlib.Omega.{arith}
use Rattle.run_marking.proofs.opening.counts_of.Goals as goal

pub loop-k-init : goal.loop-k-init
loop-k-init c = counting_start _ _ _ refl

pub clipped-requires : goal.clipped-requires
clipped-requires c = clipped_ready _ _ c.requires c.loop-k.k (omega arith) refl

pub loop-k-preserved : goal.loop-k-preserved
loop-k-preserved c =
    let l = c.loop-k in
    counting_more _ _ l.counts l.k l.invariant (omega (arith, c.requires.dims)) refl (same_back _ _ c.requires l.k (omega arith) refl) (same_ahead _ _ c.requires l.k (omega arith) refl) c.clipped.ensures

pub returns : goal.returns
returns c = let l = c.loop-k in counting_done _ _ l.counts l.k l.invariant (omega arith)
