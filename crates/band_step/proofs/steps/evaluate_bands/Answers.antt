use native.Mathlib.Omega.{arith}
use native.Mathlib.Numerals.{add-one}
use borrow.Author.Rules.{rules}
use Rattle.band_step.proofs.AllBands.{under_start, under_next, under_grounds, under_fits, under_more, under_cell, under_stop, under_done}
use Rattle.band_step.proofs.steps.evaluate_bands.Goals as goal

pub loop-k-init : goal.loop-k-init
loop-k-init c = under_start _ _ _ c.requires.0 c.requires.1 _

pub bounds-plan-k-in-loop-k : goal.bounds-plan-k-in-loop-k
bounds-plan-k-in-loop-k c = omega (arith, (under_next _ _ _ c.requires.0 c.requires.1 c.loop-k.invariant c.loop-k-test.true).more)

pub evaluate_band-band-requires : goal.evaluate_band-band-requires
evaluate_band-band-requires c = (under_grounds _ _ _ c.requires.0 c.requires.1 c.loop-k.invariant c.loop-k-test.true, under_fits _ _ _ c.requires.0 c.requires.1 c.loop-k.invariant c.loop-k-test.true (add-one _))

pub overflow_mul-result : goal.overflow_mul-result
overflow_mul-result c = let a = under_cell _ _ _ c.requires.0 c.requires.1 c.loop-k.invariant c.loop-k-test.true (add-one _) c.evaluate_band-band.ensures c.in-Err.is in search rules

pub overflow_cast-result : goal.overflow_cast-result
overflow_cast-result c = let a = under_cell _ _ _ c.requires.0 c.requires.1 c.loop-k.invariant c.loop-k-test.true (add-one _) c.evaluate_band-band.ensures c.in-Err.is in search rules

pub overflow_add-result : goal.overflow_add-result
overflow_add-result c = let a = under_cell _ _ _ c.requires.0 c.requires.1 c.loop-k.invariant c.loop-k-test.true (add-one _) c.evaluate_band-band.ensures c.in-Err.is in search rules

pub returns-in-Err : goal.returns-in-Err
returns-in-Err c = under_stop _ _ _ c.requires.0 c.requires.1 c.loop-k.invariant c.loop-k-test.true (add-one _) c.evaluate_band-band.ensures c.in-Err.is

pub loop-k-preserved : goal.loop-k-preserved
loop-k-preserved c = under_more _ _ _ c.requires.0 c.requires.1 c.loop-k.invariant c.loop-k-test.true (add-one _) c.evaluate_band-band.ensures (search rules) (search rules) c.in_default.is (omega arith)

pub returns : goal.returns
returns c = under_done _ _ _ c.requires.0 c.requires.1 c.loop-k.invariant c.loop-k-test.false
