use Rattle.run_place_marks.proofs.PlacingLaws.{step_is, step_ready, walking_start, walking_more, walking_grows, walking_fits}
use native.Mathlib.Omega.{arith}
use mathlib.Core.Path.{refl}
use borrow.Author.Rules.{rules}
use Rattle.run_place_marks.proofs.cell_at.Goals as goal

pub loop-k-init : goal.loop-k-init
loop-k-init c = walking_start _ _ _ _ c.requires

pub wrap_sum-requires : goal.wrap_sum-requires
wrap_sum-requires c =
    let l = c.loop-k in
    step_ready _ _ _ _ c.requires l.number l.k _ _ l.invariant (search rules) refl refl

pub overflow_mul-number : goal.overflow_mul-number
overflow_mul-number c = omega (arith, walking_grows _ _ _ _ c.requires c.loop-k.number c.loop-k.k c.loop-k.invariant (search rules))

pub overflow_add-number : goal.overflow_add-number
overflow_add-number c =
    let l = c.loop-k in
    let j = step_is _ _ _ _ c.requires l.k _ _ _ refl c.wrap_sum.ensures in
    omega (arith, walking_fits _ _ _ _ c.requires l.number l.k _ _ l.invariant (search rules) refl j)

pub loop-k-preserved : goal.loop-k-preserved
loop-k-preserved c =
    let l = c.loop-k in
    let j = step_is _ _ _ _ c.requires l.k _ _ _ refl c.wrap_sum.ensures in
    walking_more _ _ _ _ c.requires l.number l.k _ _ l.invariant (search rules) refl j
