use Rattle.run_marking.proofs.BoxLaws.{wrapped, boxed_first, boxed_room, boxed_lines, boxed_rest, rest_fit, line_done, lines_done, row_done, rows_done}
use lib.ListN.{length-drop, length-take, length, drop}
use Prim.Native.Nat.{◌-◌}
use mathlib.Core.Path.{refl}
use native.Mathlib.Omega.{arith}
use Rattle.run_marking.proofs.NotingLaws.{noted_start, noted_more}
use Rattle.run_marking.proofs.opening.+note_box.Goals as goal

pub overflow_mul-base : goal.overflow_mul-base
overflow_mul-base t c = omega (arith, boxed_room _ _ _ _ _ c.requires.0 refl, c.requires.0.few)

pub note_line-requires : goal.note_line-requires
note_line-requires t c =
    let p = c.requires.0 in
    (boxed_first _ _ _ _ _ p refl, c.requires.1.each 0 p.some_dims, boxed_room _ _ _ _ _ p refl, p.few)

pub returns-then-sizes-eq1 : goal.returns-then-sizes-eq1
returns-then-sizes-eq1 t c = line_done _ _ _ _ _ c.requires.0 refl _ _ c.if-sizes-eq1.true c.note_line.ensures

pub note_lines-requires : goal.note_lines-requires
note_lines-requires t c = boxed_lines _ _ _ _ _ c.requires.0 refl c.if-sizes-eq2.true refl c.requires.1

pub returns-then-sizes-eq2 : goal.returns-then-sizes-eq2
returns-then-sizes-eq2 t c = lines_done _ _ _ _ _ c.requires.0 refl _ _ c.if-sizes-eq2.true refl c.note_lines.ensures

pub loop-e-init : goal.loop-e-init
loop-e-init t c = (noted_start _ _, omega (arith, c.if-sizes-eq1.false, c.requires.0.some_dims))

pub wrap_sum-j-requires : goal.wrap_sum-j-requires
wrap_sum-j-requires t c =
    let p = c.requires.0 in (
      boxed_first _ _ _ _ _ p refl,
      omega (arith, c.loop-e-test.true, c.requires.1.each 0 p.some_dims),
      omega (arith, boxed_room _ _ _ _ _ p refl, p.few),
    )

pub overflow_mul-base-in-loop-e : goal.overflow_mul-base-in-loop-e
overflow_mul-base-in-loop-e t c = omega (arith, boxed_room _ _ _ _ _ c.requires.0 refl, c.requires.0.few)

pub overflow_add-base : goal.overflow_add-base
overflow_add-base t c =
    let p = c.requires.0 in
    omega (arith, boxed_room _ _ _ _ _ p refl, p.few, wrapped _ c.wrap_sum-j.ensures (omega (arith, boxed_first _ _ _ _ _ p refl)))

pub note_box-requires : goal.note_box-requires
note_box-requires t c =
    let p = c.requires.0 in
    let l = c.loop-e in
    let inside = wrapped _ c.wrap_sum-j.ensures (omega (arith, boxed_first _ _ _ _ _ p refl)) in (
      omega (arith, c.decreases, l.invariant.1, length-take (length c.args.sizes.now - 1) (drop 1 c.args.sizes.now), length-drop 1 c.args.sizes.now),
      rw l.invariant.0.len (boxed_rest _ _ _ _ _ p refl l.invariant.1 _ inside, rest_fit c.requires.1),
    )

pub loop-e-preserved : goal.loop-e-preserved
loop-e-preserved t c =
    let l = c.loop-e in
    (noted_more _ _ l.marks _ l.e l.invariant.0 (row_done _ _ _ _ _ c.requires.0 refl l.marks _ _ l.e c.wrap_sum-j.ensures c.note_box.ensures), l.invariant.1)

pub returns : goal.returns
returns t c =
    let l = c.loop-e in
    rows_done _ _ _ _ _ c.requires.0 refl _ l.marks l.e l.invariant.0 (omega arith)
