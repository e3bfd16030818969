use Rattle.run_marking.proofs.NotingLaws.{noted_start, noted_more, noted_done}
use Rattle.run_marking.proofs.BoxLaws.{line_room, line_base, line_count, line_noted, wrapped}
use native.Mathlib.Omega.{arith}
use Rattle.run_marking.proofs.opening.note_lines.Goals as goal

pub loop-e-init : goal.loop-e-init
loop-e-init c = noted_start _ _

pub wrap_sum-j-requires : goal.wrap_sum-j-requires
wrap_sum-j-requires c =
    let p = c.requires in
    (p.0, omega (arith, c.loop-e-test.true, p.1), omega (arith, line_count _ _ _ _ p.4 (omega (arith, p.2)) _ p.0, p.5))

pub overflow_mul-base : goal.overflow_mul-base
overflow_mul-base c =
    let p = c.requires in
    omega (arith, line_base _ _ _ _ p.4 (omega (arith, p.2)) _ p.0, p.5)

pub overflow_add-base : goal.overflow_add-base
overflow_add-base c =
    let p = c.requires in
    omega (arith, line_base _ _ _ _ p.4 (omega (arith, p.2)) _ (wrapped _ c.wrap_sum-j.ensures (omega (arith, p.0))), p.5)

pub overflow_mul-base-in-loop-e : goal.overflow_mul-base-in-loop-e
overflow_mul-base-in-loop-e c =
    let p = c.requires in
    omega (arith, line_room _ _ _ _ p.4 _ (wrapped _ c.wrap_sum-j.ensures (omega (arith, p.0))), p.5)

pub note_line-requires : goal.note_line-requires
note_line-requires c =
    let p = c.requires in
    let len = c.loop-e.invariant.len in
    (p.2, p.3, omega (arith, line_room _ _ _ _ p.4 _ (wrapped _ c.wrap_sum-j.ensures (omega (arith, p.0))), len), omega (arith, p.5, len))

pub loop-e-preserved : goal.loop-e-preserved
loop-e-preserved c =
    let l = c.loop-e in
    noted_more _ _ l.marks _ l.e l.invariant (line_noted _ _ _ _ _ _ l.marks _ _ l.e c.wrap_sum-j.ensures c.note_line.ensures)

pub returns : goal.returns
returns c = let l = c.loop-e in noted_done _ _ l.marks l.e _ l.invariant (omega arith)
