use native.Mathlib.Omega.{arith}
use borrow.Author.Rules.{rules}
use mathlib.Core.Path.{refl}
use Rattle.band_step.proofs.LendLaws.{lent_more, from_inside, lent_done, row_inside, room_inside}
use Rattle.band_step.proofs.lending.fill_room.Goals as goal

pub overflow_mul-width : goal.overflow_mul-width
overflow_mul-width c = let a = row_inside c.requires c.requires.a_row in search rules

pub overflow_mul-from : goal.overflow_mul-from
overflow_mul-from c = let a = row_inside c.requires (from_inside c.loop-k.invariant.0 (omega (arith, c.requires.a_row))) in search rules

pub copy_row-requires : goal.copy_row-requires
copy_row-requires c = record { source = row_inside c.requires (from_inside c.loop-k.invariant.0 (omega (arith, c.requires.a_row))); target = omega (arith, room_inside c.requires c.loop-k-test.true, c.loop-k.invariant.0.size) }

pub loop-k-preserved : goal.loop-k-preserved
loop-k-preserved c = (lent_more c.loop-k.invariant.0 (row_inside c.requires (from_inside c.loop-k.invariant.0 (omega (arith, c.requires.a_row)))) (omega (arith, room_inside c.requires c.loop-k-test.true, c.loop-k.invariant.0.size)) c.next_coordinate-next.ensures c.copy_row.ensures, omega arith)

pub returns : goal.returns
returns c = lent_done c.requires refl c.loop-k.invariant.0 c.loop-k.invariant.1 c.loop-k-test.false
