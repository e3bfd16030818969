use Rattle.std.proofs.Common.{rules, ◌≡◌, ◌+◌, ◌<◌, length, pos, ℕ, List, get_or, ℤ, sym, ap, ap₂, ◌∙◌, arith, to_z, of_z, w32}
use Rattle.api_comparison.specs.Differences.{Difference}
use Rattle.api_comparison.specs.Promises.Comparing.{ComparesEntry}
use Rattle.api_comparison.proofs.LengthLaws.{fitting_lengths}
use Rattle.api_comparison.proofs.DifferenceLaws.{one_more_at_most, room_to_be, differences_from, same_total, same_room, none_from, none_to_come, all_to_come, not_compared, all_compared}
use Rattle.api_comparison.proofs.compare.Goals as goal

pub returns-then-not-can_compare : goal.returns-then-not-can_compare
returns-then-not-can_compare c = not_compared _ _ _ _ (sym c.if-not-can_compare.ensures)

pub loop-i-init : goal.loop-i-init
loop-i-init c =
    let fits = fitting_lengths _ _ _ _ (sym c.if-not-can_compare.ensures) in
    record { room_length = fits.thirds; within = omega arith; few = omega arith; all_counted = omega arith; room_is = all_to_come c.args.k _ c.args.room.now fits.thirds }

pub bounds-right-i : goal.bounds-right-i
bounds-right-i c = omega (arith, (fitting_lengths _ _ _ _ (sym c.if-not-can_compare.ensures)).alike)

pub compare_entry-total-requires : goal.compare_entry-total-requires
compare_entry-total-requires c =
    (c.loop-i.invariant.room_length, omega (arith, (fitting_lengths _ _ _ _ (sym c.if-not-can_compare.ensures)).short), omega arith)

pub loop-i-preserved : goal.loop-i-preserved
loop-i-preserved c =
    let left = c.args.left.now in
    let right = c.args.right.now in
    let loop = c.loop-i in
    let p : to_z w32 (of_z w32 (get_or left loop.i (pos 0))) ≡ get_or left loop.i (pos 0) = search rules in
    let q : to_z w32 (of_z w32 (get_or right loop.i (pos 0))) ≡ get_or right loop.i (pos 0) = search rules in
    let entry : ComparesEntry c.args.k loop.total loop.i (get_or left loop.i (pos 0)) (get_or right loop.i (pos 0)) loop.room c.compare_entry-total.result c.compare_entry-total.new.room = rw (p, q) at c.compare_entry-total.ensures in
    let l : loop.i < length left = omega arith in
    let r : loop.i < length right = omega (arith, (fitting_lengths _ _ _ _ (sym c.if-not-can_compare.ensures)).alike) in
    let behind = differences_from (loop.i + 1) left right in
    record {
      room_length = omega arith;
      within = omega arith;
      few = omega (arith, entry.total, one_more_at_most loop.total (get_or left loop.i (pos 0)) (get_or right loop.i (pos 0)));
      all_counted = ap (λ (m : ℕ). m + length behind) entry.total ∙ same_total left right loop.i l r loop.total ∙ loop.invariant.all_counted;
      room_is = ap₂ (λ (m : ℕ) (room : List ℤ). room_to_be c.args.k m behind room) entry.total entry.room_is ∙ same_room left right loop.i l r c.args.k loop.total loop.room ∙ loop.invariant.room_is;
    }

pub overflow_cast-result : goal.overflow_cast-result
overflow_cast-result c = omega (arith, (fitting_lengths _ _ _ _ (sym c.if-not-can_compare.ensures)).short)

pub returns : goal.returns
returns c =
    let left = c.args.left.now in
    let right = c.args.right.now in
    let loop = c.loop-i in
    let none = none_from left right loop.i (omega arith) in
    all_compared left right c.args.k c.args.room.now (sym c.if-not-can_compare.ensures)
    (omega (arith, loop.invariant.all_counted, ap length none))
    (sym (none_to_come c.args.k loop.total loop.room) ∙ ap (λ (ds : List Difference). room_to_be c.args.k loop.total ds loop.room) (sym none) ∙ loop.invariant.room_is)
