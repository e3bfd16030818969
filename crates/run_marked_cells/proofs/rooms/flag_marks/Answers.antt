use Rattle.std.proofs.Common.{◌≡◌, ◌∙◌, ◌<◌, length, get_or, arith, rules}
use Rattle.std.proofs.lemmas.List.Edits.{map_over_more}
use Rattle.std.proofs.lemmas.List.{take_all, drop_all, get_or_default}
use Rattle.run_marked_cells.proofs.RoomLaws.{flag_of, flags}
use Rattle.run_marked_cells.proofs.rooms.flag_marks.Goals as goal

pub loop-mark-preserved : goal.loop-mark-preserved
loop-mark-preserved c =
    let l = c.loop-mark in
    let flag : c.from.result ≡ flag_of (get_or l.marks l.mark-index 0) = search rules in
    let within : l.mark-index < length l.marks = omega arith in
    rw flag (map_over_more flag_of c.args.marks.now l.marks l.mark-index _ (omega arith) l.invariant (get_or_default l.marks l.mark-index 0 _ within))

pub returns : goal.returns
returns c = search (rules, take_all, drop_all) ∙ flags c.args.marks.now
