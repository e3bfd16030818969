use Rattle.std.proofs.Common.{◌≡◌, ◌/◌, map, rules}
use Rattle.std.proofs.lemmas.List.Edits.{map_over_more}
use Rattle.std.proofs.lemmas.List.{take_all, drop_all}
use Rattle.run_marking.proofs.MarkLaws.{halved}
use Rattle.run_marking.proofs.marks.halve.Goals as goal

pub loop-mark-preserved : goal.loop-mark-preserved
loop-mark-preserved c = search (rules, map_over_more (λ x. x / 2))

pub returns : goal.returns
returns c =
    let all : c.loop-mark.marks ≡ map (λ x. x / 2) c.args.marks.now = search (rules, take_all, drop_all) in
    rw all (halved c.args.marks.now)
