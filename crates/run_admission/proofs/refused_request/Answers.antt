use borrow.Author.Rules.{rules}
use mathlib.Core.Path.{◌≡◌, ap₂, ◌∙◌}
use native.Mathlib.Omega.{arith}
use mir.Syntax.{w64}
use mir.Val.{to_z, of_z}
use mir.Facts.{to_z-of_z}
use Rattle.run_meaning.specs.Admission.{good_times}
use Rattle.run_admission.proofs.RequestLaws.{refuse_dims, refuse_cells, refuse_rooms, refuse_times, admit, cells_small}
use Rattle.run_admission.proofs.refused_request.Goals as goal

pub returns-then-sizes-rule : goal.returns-then-sizes-rule
returns-then-sizes-rule c =
    refuse_dims c.args.rule c.args.sizes.now c.args.entries c.args.scratch c.args.marks c.args.start c.args.steps
    c.if-sizes-rule.true

pub returns-then-n-eq0 : goal.returns-then-n-eq0
returns-then-n-eq0 c =
    refuse_cells c.args.rule c.args.sizes.now c.args.entries c.args.scratch c.args.marks c.args.start c.args.steps
    c.if-sizes-rule.false c.cells-n.ensures c.if-n-eq0.true

pub good_rooms-requires : goal.good_rooms-requires
good_rooms-requires c =
    let args = c.args in
    (omega (arith, c.cells-n.ensures, cells_small args.sizes.now), search rules)

pub returns-then-not-good_rooms : goal.returns-then-not-good_rooms
returns-then-not-good_rooms c =
    refuse_rooms c.args.rule c.args.sizes.now c.args.entries c.args.scratch c.args.marks c.args.start c.args.steps
    c.if-sizes-rule.false c.cells-n.ensures c.if-n-eq0.false
    c.good_rooms.ensures (c.if-not-good_rooms.true)

pub returns-then-not-good_times : goal.returns-then-not-good_times
returns-then-not-good_times c =
    let read_is : good_times (to_z w64 (of_z w64 c.args.start)) (to_z w64 (of_z w64 c.args.steps)) ≡ good_times c.args.start c.args.steps = ap₂ good_times (to_z-of_z c.ranges.start) (to_z-of_z c.ranges.steps) in
    refuse_times c.args.rule c.args.sizes.now c.args.entries c.args.scratch c.args.marks c.args.start c.args.steps
    c.if-sizes-rule.false c.cells-n.ensures
    c.if-n-eq0.false c.good_rooms.ensures
    (c.if-not-good_rooms.false)
    (c.good_times.ensures ∙ read_is) (c.if-not-good_times.true)

pub returns : goal.returns
returns c =
    let read_is : good_times (to_z w64 (of_z w64 c.args.start)) (to_z w64 (of_z w64 c.args.steps)) ≡ good_times c.args.start c.args.steps = ap₂ good_times (to_z-of_z c.ranges.start) (to_z-of_z c.ranges.steps) in
    admit c.args.rule c.args.sizes.now c.args.entries c.args.scratch c.args.marks c.args.start c.args.steps
    c.if-sizes-rule.false c.cells-n.ensures
    c.if-n-eq0.false c.good_rooms.ensures
    (c.if-not-good_rooms.false)
    (c.good_times.ensures ∙ read_is) (c.if-not-good_times.false)
