use mathlib.Core.Path.{◌∙◌, ap, sym}
use Rattle.std.specs.Prelude.{Some}
use native.Mathlib.Omega.{arith}
use borrow.Author.Tests.{not-true, not-false}
use Rattle.spelling.proofs.Parting.{no_list, no_part, sixteen, listed_part, source_part}
use Rattle.spelling.proofs.spelling.Goals as goal

pub returns-then-not-is_built_in : goal.returns-then-not-is_built_in
returns-then-not-is_built_in c = no_list c.args.source.now c.args.list.now c.args.number c.args.place (sym c.is_built_in.ensures ∙ not-true _ c.if-not-is_built_in.true-raw)

pub slice_bounds-result-end-in-Some-Listed : goal.slice_bounds-result-end-in-Some-Listed
slice_bounds-result-end-in-Some-Listed c = let h = c.part_at.ensures.in_list _ _ (c.in-Some-Listed.is ∙ ap Some c.in-Some-Listed.field-0-is) in omega (arith, h.0, h.1, sixteen c.args.source.now c.args.list.now c.args.number c.args.place (sym c.is_built_in.ensures ∙ not-false _ c.if-not-is_built_in.false-raw) c.part_at.ensures)

pub returns-in-Some-Listed : goal.returns-in-Some-Listed
returns-in-Some-Listed c = listed_part c.args.source.now c.args.list.now c.args.number c.args.place (sym c.is_built_in.ensures ∙ not-false _ c.if-not-is_built_in.false-raw) c.part_at.ensures (c.in-Some-Listed.is ∙ ap Some c.in-Some-Listed.field-0-is)

pub returns-in-Some-Source : goal.returns-in-Some-Source
returns-in-Some-Source c = source_part c.args.source.now c.args.list.now c.args.number c.args.place (sym c.is_built_in.ensures ∙ not-false _ c.if-not-is_built_in.false-raw) c.part_at.ensures (c.in-Some-Source.is ∙ ap Some c.in-Some-Source.field-0-is)

pub returns-in-None : goal.returns-in-None
returns-in-None c = no_part c.args.source.now c.args.list.now c.args.number c.args.place (sym c.is_built_in.ensures ∙ not-false _ c.if-not-is_built_in.false-raw) c.part_at.ensures c.in-None.is
