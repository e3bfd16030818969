use native.Mathlib.Omega.{arith}
use borrow.Author.Rules.{rules}
use Prim.Native.Nat.{suc, ◌-◌}
use mathlib.Core.Path.{◌≡◌, sym, ap, ◌∙◌}
use Rattle.automaton.specs.Rows.{in_rows}
use Rattle.run_row_counts.specs.RowQueries.{row_reply}
use Rattle.run_row_counts.proofs.QueryLaws.{rows_fit, rows_refused, rows_answered, in_rows_more, in_no_rows}
use Rattle.run_row_counts.proofs.queries.zeros_in_rows.Goals as goal

pub returns-then-not-rows_within : goal.returns-then-not-rows_within
returns-then-not-rows_within c = rows_refused _ _ _ (sym c.if-not-rows_within.ensures)

pub slice_bounds-count-items-count : goal.slice_bounds-count-items-count
slice_bounds-count-items-count c = omega (arith, (rows_fit _ _ _ (sym c.if-not-rows_within.ensures)).order)

pub slice_bounds-count-items-start : goal.slice_bounds-count-items-start
slice_bounds-count-items-start c = omega (arith, (rows_fit _ _ _ (sym c.if-not-rows_within.ensures)).order)

pub slice_bounds-count-items-end : goal.slice_bounds-count-items-end
slice_bounds-count-items-end c = omega (arith, (rows_fit _ _ _ (sym c.if-not-rows_within.ensures)).inside)

pub loop-count-init : goal.loop-count-init
loop-count-init c = (in_no_rows c.args.counts.now c.args.first, omega arith)

pub loop-count-preserved : goal.loop-count-preserved
loop-count-preserved c =
    let l = c.loop-count in
    (in_rows_more c.args.counts.now c.args.first c.args.last l.count-index l.sum _ l.invariant.0 c.from-sum.ensures (search rules), search rules)

pub returns : goal.returns
returns c =
    let l = c.loop-count in
    let fit = rows_fit _ _ _ (sym c.if-not-rows_within.ensures) in
    let all : l.count-index ≡ suc c.args.last - c.args.first = search rules in
    ap (row_reply 0) (l.invariant.0 ∙ ap (in_rows c.args.counts.now c.args.first) all) ∙ rows_answered _ _ _ (sym c.if-not-rows_within.ensures)
