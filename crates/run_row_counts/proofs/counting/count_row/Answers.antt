use Prim.Native.Nat.{◌+◌, ◌-◌, ◌*◌}
use native.Mathlib.Omega.{arith}
use mathlib.Core.Path.{◌≡◌, refl, ap, ◌∙◌}
use Rattle.run_row_counts.proofs.CountLaws.{zeros_from, one_counted}
use Rattle.run_row_counts.proofs.counting.count_row.Goals as goal

pub loop-cell-preserved : goal.loop-cell-preserved
loop-cell-preserved c =
    let l = c.loop-cell in
    let here : l.cell ≡ c.args.from + (l.cell - c.args.from) = omega arith in
    let next : l.cell - c.args.from + 1 ≡ l.cell + 1 - c.args.from = omega arith in (
      ap (λ n. l.count + n) c.zero_at-count.ensures
          ∙ one_counted _ _ _ _ (l.cell - c.args.from) _ l.count (ap (λ n. n * c.args.fields + c.args.field) here) l.invariant.0
          ∙ ap (zeros_from c.args.fields c.args.field c.args.from c.args.grid.now) next,
      omega arith,
      omega arith,
      refl,
    )
