-- The row of records is left as the call's contract says, and what is told agrees with the full run.
use mathlib.Core.Path.{◌≡◌, sym, ap, ◌∙◌}
use Rattle.program.specs.Refusal.{Refusal}
use Rattle.run_calls.specs.Calls.{Lent, memory, lent}
use Rattle.run_source.specs.Promises.Public.{manner_of}
use Rattle.run_source.specs.Promises.Sourcewise.{run_stopped, not_begun}
use Rattle.run_source.proofs.RunLaws.{read_times, unlisted_run, run_agrees, run_ranges}
use Rattle.api_records.specs.declared.Name.{Name}
use Rattle.cellang.specs.Left.{row_names}
use Rattle.cellang.proofs.StoreLaws.{no_row, run_stored}
use Rattle.cellang.proofs.running.run.Goals as goal

pub returns-then-not-row_fits : goal.returns-then-not-row_fits
returns-then-not-row_fits c =
    let a = c.args in
    let l : Lent Name = lent a.source.now a.list.now a.sizes.now (memory a.words.now a.names.now a.grid.now a.scratch.now a.marks.now a.counts.now) a.values.now a.start a.steps a.counted a.field in
    let left = unlisted_run row_names (manner_of a.manner a.marks.now) l (no_row a.list.now _ _ (sym c.row_fits.ensures.fits ∙ c.if-not-row_fits.true)) in
    let stop : c.from-then-not-row_fits.result ≡ record { number = 1; place = 0; line = 0; cell = 0; steps = 0; count = 0 } =
    c.from-then-not-row_fits.ensures ∙ ap not_begun (c.from.ensures ∙ ap (λ (x : Refusal). run_stopped x.number x.place 0) c.new.ensures) in
    rw stop (left, run_agrees row_names a.manner l left, run_ranges row_names (manner_of a.manner a.marks.now) l left)

pub returns : goal.returns
returns c =
    let a = c.args in
    let l : Lent Name = lent a.source.now a.list.now a.sizes.now (memory a.words.now a.names.now a.grid.now a.scratch.now a.marks.now a.counts.now) a.values.now a.start a.steps a.counted a.field in
    let left = run_stored _ _ a.list.now _ _ _ _ _ _ a.values.now a.start a.steps _ a.counted a.field (sym c.row_fits.ensures.fits ∙ c.if-not-row_fits.false)
    (read_times c.ranges.start c.ranges.steps c.run-report.ensures.run_leaves) c.store_row.ensures in
    (left, run_agrees row_names a.manner l left, run_ranges row_names (manner_of a.manner a.marks.now) l left)
