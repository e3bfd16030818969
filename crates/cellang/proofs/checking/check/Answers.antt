use Prim.Native.Nat.{ℕ}
use mathlib.Core.Path.{sym, ap, ◌∙◌}
use Rattle.program.specs.Refusal.{refusal}
use Rattle.grammar.specs.Checking.{check}
use Rattle.cellang.proofs.StoreLaws.{turned_reply, nothing_read, read_stored}
use Rattle.cellang.proofs.checking.check.Goals as goal

pub returns-then-not-row_fits : goal.returns-then-not-row_fits
returns-then-not-row_fits c = nothing_read check _ c.args.list.now _ _ (sym c.row_fits.ensures.fits ∙ c.if-not-row_fits.true) (ap (λ (n : ℕ). refusal n 0) c.number.ensures ∙ turned_reply _)

pub returns : goal.returns
returns c =
    let h = c.check-reply.ensures in
    read_stored check _ c.args.list.now _ _ (sym c.row_fits.ensures.fits ∙ c.if-not-row_fits.false) h.reply h.words h.names c.store_row.ensures
