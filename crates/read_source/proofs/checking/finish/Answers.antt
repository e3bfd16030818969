use mathlib.Core.Path.{sym, ◌∙◌}
use Rattle.read_source.proofs.Finishing.{not_stop, other_stop, complained, ended}
use Rattle.read_source.proofs.checking.finish.Goals as goal
use Rattle.read_source.proofs.checking.finish.Goals.{then-t-ne-STOP-via-then-t-ne-STOP, then-t-ne-STOP-via-else-t-ne-STOP+then-t-number}

pub returns-then-t-ne-STOP : goal.returns-then-t-ne-STOP
returns-then-t-ne-STOP c =
    elim c.then-t-ne-STOP.branch [
      | then-t-ne-STOP-via-then-t-ne-STOP w ↦ not_stop _ _ _ c.token_at-t.ensures w.if-t-ne-STOP.true c.refuse.ensures
      | then-t-ne-STOP-via-else-t-ne-STOP+then-t-number w ↦
          other_stop _ _ _ c.token_at-t.ensures w.if-t-ne-STOP.false (λ e. w.if-t-number.true (e ∙ sym w.number.ensures)) c.refuse.ensures
    ]

pub returns-in-Some : goal.returns-in-Some
returns-in-Some c = complained _ _ _ c.token_at-t.ensures c.if-t-ne-STOP.false (c.if-t-number.false ∙ c.number.ensures) c.in-Some.is c.into.ensures

pub returns : goal.returns
returns c = ended _ _ _ c.token_at-t.ensures c.if-t-ne-STOP.false (c.if-t-number.false ∙ c.number.ensures) c.in_default.is
