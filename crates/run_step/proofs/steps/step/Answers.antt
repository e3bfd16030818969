use mathlib.Core.Path.{sym, ◌∙◌}
use borrow.Author.Rules.{rules}
use Rattle.run_step.proofs.StepLaws.{stepped_done, stepped_fault}
use Rattle.run_step.proofs.steps.step.Goals as goal

pub returns-then-is_ok : goal.returns-then-is_ok
returns-then-is_ok c =
    let p = c.requires in
    let f = c.evaluate_marked-done.ensures in
    let x = c.exchange_marked.ensures in
    stepped_done p.shaped p.marks_fit (λ q h. h) f (sym c.is_ok.ensures.value ∙ c.if-is_ok.true) x.0 x.1 (search rules)

pub returns-else-is_ok : goal.returns-else-is_ok
returns-else-is_ok c =
    let p = c.requires in
    stepped_fault p.shaped p.marks_fit (λ q h. h) c.evaluate_marked-done.ensures (sym c.is_ok.ensures.value ∙ c.if-is_ok.false) (search rules)
