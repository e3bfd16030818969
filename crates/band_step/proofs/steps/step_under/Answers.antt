use mathlib.Core.Path.{sym, ◌∙◌}
use Rattle.run_step.proofs.StepLaws.{stepped_done, stepped_fault}
use Rattle.band_step.proofs.AllBands.{all_filled}
use borrow.Author.Rules.{rules}
use Rattle.band_step.proofs.steps.step_under.Goals as goal

pub returns-then-is_ok : goal.returns-then-is_ok
returns-then-is_ok c = stepped_done c.requires.0.shaped c.requires.2.marks_fit (λ p h. h.holds) (all_filled (λ p h. h.holds) c.requires.2 c.evaluate_bands-done.ensures) (sym c.is_ok.ensures.value ∙ c.if-is_ok.true) c.exchange_marked.ensures.0 c.exchange_marked.ensures.1 (search rules)

pub returns-else-is_ok : goal.returns-else-is_ok
returns-else-is_ok c = stepped_fault c.requires.0.shaped c.requires.2.marks_fit (λ p h. h.holds) (all_filled (λ p h. h.holds) c.requires.2 c.evaluate_bands-done.ensures) (sym c.is_ok.ensures.value ∙ c.if-is_ok.false) (search rules)
