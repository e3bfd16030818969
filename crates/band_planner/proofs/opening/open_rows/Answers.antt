use mathlib.Core.Path.{refl}
use Rattle.run_admission.proofs.Results.{passed}
use Rattle.band_planner.proofs.OpeningLaws.{unread, is, wrong_sizes, known_sizes, some_sizes, opens}
use Rattle.band_planner.proofs.opening.open_rows.Goals as goal

pub returns-in_err-rule : goal.returns-in_err-rule
returns-in_err-rule c =
    let y = c.in_err-rule.was in
    unread c.load.ensures.checks c.load.ensures.loads y (passed c.from_residual.ensures.1 y)

pub right_sizes-requires : goal.right_sizes-requires
right_sizes-requires c = (is c.load.ensures.checks c.load.ensures.loads c.in_ok-rule.was).sized.dims

pub returns-then-not-right_sizes : goal.returns-then-not-right_sizes
returns-then-not-right_sizes c =
    wrong_sizes c.load.ensures.checks c.load.ensures.loads c.in_ok-rule.was c.right_sizes.ensures c.if-not-right_sizes.true-raw c.new.ensures

pub survey-indices-requires : goal.survey-indices-requires
survey-indices-requires c =
    ((is c.load.ensures.checks c.load.ensures.loads c.in_ok-rule.was).sized, (known_sizes c.load.ensures.checks c.load.ensures.loads c.in_ok-rule.was c.right_sizes.ensures c.if-not-right_sizes.false-raw).many)

pub bounds-sizes-0 : goal.bounds-sizes-0
bounds-sizes-0 c =
    some_sizes c.load.ensures.checks c.load.ensures.loads c.in_ok-rule.was c.right_sizes.ensures c.if-not-right_sizes.false-raw

pub returns : goal.returns
returns c =
    opens c.load.ensures.checks c.load.ensures.loads c.in_ok-rule.was c.right_sizes.ensures c.if-not-right_sizes.false-raw c.survey-indices.ensures c.border_rows.ensures c.far_refusal.ensures refl
