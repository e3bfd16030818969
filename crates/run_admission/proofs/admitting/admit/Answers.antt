use Prim.Native.Nat.{ℕ}
use mathlib.Core.Path.{sym, ap, ◌∙◌}
use borrow.Author.Tests.{eqb-false}
use Rattle.program.specs.Refusal.{refusal}
use Rattle.program.proofs.Reasons.{never_none}
use Rattle.run_admission.specs.Promises.Admitting.{number_told}
use Rattle.run_admission.proofs.AdmissionLaws.{read_times, asked_refused, far_refused, field_refused, admitted}
use Rattle.run_admission.proofs.Results.{passed}
use Rattle.run_admission.proofs.admitting.admit.Goals as goal

pub returns-in-Err : goal.returns-in-Err
returns-in-Err c =
    let told = ap number_told c.in-Err.is in
    asked_refused _ (read_times c.ranges.start c.ranges.steps c.refused_request.ensures) (λ k. eqb-false _ _ (never_none c.in-Err.reason) (sym told ∙ k)) (c.new.ensures ∙ ap (λ (n : ℕ). refusal n 0) (sym told))

pub returns-in-Some : goal.returns-in-Some
returns-in-Some c =
    far_refused _ (read_times c.ranges.start c.ranges.steps c.refused_request.ensures) (ap number_told c.in_default.is) c.survey-indices.ensures c.in-Some.is c.new-in-Some.ensures

pub returns-in_err-out_of_field : goal.returns-in_err-out_of_field
returns-in_err-out_of_field c =
    let e = c.in_err-out_of_field.was in
    field_refused _ (read_times c.ranges.start c.ranges.steps c.refused_request.ensures) (ap number_told c.in_default.is) c.survey-indices.ensures c.in_default-far.is c.out_of_field.ensures e
    (passed c.from_residual.ensures.1 e)

pub returns : goal.returns
returns c =
    admitted _ (read_times c.ranges.start c.ranges.steps c.refused_request.ensures) (ap number_told c.in_default.is) c.survey-indices.ensures c.in_default-far.is c.out_of_field.ensures _ c.in_ok-out_of_field.was
