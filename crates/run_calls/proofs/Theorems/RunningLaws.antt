-- What an admitted run has, and what a run gives by whether it is admitted.
use mathlib.Core.Path.{◌≡◌, refl, sym, ap, ◌∙◌}
use mathlib.Core.Bool.{Bool, true, false}
use mathlib.Core.Option.{Option, none}
use Prim.Native.Nat.{ℕ}
use native.Mathlib.Omega.{arith}
use lib.Dec.{eqb}
use borrow.Author.Tests.{eqb-true, eqb-false, eq-eqb, ne_eqb}
use Rattle.program.specs.Syntax.{Program}
use Rattle.run_meaning.specs.Admission.{admission}
use Rattle.run_meaning.specs.Report.{Manner, refused}
use Rattle.list_meaning.specs.Lines.{said}
use Rattle.list_meaning.specs.ListChecking.{Turned, Verdict, limits_of, check_list, admission_with}
use Rattle.list_meaning.specs.Promises.Passing.{LinePasses}
use Rattle.run_calls.specs.Running.{Asked, good_counts, admitted, report_of, run}

-- ---- the run is refused with 20 to 24, or the list decides

abbrev pub turned : ℕ → ℕ → ℕ → Turned
turned number place line = record { number = number; place = place; line = line }

module _ (p : Program) (flag : Option ℕ) (q : Asked) where
  abbrev verdict_of : Verdict
  verdict_of = check_list (limits_of p flag q.request) q.values

  -- whether the counts fit, if there are any
  abbrev counts_fit : Bool
  counts_fit = good_counts p q.request.sizes q.counts

  passed_on : (admission p q.request).number ≡ 0 → admission_with p flag q.request q.values ≡ turned verdict_of.number 0 verdict_of.line
  unfolding admission_with
  passed_on e = rw (eq-eqb (admission p q.request).number 0 e, admission_with)

  turned_first : ((admission p q.request).number ≡ 0 → ⊥) → admission_with p flag q.request q.values ≡ turned (admission p q.request).number (admission p q.request).place 0
  unfolding admission_with
  turned_first d = rw (ne_eqb (admission p q.request).number 0 d, admission_with)

  pub list_decides : (admission p q.request).number ≡ 0 → counts_fit ≡ true → admitted p flag q ≡ turned verdict_of.number 0 verdict_of.line
  unfolding admitted
  list_decides e c = rw (eq-eqb (admission p q.request).number 0 e, c, admitted) (passed_on e)

  pub counts_refused : (admission p q.request).number ≡ 0 → counts_fit ≡ false → admitted p flag q ≡ turned 61 0 0
  unfolding admitted
  counts_refused e c = rw (eq-eqb (admission p q.request).number 0 e, c, admitted)

  pub refused_first : ((admission p q.request).number ≡ 0 → ⊥) → admitted p flag q ≡ turned (admission p q.request).number (admission p q.request).place 0
  unfolding admitted
  refused_first d = rw (ne_eqb (admission p q.request).number 0 d, admitted) (turned_first d)

  -- ---- an admitted run

  pub request_admitted : (admitted p flag q).number ≡ 0 → (admission p q.request).number ≡ 0
  request_admitted e = by (eqb (admission p q.request).number 0) refl
    where
      by : (b : Bool) → eqb (admission p q.request).number 0 ≡ b → (admission p q.request).number ≡ 0
      by true t = eqb-true _ 0 t
      by false t = ap (λ (x : Turned). x.number) (sym (refused_first (eqb-false _ 0 t))) ∙ e

  pub counts_admitted : (admitted p flag q).number ≡ 0 → counts_fit ≡ true
  counts_admitted e = by counts_fit refl
    where
      by : (b : Bool) → counts_fit ≡ b → b ≡ true
      by true t = refl
      by false t = absurd (let z : ◌≡◌ {A = ℕ} 61 0 = ap (λ (x : Turned). x.number) (sym (counts_refused (request_admitted e) t)) ∙ e in omega arith)

  pub list_passes : (admitted p flag q).number ≡ 0 → LinePasses (limits_of p flag q.request) none 1 (said q.values)
  unfolding check_list
  list_passes e = record { is = ap (λ (x : Turned). x.number) (sym (list_decides (request_admitted e) (counts_admitted e))) ∙ e }

  pub all_admit : (admission p q.request).number ≡ 0 → counts_fit ≡ true → LinePasses (limits_of p flag q.request) none 1 (said q.values) → (admitted p flag q).number ≡ 0
  unfolding check_list
  all_admit e c pass = ap (λ (x : Turned). x.number) (list_decides e c) ∙ pass.is

  -- ---- what a run gives

  pub run_admitted : (manner : Manner) → (admitted p flag q).number ≡ 0 → run manner p flag q ≡ report_of manner p q
  unfolding run
  run_admitted manner e = rw (eq-eqb (admitted p flag q).number 0 e, run)

  pub run_refused : (manner : Manner) → ((admitted p flag q).number ≡ 0 → ⊥) → run manner p flag q ≡ refused (admitted p flag q).number (admitted p flag q).place (admitted p flag q).line q.request.grid
  unfolding run
  run_refused manner d = rw (ne_eqb (admitted p flag q).number 0 d, run)
