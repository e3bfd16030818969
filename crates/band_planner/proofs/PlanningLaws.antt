-- The plan check and the planner, by the ways through their code.
use Prim.Native.Nat.{ℕ, ◌+◌, ◌-◌, ◌*◌, ◌<◌, ◌≤◌}
use native.Mathlib.Omega.{arith}
use mathlib.Core.Path.{◌≡◌, refl, sym, ap, ap₂, ◌∙◌, subst}
use mathlib.Core.Bool.{Bool, true, false, not, ◌&&◌}
use mathlib.Core.List.{List}
use lib.ListN.{length}
use lib.Dec.{eqb}
use borrow.Author.Tests.{eq-eqb, ne_eqb, lt-ltb, le-ltb, not-true, not-false}
use Rattle.std.specs.Prelude.{None, Some, Result, Ok, Err}
use Rattle.automaton.specs.Shape.{Bound}
use Rattle.automaton.specs.Bands.{plannable, longest, plan_of}
use Rattle.token.specs.Lexeme.{is_built_in}
use Rattle.program.specs.Syntax.{Program}
use Rattle.grammar.specs.Checking.{rooms_fit, read_source, words_after}
use Rattle.grammar.specs.Promises.Flat.{names_after}
use Rattle.cell_meaning.specs.Written.{written_in}
use Rattle.program.specs.Refusal.{Refusal, refusal, no_refusal}
use Rattle.run_meaning.specs.Admission.{too_far}
use Rattle.run_calls.specs.Calls.{NameForm, flat_names, SourceLent, source_fits, names_left}
use Rattle.run_admission.specs.Promises.Admitting.{refusal_told}
use Rattle.band_meaning.specs.OnSizes.{on_sizes, by_grid}
use Rattle.band_meaning.specs.Plans as plans
use Rattle.band_meaning.specs.Plans.{plan_right, plan_fits, check_plan, unplanned, put_plan, planned}
use Rattle.band_meaning.specs.PlanCalls.{check_plan_source, plan_check_left, planned_source, planner_left}
use Rattle.band_meaning.proofs.Theorems.PlanTheorems.{check_is, planned_is}
use Rattle.band_planner.specs.declared.opening.RowsOpened.{RowsOpened}
use Rattle.band_planner.specs.Promises.Borders.{border_of}
use Rattle.band_planner.specs.Promises.Plans.{WritesPlan}
use Rattle.band_planner.specs.Promises.Opening.{far_told, RowsOpen, OpensRows}
use Rattle.band_planner.specs.Promises.Planning.{planned_of, plan_or_none, ChecksSource, CheckLeaves, PlansSource, PlannerLeaves}
use Rattle.band_planner.proofs.OpeningLaws.{answered, numbered, by_reason}

-- ---- the planner's plan, or 59

module _ (n : ℕ) (border : Bound) (held : ℕ) (room : List ℕ) where
  pub no_plan : held ≤ border.back + border.ahead → {e : Refusal} → e ≡ refusal 59 0 → planned_of (Err e) room ≡ plan_or_none n border held room
  unfolding plannable
  no_plan l q = ap (λ (e : Refusal). planned_of (Err e) room) q ∙ sym (rw (le-ltb (border.back + border.ahead) held l, plan_or_none))

  pub a_plan : border.back + border.ahead < held → {most : ℕ} → most ≡ held - border.back - border.ahead → {count : ℕ} {room' : List ℕ} → WritesPlan n most room count room'
      → planned_of (Ok count) room' ≡ plan_or_none n border held room
  unfolding plannable plan_of put_plan
  a_plan l {most} e {count} {room'} w =
      let same : most ≡ held - (border.back + border.ahead) = omega (arith, e) in
      (λ i. record { number = 0; place = 0; bands = w.many i; room = w.room i })
      ∙ ap (λ (m : ℕ). put_plan (longest n n m 0) room) same ∙ sym (rw (lt-ltb (border.back + border.ahead) held l, plan_or_none))

-- ---- a source

module _ {fit : Bool} {source ws ns sizes : List ℕ} {o : Result RowsOpened Refusal} {ws' ns' : List ℕ} (x : OpensRows fit source ws ns sizes o ws' ns') where
  -- the source or the sizes are refused
  module _ {e : Refusal} (z : o ≡ Err e) (held : ℕ) where
    pub check_closed : (plan : List ℕ) {r : Result (Unit {0}) Refusal} → r ≡ Err e → ChecksSource fit source sizes held plan ws ns r ws' ns'
    unfolding check_plan_source
    check_closed plan q =
        record { reply = ap refusal_told q ∙ sym (ap (by_grid refusal (λ p. check_plan p sizes held plan)) (x.closed e z)); refuses = numbered q (x.refuses e z); words_are = x.words; names_are = x.names }

    pub plan_closed : (room : List ℕ) {r : Result ℕ Refusal} → r ≡ Err e → PlansSource fit source sizes held ws ns room r ws' ns' room
    unfolding planned_source
    plan_closed room q = record {
      planned = ap (λ (r : Result ℕ Refusal). planned_of r room) q ∙ sym (ap (by_grid (λ number place. unplanned number place room) (λ p. planned p sizes held room)) (x.closed e z));
      words_are = x.words;
      names_are = x.names;
    }

  module _ {rows : RowsOpened} (z : o ≡ Ok rows) (held : ℕ) where
    open_is : RowsOpen fit source ws' sizes rows
    open_is = x.opened rows z

    program : Program
    program = open_is.read.program

    -- an index is too far, or none
    is_far : {e : Refusal} → rows.far ≡ Some e → e ≡ too_far sizes (written_in program)
    unfolding program
    is_far f = ap far_told (sym f) ∙ open_is.far

    far_is : {e : Refusal} → rows.far ≡ Some e → eqb (too_far sizes (written_in program)).number 0 ≡ false
    far_is {e} f = ap (λ (r : Refusal). eqb r.number 0) (sym (is_far f)) ∙ ne_eqb e.number 0 (open_is.refuses e f)

    none_far : rows.far ≡ None → eqb (too_far sizes (written_in program)).number 0 ≡ true
    unfolding program
    none_far f = ap (λ (r : Refusal). eqb r.number 0) (sym (ap far_told (sym f) ∙ open_is.far))

    checks_as : (plan : List ℕ) {r : Result (Unit {0}) Refusal} → refusal_told r ≡ check_plan program sizes held plan → ((e : Refusal) → r ≡ Err e → e.number ≡ 0 → ⊥)
        → ChecksSource fit source sizes held plan ws ns r ws' ns'
    unfolding check_plan_source program
    checks_as plan e n = record { reply = e ∙ sym (ap (by_grid refusal (λ p. check_plan p sizes held plan)) open_is.on); refuses = n; words_are = x.words; names_are = x.names }

    plans_as : (room : List ℕ) {r : Result ℕ Refusal} {room' : List ℕ} → planned_of r room' ≡ planned program sizes held room → PlansSource fit source sizes held ws ns room r ws' ns' room'
    unfolding planned_source program
    plans_as room e = record { planned = e ∙ sym (ap (by_grid (λ number place. unplanned number place room) (λ p. planned p sizes held room)) open_is.on); words_are = x.words; names_are = x.names }

    fits_is : (plan : List ℕ) {t : Bool} → t ≡ plan_right rows.rows (border_of rows.border) held plan → plan_fits program sizes held plan ≡ t
    unfolding plan_fits program
    fits_is plan e = sym (e ∙ ap₂ (λ (n : ℕ) (b : Bound). plan_right n b held plan) open_is.rows_are open_is.borders)

    pub check_far : {e : Refusal} → rows.far ≡ Some e → (plan : List ℕ) → ChecksSource fit source sizes held plan ws ns (Err e) ws' ns'
    check_far {e} f plan = checks_as plan (is_far f ∙ sym (check_is program sizes held plan (far_is f) refl)) (numbered refl (open_is.refuses e f))

    -- the plan is accepted: any answer that tells it, and is no refusal without a number
    pub check_answered : rows.far ≡ None → (plan : List ℕ) {t : Bool} → t ≡ plan_right rows.rows (border_of rows.border) held plan → not t ≡ false
        → {r : Result (Unit {0}) Refusal} → refusal_told r ≡ no_refusal → ((e : Refusal) → r ≡ Err e → e.number ≡ 0 → ⊥) → ChecksSource fit source sizes held plan ws ns r ws' ns'
    check_answered f plan {t} e q told n = checks_as plan (told ∙ sym (check_is program sizes held plan (none_far f) (fits_is plan e ∙ not-false t q))) n

    -- the answer that the call gives
    pub check_taken : rows.far ≡ None → (plan : List ℕ) {t : Bool} → t ≡ plan_right rows.rows (border_of rows.border) held plan → not t ≡ false
        → (u : Unit {0}) → ChecksSource fit source sizes held plan ws ns (Ok u) ws' ns'
    check_taken f plan e q u = check_answered f plan e q refl answered

    pub check_not_taken : rows.far ≡ None → (plan : List ℕ) {t : Bool} → t ≡ plan_right rows.rows (border_of rows.border) held plan → not t ≡ true
        → {e : Refusal} → e ≡ refusal 60 0 → ChecksSource fit source sizes held plan ws ns (Err e) ws' ns'
    check_not_taken f plan {t} e q w = checks_as plan (w ∙ sym (check_is program sizes held plan (none_far f) (fits_is plan e ∙ not-true t q))) (by_reason w)

    pub plan_room : (room : List ℕ) → (length room ≡ 2 * rows.rows → ⊥) → {e : Refusal} → e ≡ refusal 21 0 → PlansSource fit source sizes held ws ns room (Err e) ws' ns' room
    plan_room room d q =
        plans_as room
        (ap (λ (e : Refusal). planned_of (Err e) room) q
        ∙ sym (planned_is program sizes held room (ne_eqb _ _ (λ q. d (q ∙ ap (λ (n : ℕ). 2 * n) (sym open_is.rows_are)))) refl refl))

    module _ (room : List ℕ) (d : length room ≡ 2 * rows.rows) where
      room_is : eqb (length room) (2 * plans.rows sizes) ≡ true
      room_is = eq-eqb _ _ (d ∙ ap (λ (n : ℕ). 2 * n) open_is.rows_are)

      pub plan_far : {e : Refusal} → rows.far ≡ Some e → PlansSource fit source sizes held ws ns room (Err e) ws' ns' room
      plan_far f =
          plans_as room (ap (λ (r : Refusal). unplanned r.number r.place room) (is_far f) ∙ sym (planned_is program sizes held room room_is (far_is f) refl))

      pub plan_put : rows.far ≡ None → {r : Result ℕ Refusal} {room' : List ℕ} → planned_of r room' ≡ plan_or_none rows.rows (border_of rows.border) held room
          → PlansSource fit source sizes held ws ns room r ws' ns' room'
      unfolding program
      plan_put f e =
          plans_as room
          (e ∙ ap₂ (λ (n : ℕ) (b : Bound). plan_or_none n b held room) open_is.rows_are open_is.borders ∙ sym (planned_is program sizes held room room_is (none_far f) refl))

-- ---- the calls

-- the reply and the memory alone, where `CheckLeaves` also says that a refusal has a number
pub record CheckLeft {N : Type 0} (form : NameForm N) (l : SourceLent N) (sizes : List ℕ) (held : ℕ) (plan : List ℕ) (r : Result (Unit {0}) Refusal) (words : List ℕ) (names : List N) : Type 0 where
  pub is : record { answer = refusal_told r; words = words; names = names } ≡ plan_check_left form l sizes held plan

module _ {N : Type 0} {form : NameForm N} {l : SourceLent N} {sizes : List ℕ} {held : ℕ} {words : List ℕ} {names : List N} (w : words ≡ words_after (source_fits form l) l.source l.words)
    (n : names ≡ names_left form (source_fits form l) l.source l.names) where
  pub check_left : {plan : List ℕ} {r : Result (Unit {0}) Refusal} → refusal_told r ≡ check_plan_source (source_fits form l) l.source sizes held plan → CheckLeft form l sizes held plan r words names
  unfolding plan_check_left
  check_left e = record { is = λ i. record { answer = e i; words = w i; names = n i } }

  pub check_leaves : {plan : List ℕ} {r : Result (Unit {0}) Refusal} → refusal_told r ≡ check_plan_source (source_fits form l) l.source sizes held plan → ((e : Refusal) → r ≡ Err e → e.number ≡ 0 → ⊥)
      → CheckLeaves form l sizes held plan r words names
  check_leaves {plan} {r} e refuses =
      let left : CheckLeft form l sizes held plan r words names = check_left e in
      record { is = left.is; refuses = refuses }

  pub plan_left : {room : List ℕ} {r : Result ℕ Refusal} {room' : List ℕ} → planned_of r room' ≡ planned_source (source_fits form l) l.source sizes held room → PlannerLeaves form l sizes held room r words names room'
  unfolding planner_left
  plan_left e = record { is = λ i. record { answer = e i; words = w i; names = n i } }

-- another list than the built-in one: nothing is read, and nothing changes
module _ {N : Type 0} (form : NameForm N) (l : SourceLent N) (sizes : List ℕ) (held : ℕ) (entries : List ℕ) (e : source_fits form l ≡ false) where
  pub unlisted_check : {f : Refusal} → f ≡ refusal 1 0 → CheckLeaves form l sizes held entries (Err f) l.words l.names
  unfolding check_plan_source on_sizes words_after read_source
  unlisted_check q = check_leaves (rw e) (rw e) (q ∙ rw e) (by_reason q)

  pub unlisted_plan : {f : Refusal} → f ≡ refusal 1 0 → PlannerLeaves form l sizes held entries (Err f) l.words l.names entries
  unfolding planned_source on_sizes words_after read_source
  unlisted_plan q = plan_left (rw e) (rw e) (ap (λ (f : Refusal). planned_of (Err f) entries) q ∙ rw e)

module _ (l : SourceLent ℕ) (sizes : List ℕ) (held : ℕ) (entries : List ℕ) {t : Bool} (is : t ≡ is_built_in l.list) where
  fits_not : not t ≡ true → source_fits flat_names l ≡ false
  fits_not n = ap (λ (u : Bool). u && rooms_fit (length l.words) (length l.names)) (sym is ∙ not-true t n)

  fits_as : not t ≡ false → rooms_fit (length l.words) (length l.names) ≡ source_fits flat_names l
  fits_as n = ap (λ (u : Bool). u && rooms_fit (length l.words) (length l.names)) (sym (sym is ∙ not-false t n))

  pub check_unlisted : not t ≡ true → {f : Refusal} → f ≡ refusal 1 0 → CheckLeaves flat_names l sizes held entries (Err f) l.words l.names
  check_unlisted n q = unlisted_check flat_names l sizes held entries (fits_not n) q

  pub plan_unlisted : not t ≡ true → {f : Refusal} → f ≡ refusal 1 0 → PlannerLeaves flat_names l sizes held entries (Err f) l.words l.names entries
  plan_unlisted n q = unlisted_plan flat_names l sizes held entries (fits_not n) q

  pub check_listed : not t ≡ false → {r : Result (Unit {0}) Refusal} {words names : List ℕ}
      → ChecksSource (rooms_fit (length l.words) (length l.names)) l.source sizes held entries l.words l.names r words names → CheckLeaves flat_names l sizes held entries r words names
  unfolding names_after
  check_listed n {r} {words} {names} x =
      let y = subst (λ (fit : Bool). ChecksSource fit l.source sizes held entries l.words l.names r words names) (fits_as n) x in
      check_leaves y.words_are y.names_are y.reply y.refuses

  pub plan_listed : not t ≡ false → {r : Result ℕ Refusal} {words names room : List ℕ}
      → PlansSource (rooms_fit (length l.words) (length l.names)) l.source sizes held l.words l.names entries r words names room → PlannerLeaves flat_names l sizes held entries r words names room
  unfolding names_after
  plan_listed n {r} {words} {names} {room} x =
      let y = subst (λ (fit : Bool). PlansSource fit l.source sizes held l.words l.names entries r words names room) (fits_as n) x in
      plan_left y.words_are y.names_are y.planned
