-- The laws of assignments, one for each way through the code.
use Prim.Native.Nat.{ℕ, ◌+◌, ◌≤◌, ◌<◌}
use native.Mathlib.Nat.{le_refl}
use native.Mathlib.Omega.{arith}
use mathlib.Core.Path.{◌≡◌, refl, sym, ap, ap₂, ◌∙◌, subst}
use mathlib.Core.Bool.{Bool, true, false}
use mathlib.Core.List.{List, [], ◌∷◌}
use mathlib.Core.Option.{Option, none, some}
use lib.Dec.{eqb}
use lib.ListN.{get_or, set, take, length-take, get_or-eq_default}
use lib.Seq.{set_out, take-set-lt}
use lib.IntN.{ℤ, pos}
use borrow.Author.Tests.{eq-eqb, ne_eqb}
use Rattle.std.specs.Prelude.{Ok, Err, if◌then◌else◌}
use Rattle.program.specs.Refusal.{refusal}
use Rattle.value.specs.Number.{within}
use Rattle.value.specs.Worked.{value, truth, decode_of}
use Rattle.value.specs.declared.Value.{Value}
use Rattle.automaton.specs.Step.{Outcome, result}
use Rattle.automaton.specs.Promises.ListedLaws.{length_list_of, get_or_list_of}
use Rattle.program.specs.Syntax.{Range, no_range, Expr, Target, Clause}
use Rattle.cell_meaning.specs.Evaluation.{Env, bind, eval, Frame, frame, in_field, store, met, assign_first}
use Rattle.cell_meaning.specs.Promises.Stands.{range_in, ranges_in, ExprAt, target_in, first_clause, GuardAt, ClausesAt}
use Rattle.cell_meaning.specs.Links.{Table}
use Rattle.cell_operands.specs.Promises.Working.{EvaluationResult, EvaluatedTo, Failed, told_of, EvalsExpression, Quick}
use Rattle.cell_operands.proofs.PrimaryLaws.{result_of, fault_of}
use Rattle.cell_statements.specs.Promises.Running.{Going, On, Faulted, ConditionResult, left_by_exit, field_range, Stores, AssignsOne, ConditionAt, guarded, Guards, Assigns}

-- ---- expressions that stand

-- what an evaluator's answer is where an expression stands
pub answer : {t : Table} {env : Env} {vars vs : List ℤ} {n at : ℕ} {r : EvaluationResult} → EvalsExpression t env vars vs n at 1 r → {e : Expr} {next : ℕ} → ExprAt t e at next
    → r ≡ told_of (eval env vars vs e) next
answer ev {e} {next} x = ev.says x.enough e next (x.says x.enough (le_refl x.enough))

-- the position past an expression
pub found_onward : {t : Table} {env : Env} {vars vs : List ℤ} {n at level : ℕ} {r : EvaluationResult} {v : Value} {past : ℕ}
    → EvalsExpression t env vars vs n at level r → r ≡ EvaluatedTo v past → (at < past) × (past ≤ n)
found_onward {n = n} {at = at} x h = rw h at x.onward

-- a value that is found by a short way
pub quick_found : {t : Table} {env : Env} {vars vs : List ℤ} {n at level : ℕ} {r : EvaluationResult} {v : Value} {past : ℕ}
    → Quick t env vars vs n at level r → r ≡ EvaluatedTo v past → EvalsExpression t env vars vs n at level (EvaluatedTo v past)
quick_found {t} {env} {vars} {vs} {n} {at} {level} {r} {v} {past} q h = subst (EvalsExpression t env vars vs n at level) h (q.found v past h)

-- ---- memory

-- the front of a list after a store in it, and behind it
pub front_set : (d : ℕ) (l : List ℤ) (i : ℕ) (z : ℤ) → i < d → take d (set l i z) ≡ set (take d l) i z
front_set d l i z h = take-set-lt d l i z h

pub front_same : (d : ℕ) (l : List ℤ) (i : ℕ) (z : ℤ) → d ≤ i → take d l ≡ set (take d l) i z
front_same d l i z h = sym (set_out (take d l) i z (omega (arith, length-take d l)))

-- ---- the range of a field

pub range_known : (t : Table) (base n f : ℕ) → f < n → get_or (ranges_in t base n) f no_range ≡ range_in t (base + f)
range_known t base n f l = get_or_list_of (λ k. range_in t (base + k)) n f no_range l

pub range_none : (t : Table) (base n f : ℕ) → n ≤ f → get_or (ranges_in t base n) f no_range ≡ no_range
range_none t base n f l = get_or-eq_default (ranges_in t base n) no_range (omega (arith, length_list_of (λ k. range_in t (base + k)) n))

module _ (t : Table) (base n f : ℕ) (z : ℤ) where
  pub fits_known : {a b : ℕ} {low high : Value} {r : Bool} → f < n → a ≡ t.word2 (base + f) → low ≡ value (decode_of a) → b ≡ t.word3 (base + f) → high ≡ value (decode_of b)
      → r ≡ within low.n high.n z → r ≡ in_field (get_or (ranges_in t base n) f no_range) z
  fits_known l ea el eb eh er =
      er ∙ ap₂ (λ (x y : Value). within x.n y.n z) (el ∙ ap (λ (i : ℕ). value (decode_of i)) ea) (eh ∙ ap (λ (i : ℕ). value (decode_of i)) eb)
      ∙ sym (ap (λ (x : Range). in_field x z) (range_known t base n f l))

  pub fits_none : {r : Bool} → n ≤ f → r ≡ within (pos 0) (pos 0) z → r ≡ in_field (get_or (ranges_in t base n) f no_range) z
  fits_none l er = er ∙ sym (ap (λ (x : Range). in_field x z) (range_none t base n f l))

-- ---- storing

module _ (t : Table) (env : Env) (at here : ℕ) (z : ℤ) (vars next : List ℤ) {w k : ℕ} (ew : w ≡ t.word2 at) (ek : k ≡ t.kind at) where
  pub stores_variable : {vars' : List ℤ} → (k ≡ 3 → ⊥) → vars' ≡ set vars w z → Stores t env at here z vars next vars' next On
  unfolding store target_in
  stores_variable {vars'} other q =
      record { says = let f : eqb (t.kind at) 3 ≡ false = ne_eqb _ _ (λ u. other (ek ∙ u)) in rw (f, q, ew) refl }

  module _ (is : k ≡ 3) {b : Bool} (eb : b ≡ in_field (field_range env w) z) where
    known : in_field (field_range env (t.word2 at)) z ≡ b
    known = ap (λ (i : ℕ). in_field (field_range env i) z) (sym ew) ∙ sym eb

    pub stores_field : {next' : List ℤ} → b ≡ true → next' ≡ set next w z → Stores t env at here z vars next vars next' On
    unfolding store target_in
    stores_field {next'} h q =
        record { says = let f : eqb (t.kind at) 3 ≡ true = eq-eqb _ _ (sym ek ∙ is) in rw (f, known ∙ h, q, ew) refl }

    pub stores_fault : {p : ℕ} → b ≡ false → p ≡ t.place here → Stores t env at here z vars next vars next (Faulted 33 p)
    unfolding store target_in
    stores_fault {p} h q =
        record { says = let f : eqb (t.kind at) 3 ≡ true = eq-eqb _ _ (sym ek ∙ is) in rw (f, known ∙ h, q) refl }

-- ---- one clause

module _ (t : Table) (env : Env) (vs : List ℤ) (at here : ℕ) (vars next : List ℤ) {n : ℕ} {told : EvaluationResult} (ev : EvalsExpression t env vars vs n (here + 1) 1 told) where
  pub one_fault : {k p : ℕ} → told ≡ Failed k p → AssignsOne t env vs at here vars next vars next (Faulted k p)
  one_fault {k} {p} h = record { says = λ e m x. rw (fault_of (eval env vars vs e) m (sym h ∙ answer ev x)) refl }

  pub one_stored : {v : Value} {m : ℕ} {vars' next' : List ℤ} {r : Going} → told ≡ EvaluatedTo v m → Stores t env at here v.n vars next vars' next' r
      → AssignsOne t env vs at here vars next vars' next' r
  one_stored {v} {m} {vars'} {next'} {r} h s = record { says = λ e m x. rw (result_of (eval env vars vs e) m (sym h ∙ answer ev x)).0 s.says }

-- ---- a clause's condition

module _ (t : Table) (env : Env) (vs : List ℤ) (here : ℕ) (vars : List ℤ) {w : ℕ} (ew : w ≡ t.word2 here) where
  pub guard_none : w ≡ 0 → Guards t env vs here vars (Ok true)
  guard_none h = record { says = go; asked = λ e. let z : ◌≡◌ {A = ℕ} 0 1 = cc in absurd (omega arith) }
    where
      go : (o : Option Expr) → ConditionAt t o here → met env vars vs o ≡ result true
      go none x = refl
      go (some e) x = absurd (x.1 (sym ew ∙ h))

  module _ (some_there : w ≡ 0 → ⊥) {n l : ℕ} (el : l ≡ t.inner here) {told : EvaluationResult} (ev : EvalsExpression t env vars vs n l 1 told) where
    said : (e : Expr) (m : ℕ) → ExprAt t e (t.inner here) m → told ≡ told_of (eval env vars vs e) m
    said e m x = answer ev (subst (λ (i : ℕ). ExprAt t e i m) (sym el) x)

    pub guard_fault : {k p : ℕ} → told ≡ Failed k p → Guards t env vs here vars (Err (refusal k p))
    guard_fault {k} {p} h = record { says = go; asked = λ e. let z : ◌≡◌ {A = ℕ} 0 1 = cc in absurd (omega arith) }
      where
        go : (o : Option Expr) → ConditionAt t o here → met env vars vs o ≡ guarded (Err (refusal k p))
        go none x = absurd (some_there (ew ∙ x))
        go (some e) x = rw (fault_of (eval env vars vs e) x.0 (sym h ∙ said e x.0 x.2)) refl

    module _ {v : Value} {m : ℕ} (h : told ≡ EvaluatedTo v m) {b : Bool} (eb : b ≡ truth v.n) where
      decided : (o : Option Expr) → ConditionAt t o here → met env vars vs o ≡ result b
      decided none x = absurd (some_there (ew ∙ x))
      decided (some e) x = rw ((result_of (eval env vars vs e) x.0 (sym h ∙ said e x.0 x.2)).0, ← eb) refl

      pub guard_met : Guards t env vs here vars (Ok b)
      guard_met = record { says = λ o x. decided o x; asked = λ e u. some_there (ew ∙ u) }

-- ---- the clauses of an assignment

condition_of : (t : Table) (o : Option Expr) (rest : ℕ → Type 0) (at : ℕ) → GuardAt t o rest at → ConditionAt t o at
condition_of t none rest at x = x
condition_of t (some e) rest at x = (x.0, x.1, x.2)

behind_of : (t : Table) (o : Option Expr) (rest : ℕ → Type 0) (at : ℕ) → GuardAt t o rest at → (t.word2 at ≡ 0 → ⊥) → rest (t.past at)
behind_of t none rest at x no_word = absurd (no_word x)
behind_of t (some e) rest at x no_word = x.3

pub clause_dot : (t : Table) (at : ℕ) {k : ℕ} → k ≡ t.kind (at + 1) → k ≡ 46 → at + 3 ≡ first_clause t at
unfolding first_clause
clause_dot t at ek h = sym (simp (eq-eqb _ _ (sym ek ∙ h)))

pub clause_next : (t : Table) (at : ℕ) {k : ℕ} → k ≡ t.kind (at + 1) → (k ≡ 46 → ⊥) → at + 1 ≡ first_clause t at
unfolding first_clause
clause_next t at ek h = sym (simp (ne_eqb _ _ (λ u. h (ek ∙ u))))

module _ (t : Table) (env : Env) (vs : List ℤ) (at : ℕ) (vars next : List ℤ) where
  abbrev to : Target
  to = target_in t at

  abbrev fr : Frame
  fr = frame false vars next

  -- the clauses before `here` are tried, and none of them is chosen
  pub record Tried (here : ℕ) : Type 0 where
    pub says : (cs : List Clause) → ClausesAt t cs (first_clause t at) → (cs' : List Clause) × ClausesAt t cs' here × (assign_first env vs to cs fr ≡ assign_first env vs to cs' fr)

  pub tried_start : {here : ℕ} → here ≡ first_clause t at → Tried here
  tried_start {here} e = record { says = λ cs x. (cs, subst (λ (i : ℕ). ClausesAt t cs i) (sym e) x, refl) }

  module _ {here : ℕ} (so : Tried here) {k : ℕ} (ek : k ≡ t.kind here) where
    pub assigns_none : (k ≡ 128 → ⊥) → Assigns t env vs at vars next vars next On
    unfolding assign_first
    assigns_none other = record { says = λ cs x. let s = so.says cs x in sym (s.2 ∙ go s.0 s.1) }
      where
        go : (cs : List Clause) → ClausesAt t cs here → assign_first env vs to cs fr ≡ result fr
        go [] x = refl
        go (c ∷ cs) x = absurd (other (ek ∙ x.1))

    module _ (is : k ≡ 128) {verdict : ConditionResult} (gu : Guards t env vs here vars verdict) where
      -- what the clause does if it is chosen
      abbrev chosen : Clause → Outcome Frame
      chosen c = bind (eval env vars vs c.expr) (store env.fields to c.place fr)

      -- what the clause and those behind it come to, by what is found of its condition
      abbrev judged : Clause → List Clause → Outcome Bool → Outcome Frame
      judged c cs o = bind o (λ t. if t then chosen c else assign_first env vs to cs fr)

      tried_now : (F : Outcome Frame) → ((c : Clause) (cs : List Clause) → ClausesAt t (c ∷ cs) here → assign_first env vs to (c ∷ cs) fr ≡ F)
          → (cs : List Clause) → ClausesAt t cs here → assign_first env vs to cs fr ≡ F
      tried_now F h [] x = absurd (x (sym ek ∙ is))
      tried_now F h (c ∷ cs) x = h c cs x

      by_verdict : (c : Clause) (cs : List Clause) → ClausesAt t (c ∷ cs) here → assign_first env vs to (c ∷ cs) fr ≡ judged c cs (guarded verdict)
      unfolding assign_first
      by_verdict c cs x = ap (judged c cs) (gu.says c.condition (condition_of t c.condition (λ i. ClausesAt t cs i) here x.4))

      pub assigns_chosen : {vars' next' : List ℤ} {r : Going} → verdict ≡ (Ok true) → AssignsOne t env vs at here vars next vars' next' r → Assigns t env vs at vars next vars' next' r
      assigns_chosen {vars'} {next'} {r} h one = record {
        says = λ cs x.
            let s = so.says cs x in
            sym (s.2 ∙ tried_now (left_by_exit r vars' next')
            (λ c cs y.
            by_verdict c cs y ∙ ap (λ (z : ConditionResult). judged c cs (guarded z)) h
            ∙ ap (λ (i : ℕ). bind (eval env vars vs c.expr) (store env.fields to i fr)) y.2 ∙ sym (one.says c.expr y.0 y.3))
            s.0 s.1);
      }

      pub assigns_fault : {a p : ℕ} → verdict ≡ Err (refusal a p) → Assigns t env vs at vars next vars next (Faulted a p)
      assigns_fault {a} {p} h = record {
        says = λ cs x.
            let s = so.says cs x in
            sym (s.2 ∙ tried_now (left_by_exit (Faulted a p) vars next) (λ c cs y. by_verdict c cs y ∙ ap (λ (z : ConditionResult). judged c cs (guarded z)) h) s.0 s.1);
      }

      pub tried_more : {l : ℕ} → verdict ≡ (Ok false) → l ≡ t.past here → Tried l
      tried_more {l} h el = record { says = λ cs x. let s = so.says cs x in go cs s.0 s.1 s.2 }
        where
          go : (cs cs' : List Clause) → ClausesAt t cs' here → assign_first env vs to cs fr ≡ assign_first env vs to cs' fr
              → (cs'' : List Clause) × ClausesAt t cs'' l × (assign_first env vs to cs fr ≡ assign_first env vs to cs'' fr)
          go cs [] y e = absurd (y (sym ek ∙ is))
          go cs (c ∷ cs') y e = (
            cs',
            subst (λ (i : ℕ). ClausesAt t cs' i) (sym el) (behind_of t c.condition (λ i. ClausesAt t cs' i) here y.4 (gu.asked h)),
            e ∙ by_verdict c cs' y ∙ ap (λ (z : ConditionResult). judged c cs' (guarded z)) h,
          )

-- a run from memory that is as it was at first
pub assigns_from : {t : Table} {env : Env} {vs : List ℤ} {at : ℕ} {a a₀ b b₀ a' b' : List ℤ} {r : Going} → a ≡ a₀ → b ≡ b₀ → Assigns t env vs at a b a' b' r → Assigns t env vs at a₀ b₀ a' b' r
assigns_from {t} {env} {vs} {at} {a} {a₀} {b} {b₀} {a'} {b'} {r} e f x =
    subst (λ (z : List ℤ). Assigns t env vs at a₀ z a' b' r) f (subst (λ (z : List ℤ). Assigns t env vs at z b a' b' r) e x)
