-- The laws of statements, one for each way through the code.
use Prim.Native.Nat.{ℕ, zero, suc, ◌+◌, ◌-◌, ◌≤◌, ◌<◌}
use native.Mathlib.Omega.{arith}
use mathlib.Core.Path.{◌≡◌, refl, sym, ap, ap₂, ◌∙◌, subst}
use mathlib.Core.Bool.{Bool, true, false, true≢false}
use mathlib.Core.List.{List, [], ◌∷◌, ◌++◌}
use lib.Dec.{eqb}
use lib.ListN.{length, get_or, set, take, length-set}
use lib.Seq.{take-suc, take-set-le, get_or-set_same}
use lib.IntN.{ℤ, pos, ◌+ℤ◌, +ℤ_assoc, +ℤ_idr}
use borrow.Author.Tests.{ne_eqb, eqb-true}
use Rattle.std.specs.Prelude.{Some, None, Ok, Err, if◌then◌else◌}
use Rattle.program.specs.Refusal.{refusal}
use Rattle.cell_statements.specs.declared.Flow.TheVariants as flow
use Rattle.value.specs.Worked.{value, truth, decode_of, span_of}
use Rattle.value.specs.declared.Value.{Value}
use Rattle.automaton.specs.Step.{Outcome, result, fault}
use Rattle.program.specs.Syntax.{Range, Expr, Target, Block, empty, assign, select, loop, exit, constant}
use Rattle.cell_meaning.specs.Evaluation.{Env, bind, eval, Frame, frame, onward, assign_first, each, exec}
use Rattle.cell_meaning.specs.Promises.Stands.{ExprAt, range_in, LoopAt, assigns, Stands, Elsif, Choice}
use Rattle.cell_meaning.specs.Links.{Table, begins}
use Rattle.cell_operands.specs.Promises.Working.{EvaluationResult, EvaluatedTo, Failed, SiteReady, EvalsExpression}
use Rattle.cell_operands.specs.declared.Site.{Site}
use Rattle.cell_operands.proofs.PrimaryLaws.{result_of, fault_of}
use Rattle.cell_statements.specs.Promises.Running.{Going, On, Leaving, Faulted, Chosen, left_by_exit, Assigns, RunsBlock, rest_after, RunsStatement, LoopSettles, Forward, choice_outcome, Chooses, body_of, RunsLoop}
use Rattle.cell_statements.proofs.PendingLaws.{Leads, leads_start, leads_done, leads_stops, leads_pops, leads_enters}
use Rattle.cell_statements.proofs.AssignmentLaws.{answer, found_onward}

-- ---- kinds that begin a statement

not_begun : (x : ℕ) {A : Type 0} → begins x ≡ true → begins x ≡ false → A
not_begun x p q = absurd (true≢false (sym p ∙ q))

pub begins_at : {k : ℕ} (j : ℕ) → begins j ≡ true → k ≡ j → true ≡ begins k
begins_at j h e = sym (ap begins e ∙ h)

pub begins_name : begins 1 ≡ true
unfolding begins
begins_name = refl

pub begins_cell : begins 3 ≡ true
unfolding begins
begins_cell = refl

pub begins_if : begins 13 ≡ true
unfolding begins
begins_if = refl

pub begins_forall : begins 12 ≡ true
unfolding begins
begins_forall = refl

pub begins_exit : begins 10 ≡ true
unfolding begins
begins_exit = refl

pub begins_const : begins 5 ≡ true
unfolding begins
begins_const = refl

pub begins_last : {k : ℕ} → (k ≡ 1 → ⊥) → (k ≡ 3 → ⊥) → (k ≡ 13 → ⊥) → (k ≡ 12 → ⊥) → (k ≡ 10 → ⊥) → eqb k 5 ≡ begins k
unfolding begins
begins_last a b d e f = sym (simp (ne_eqb _ _ a, ne_eqb _ _ b, ne_eqb _ _ d, ne_eqb _ _ e, ne_eqb _ _ f))

-- a kind that begins a statement is some token
pub begins_some : (k : ℕ) {b : Bool} → b ≡ begins k → b ≡ true → 1 ≤ k
unfolding begins
begins_some zero e y = absurd (true≢false (sym y ∙ e))
begins_some (suc k) e y = omega arith

-- the first token of an assignment
assigns_kind : (k : ℕ) → assigns k ≡ true → (P : ℕ → Type 0) → P 1 → P 3 → P k
unfolding assigns
assigns_kind k e P one three = go (eqb k 1) refl
  where
    go : (b : Bool) → eqb k 1 ≡ b → P k
    go true q = subst P (sym (eqb-true k 1 q)) one
    go false q = subst P (sym (eqb-true k 3 (simp q at e))) three

assigns_begins : (k : ℕ) → assigns k ≡ true → begins k ≡ true
assigns_begins k e = assigns_kind k e (λ i. begins i ≡ true) begins_name begins_cell

-- ---- a choice

onward_empty : (env : Env) (vs : List ℤ) (o : Outcome Frame) → onward o (exec env vs empty) ≡ o
unfolding exec
onward_empty env vs (result fr) = go fr.leaving
  where
    go : (t : Bool) → (if t then result fr else result fr) ≡ result fr
    go true = refl
    go false = refl
onward_empty env vs (fault k p) = refl

module _ (t : Table) (env : Env) (vs : List ℤ) (depth n at : ℕ) (vars : List ℤ) where
  abbrev chooses : Expr → Block → Block → List ℤ → Outcome Frame
  chooses c d e next = choice_outcome env vs c d e (frame false vars next)

  -- the arms before `arm` are tried, and none of them is chosen
  pub record Arms (arm : ℕ) : Type 0 where
    pub says : (c : Expr) (d e : Block) → Choice t depth c d e at
        → (c' : Expr) × (d' : Block) × (e' : Block) × Choice t depth c' d' e' arm × ((next : List ℤ) → chooses c d e next ≡ chooses c' d' e' next)
    pub after : at ≤ arm
    pub within : arm < n

  pub arms_start : at < n → Arms at
  arms_start l = record { says = λ c d e x. (c, d, e, x, λ next. refl); after = omega arith; within = l }

  module _ {arm : ℕ} (so : Arms arm) {told : EvaluationResult} (ev : EvalsExpression t env vars vs n (arm + 1) 1 told) where
    -- the choice goes on where the arm that is tried now does
    by_arm : {r : Chosen} → Forward at n r
        → ((c : Expr) (d e : Block) → Choice t depth c d e arm → (next : List ℤ) → LoopSettles t env vs depth r (chooses c d e next) (frame false vars next))
        → Chooses t env vs depth n at vars r
    by_arm {r} l h = record {
      says = λ c d e x next.
          let s = so.says c d e x in
          subst (λ (F : Outcome Frame). LoopSettles t env vs depth r F (frame false vars next)) (sym (s.4 next)) (h s.0 s.1 s.2 s.3 next);
      onward = l;
    }

    pub choice_fault : {a p : ℕ} → told ≡ Failed a p → Chooses t env vs depth n at vars (Err (refusal a p))
    choice_fault h = by_arm tt (λ c d e x next. rw (fault_of (eval env vars vs c) x.then_at (sym h ∙ answer ev x.condition)) refl)

    module _ {v : Value} {m : ℕ} (h : told ≡ EvaluatedTo v m) {b : Bool} (eb : b ≡ truth v.n) where
      found : (c : Expr) (past : ℕ) → ExprAt t c (arm + 1) past → (eval env vars vs c ≡ result v.n) × (past ≡ m)
      found c past x = result_of (eval env vars vs c) past (sym h ∙ answer ev x)

      decided : {z : Bool} → b ≡ z → (c : Expr) (d e : Block) → Choice t depth c d e arm → (next : List ℤ)
          → chooses c d e next ≡ (if z then exec env vs d (frame false vars next) else exec env vs e (frame false vars next))
      decided {z} y c d e x next = rw ((found c x.then_at x.condition).0, ← eb, y) refl

      pub choice_then : b ≡ true → m < n → Chooses t env vs depth n at vars (Ok (Some (m + 1)))
      choice_then y l =
          let f = found_onward ev h in
          let g = so.after in
          by_arm (omega arith, omega arith)
          (λ c d e x next. (d, subst (λ (i : ℕ). Stands t depth d (i + 1)) (found c x.then_at x.condition).1 x.part, decided y c d e x next))

      pub choice_wrong : ((i : ℕ) → t.kind i ≡ 16 → i < n) → n ≤ m → Chooses t env vs depth n at vars (Ok None)
      choice_wrong inside l =
          by_arm tt
          (λ c d e x next. absurd (let e = (found c x.then_at x.condition).1 in let q = inside x.then_at x.is_then in omega arith))

      module _ (y : b ≡ false) {o : ℕ} (eo : o ≡ t.inner arm) {k : ℕ} (ek : k ≡ t.kind o) where
        there : k ≡ t.kind (t.inner arm)
        there = ek ∙ ap (λ (i : ℕ). t.kind i) eo

        pub choice_else : k ≡ 7 → arm < o → o < n → Chooses t env vs depth n at vars (Ok (Some (o + 1)))
        choice_else is l f =
            let g = so.after in
            by_arm (omega arith, omega arith)
            (λ c d e x next. (e, subst (λ (i : ℕ). Stands t depth e (i + 1)) (sym eo) (x.rest.at_else (sym there ∙ is)), decided y c d e x next))

        pub choice_end : (k ≡ 7 → ⊥) → (k ≡ 8 → ⊥) → Chooses t env vs depth n at vars (Ok None)
        unfolding exec
        choice_end not_else not_elsif =
            by_arm tt
            (λ c d e x next.
            decided y c d e x next
            ∙ ap (λ (q : Block). exec env vs q (frame false vars next)) (x.rest.at_end (λ u. not_else (there ∙ u)) (λ u. not_elsif (there ∙ u))))

        pub arms_more : k ≡ 8 → arm < o → o < n → Arms o
        unfolding Elsif exec
        arms_more is l f = record {
          says = λ c d e x. let s = so.says c d e x in go c d e s.0 s.1 s.2 s.3 s.4;
          after = let g = so.after in omega arith;
          within = f;
        }
          where
            tail : (e : Block) → Elsif t depth e o
                → (c' : Expr) × (d' : Block) × (e' : Block) × Choice t depth c' d' e' o × ((next : List ℤ) → exec env vs e (frame false vars next) ≡ chooses c' d' e' next)
            tail empty s = absurd s
            tail (assign to cs rest) s = absurd s
            tail (select c d e rest) s =
                (c, d, e, s.1, λ next. ap (λ (q : Block). onward (chooses c d e next) (exec env vs q)) s.0 ∙ onward_empty env vs (chooses c d e next))
            tail (loop r d rest) s = absurd s
            tail (exit rest) s = absurd s
            tail (constant rest) s = absurd s

            go : (c : Expr) (d e : Block) (c₁ : Expr) (d₁ e₁ : Block) → Choice t depth c₁ d₁ e₁ arm → ((next : List ℤ) → chooses c d e next ≡ chooses c₁ d₁ e₁ next)
                → (c' : Expr) × (d' : Block) × (e' : Block) × Choice t depth c' d' e' o × ((next : List ℤ) → chooses c d e next ≡ chooses c' d' e' next)
            go c d e c₁ d₁ e₁ x q =
                let s = tail e₁ (subst (Elsif t depth e₁) (sym eo) (x.rest.at_elsif (sym there ∙ is))) in
                (s.0, s.1, s.2, s.3, λ next. q next ∙ decided y c₁ d₁ e₁ x next ∙ s.4 next)

-- the position of a list that is chosen
pub chosen_onward : {t : Table} {env : Env} {vs : List ℤ} {depth n at : ℕ} {vars : List ℤ} {r : Chosen} {m : ℕ} → Chooses t env vs depth n at vars r → r ≡ Ok (Some m) → (at < m) × (m ≤ n)
chosen_onward {n = n} {at = at} x h = rw h at x.onward

-- what stands at an `if`
at_if : (t : Table) (depth at : ℕ) → t.kind at ≡ 13 → (P : Block → Type 0) → ((c : Expr) (d e rest : Block) → Choice t depth c d e at → Stands t depth rest (t.past at) → P (select c d e rest))
    → (b : Block) → Stands t depth b at → P b
unfolding Stands
at_if t depth at is P h empty s = not_begun (t.kind at) (ap begins is ∙ begins_if) s
at_if t depth at is P h (assign to cs rest) s = absurd (assigns_kind (t.kind at) s.0 (λ i. i ≡ 13 → ⊥) (λ u. omega arith) (λ u. omega arith) is)
at_if t depth at is P h (select c d e rest) s = h c d e rest s.1 s.2
at_if t depth at is P h (loop values d rest) s = absurd (let q = s.0 in omega arith)
at_if t depth at is P h (exit rest) s = absurd (let q = s.0 in omega arith)
at_if t depth at is P h (constant rest) s = absurd (let q = s.0 in omega arith)

-- ---- a statement

module _ (t : Table) (env : Env) (depth at : ℕ) (vars next ix : List ℤ) {k : ℕ} (ek : k ≡ t.kind at) where
  abbrev run_of : Going → List ℤ → List ℤ → Block → Type 0
  run_of r vars' next' b = exec env (take depth ix) b (frame false vars next) ≡ onward (left_by_exit r vars' next') (exec env (take depth ix) (rest_after b))

  -- an assignment does not begin with a token of this kind
  unassigned : {A : Type 0} (j : ℕ) → (j ≡ 1 → ⊥) → (j ≡ 3 → ⊥) → k ≡ j → assigns (t.kind at) ≡ true → A
  unassigned {A} j a b is e = absurd (assigns_kind (t.kind at) e (λ i. i ≡ j → ⊥) (λ u. a (sym u)) (λ u. b (sym u)) (sym ek ∙ is))

  module _ (is : k ≡ 13) {n : ℕ} {chosen : Chosen} (ch : Chooses t env (take depth ix) depth n at vars chosen) where
    -- what is left is what is done where the choice goes on
    by_choice : {vars' next' ix' : List ℤ} {r : Going} (w : Chosen) → chosen ≡ w → take depth ix' ≡ take depth ix
        → ((F : Outcome Frame) → LoopSettles t env (take depth ix) depth w F (frame false vars next) → left_by_exit r vars' next' ≡ F) → RunsStatement t env depth at vars next ix vars' next' ix' r
    unfolding exec
    by_choice {vars'} {next'} {ix'} {r} w h k f = record {
      says = λ y. at_if t depth at (sym ek ∙ is) (run_of r vars' next')
          (λ c d e rest x s.
          let F = chooses t env (take depth ix) depth n at vars c d e next in
          ap (λ (G : Outcome Frame). onward G (exec env (take depth ix) rest))
          (sym (f F (subst (λ (z : Chosen). LoopSettles t env (take depth ix) depth z F (frame false vars next)) h (ch.says c d e x next)))));
      kept = k;
    }

    pub if_fault : {a p : ℕ} → chosen ≡ Err (refusal a p) → RunsStatement t env depth at vars next ix vars next ix (Faulted a p)
    if_fault {a} {p} h = by_choice (Err (refusal a p)) h refl (λ F s. sym s)

    pub if_nothing : chosen ≡ (Ok None) → RunsStatement t env depth at vars next ix vars next ix On
    if_nothing h = by_choice (Ok None) h refl (λ F s. sym s)

    pub if_list : {m : ℕ} {vars' next' ix' : List ℤ} {r : Going} → chosen ≡ Ok (Some m) → RunsBlock t env depth m vars next ix vars' next' ix' r
        → RunsStatement t env depth at vars next ix vars' next' ix' r
    if_list {m} h run = by_choice (Ok (Some m)) h run.kept (λ F s. run.says s.0 s.1 ∙ sym s.2)

  pub statement_forall : {vars' next' ix' : List ℤ} {r : Going} → k ≡ 12 → RunsLoop t env depth at vars next ix vars' next' ix' r → RunsStatement t env depth at vars next ix vars' next' ix' r
  unfolding Stands exec
  statement_forall {vars'} {next'} {ix'} {r} is run = record { says = go; kept = run.kept }
    where
      go : begins (t.kind at) ≡ true → (b : Block) → Stands t depth b at → run_of r vars' next' b
      go y empty s = not_begun (t.kind at) y s
      go y (assign to cs rest) s = unassigned 12 (λ u. omega arith) (λ u. omega arith) is s.0
      go y (select c d e rest) s = absurd (let q = s.0 in omega arith)
      go y (loop values d rest) s = ap (λ (F : Outcome Frame). onward F (exec env (take depth ix) rest)) (sym (run.says values d s.1))
      go y (exit rest) s = absurd (let q = s.0 in omega arith)
      go y (constant rest) s = absurd (let q = s.0 in omega arith)

  pub statement_exit : k ≡ 10 → RunsStatement t env depth at vars next ix vars next ix Leaving
  unfolding Stands exec
  statement_exit is = record { says = go; kept = refl }
    where
      go : begins (t.kind at) ≡ true → (b : Block) → Stands t depth b at → run_of Leaving vars next b
      go y empty s = not_begun (t.kind at) y s
      go y (assign to cs rest) s = unassigned 10 (λ u. omega arith) (λ u. omega arith) is s.0
      go y (select c d e rest) s = absurd (let q = s.0 in omega arith)
      go y (loop values d rest) s = absurd (let q = s.0 in omega arith)
      go y (exit rest) s = refl
      go y (constant rest) s = absurd (let q = s.0 in omega arith)

  pub statement_constant : k ≡ 5 → RunsStatement t env depth at vars next ix vars next ix On
  unfolding Stands exec
  statement_constant is = record { says = go; kept = refl }
    where
      go : begins (t.kind at) ≡ true → (b : Block) → Stands t depth b at → run_of On vars next b
      go y empty s = not_begun (t.kind at) y s
      go y (assign to cs rest) s = unassigned 5 (λ u. omega arith) (λ u. omega arith) is s.0
      go y (select c d e rest) s = absurd (let q = s.0 in omega arith)
      go y (loop values d rest) s = absurd (let q = s.0 in omega arith)
      go y (exit rest) s = absurd (let q = s.0 in omega arith)
      go y (constant rest) s = refl

  pub statement_assign : {vars' next' : List ℤ} {r : Going} → (t.kind at ≡ 13 → ⊥) → (k ≡ 12 → ⊥) → (k ≡ 10 → ⊥) → (k ≡ 5 → ⊥)
      → Assigns t env (take depth ix) at vars next vars' next' r → RunsStatement t env depth at vars next ix vars' next' ix r
  unfolding Stands exec
  statement_assign {vars'} {next'} {r} n13 n12 n10 n5 run = record { says = go; kept = refl }
    where
      go : begins (t.kind at) ≡ true → (b : Block) → Stands t depth b at → run_of r vars' next' b
      go y empty s = not_begun (t.kind at) y s
      go y (assign to cs rest) s =
          ap (λ (F : Outcome Frame). onward F (exec env (take depth ix) rest))
          (ap (λ (x : Target). assign_first env (take depth ix) x cs (frame false vars next)) s.1 ∙ sym (run.says cs s.2))
      go y (select c d e rest) s = absurd (n13 s.0)
      go y (loop values d rest) s = absurd (n12 (ek ∙ s.0))
      go y (exit rest) s = absurd (n10 (ek ∙ s.0))
      go y (constant rest) s = absurd (n5 (ek ∙ s.0))

-- ---- a list of statements

pub faulted_stops : {a p : ℕ} → Faulted a p ≡ On → ⊥
faulted_stops e = let z : ◌≡◌ {A = ℕ} 0 1 = cc in absurd (omega arith)

pub leaving_stops : Leaving ≡ On → ⊥
leaving_stops e = let z : ◌≡◌ {A = ℕ} 0 1 = cc in absurd (omega arith)

-- what follows a statement stands past it
rest_stands : (t : Table) (depth at : ℕ) → begins (t.kind at) ≡ true → (b : Block) → Stands t depth b at → Stands t depth (rest_after b) (t.past at)
unfolding Stands
rest_stands t depth at y empty s = not_begun (t.kind at) y s
rest_stands t depth at y (assign to cs rest) s = s.3
rest_stands t depth at y (select c d e rest) s = s.2
rest_stands t depth at y (loop r d rest) s = s.2
rest_stands t depth at y (exit rest) s = s.1
rest_stands t depth at y (constant rest) s = s.1

-- where no statement begins, none stands
none_stands : (t : Table) (depth at : ℕ) → begins (t.kind at) ≡ false → (b : Block) → Stands t depth b at → b ≡ empty
unfolding Stands
none_stands t depth at y empty s = refl
none_stands t depth at y (assign to cs rest) s = not_begun (t.kind at) (assigns_begins (t.kind at) s.0) y
none_stands t depth at y (select c d e rest) s = not_begun (t.kind at) (ap begins s.0 ∙ begins_if) y
none_stands t depth at y (loop r d rest) s = not_begun (t.kind at) (ap begins s.0 ∙ begins_forall) y
none_stands t depth at y (exit rest) s = not_begun (t.kind at) (ap begins s.0 ∙ begins_exit) y
none_stands t depth at y (constant rest) s = not_begun (t.kind at) (ap begins s.0 ∙ begins_const) y

module _ (t : Table) (env : Env) (depth at : ℕ) (vars₀ next₀ ix₀ : List ℤ) where
  -- what a list that stands at `at` comes to
  abbrev whole : Block → Outcome Frame
  whole b = exec env (take depth ix₀) b (frame false vars₀ next₀)

  -- what is left of a list that stands at `at`: statements that stand at `here`, then those at the positions of a stack
  pub record Progress (here : ℕ) (ends : List ℕ) (top : ℕ) (vars next ix : List ℤ) : Type 0 where
    pub says : (b : Block) → Stands t depth b at
        → (b' : Block) × Stands t depth b' here × Leads t env depth (take depth ix₀) ends top (whole b) (exec env (take depth ix₀) b' (frame false vars next))
    pub kept : take depth ix ≡ take depth ix₀

  pub progress_start : {ends : List ℕ} → Progress at ends 0 vars₀ next₀ ix₀
  progress_start {ends} = record { says = λ b s. (b, s, leads_start t env depth (take depth ix₀) ends (whole b)); kept = refl }

  module _ {here : ℕ} {ends : List ℕ} {top : ℕ} {vars next ix : List ℤ} (so : Progress here ends top vars next ix) {k : ℕ} (ek : k ≡ t.kind here) where
    module _ {b : Bool} (eb : b ≡ begins k) where
      -- at the end of a list
      ended : b ≡ false → (b₀ : Block) → Stands t depth b₀ at → Leads t env depth (take depth ix₀) ends top (whole b₀) (result (frame false vars next))
      unfolding exec
      ended y b₀ s =
          let p = so.says b₀ s in
          subst (λ (q : Block). Leads t env depth (take depth ix₀) ends top (whole b₀) (exec env (take depth ix₀) q (frame false vars next)))
          (none_stands t depth here (sym (eb ∙ ap begins ek) ∙ y) p.0 p.1) p.2

      pub block_ends : b ≡ false → top ≡ 0 → RunsBlock t env depth at vars₀ next₀ ix₀ vars next ix On
      block_ends y z = record {
        says = λ b₀ s. sym (leads_done t env depth (take depth ix₀) ends (whole b₀) (result (frame false vars next)) z (ended y b₀ s));
        kept = so.kept;
      }

      pub block_pops : b ≡ false → (top ≡ 0 → ⊥) → Progress (get_or ends (top - 1) 0) ends (top - 1) vars next ix
      block_pops y nz = record {
        says = λ b₀ s. leads_pops t env depth (take depth ix₀) ends top (whole b₀) vars next nz (ended y b₀ s);
        kept = so.kept;
      }

      module _ (y : b ≡ true) {vars' next' ix' : List ℤ} {r : Going} (run : RunsStatement t env depth here vars next ix vars' next' ix' r) where
        begun : begins (t.kind here) ≡ true
        begun = sym (eb ∙ ap begins ek) ∙ y

        -- after the statement
        after : (b₀ : Block) → Stands t depth b₀ at
            → (q : Block) × Stands t depth q (t.past here)
            × Leads t env depth (take depth ix₀) ends top (whole b₀) (onward (left_by_exit r vars' next') (exec env (take depth ix₀) q))
        after b₀ s =
            let p = so.says b₀ s in
            let one = run.says begun p.0 p.1 in (
              rest_after p.0,
              rest_stands t depth here begun p.0 p.1,
              subst (Leads t env depth (take depth ix₀) ends top (whole b₀))
                  (subst (λ (vs : List ℤ). exec env vs p.0 (frame false vars next) ≡ onward (left_by_exit r vars' next') (exec env vs (rest_after p.0))) so.kept one)
                  p.2,
            )

        pub block_more : r ≡ On → {l : ℕ} → l ≡ t.past here → Progress l ends top vars' next' ix'
        block_more e {l} el = record {
          says = λ b₀ s.
              let p = after b₀ s in (
                p.0,
                subst (Stands t depth p.0) (sym el) p.1,
                subst (λ (x : Going). Leads t env depth (take depth ix₀) ends top (whole b₀) (onward (left_by_exit x vars' next') (exec env (take depth ix₀) p.0))) e p.2,
              );
          kept = run.kept ∙ so.kept;
        }

        pub block_stops : (r ≡ On → ⊥) → RunsBlock t env depth at vars₀ next₀ ix₀ vars' next' ix' r
        block_stops stops = record {
          says = λ b₀ s.
              let p = after b₀ s in
              sym (leads_stops t env depth (take depth ix₀) ends top (whole b₀) (left_by_exit r vars' next') (stopped r stops)
              (subst (Leads t env depth (take depth ix₀) ends top (whole b₀)) (stopped r stops (exec env (take depth ix₀) p.0)) p.2));
          kept = run.kept ∙ so.kept;
        }
          where
            stopped : (x : Going) → (x ≡ On → ⊥) → (f : Frame → Outcome Frame) → onward (left_by_exit x vars' next') f ≡ left_by_exit x vars' next'
            stopped (Ok flow.On) z f = absurd (z refl)
            stopped (Ok flow.Leaving) z f = refl
            stopped (Err g) z f = refl

    -- at an `if` the list goes on with what is chosen, and what is behind the `if` waits
    pub block_enters : k ≡ 13 → {n : ℕ} {chosen : Chosen} → Chooses t env (take depth ix) depth n here vars chosen → {m : ℕ} → chosen ≡ Ok (Some m)
        → {l : ℕ} → l ≡ t.past here → top < length ends → Progress m (set ends top l) (top + 1) vars next ix
    unfolding exec
    block_enters is {n} {chosen} ch {m} h {l} el room = record {
      says = λ b₀ s₀.
          let vs = take depth ix₀ in
          let fr = frame false vars next in
          let p = so.says b₀ s₀ in
          at_if t depth here (sym ek ∙ is)
          (λ b'. Leads t env depth vs ends top (whole b₀) (exec env vs b' fr)
          → (q : Block) × Stands t depth q m × Leads t env depth vs (set ends top l) (top + 1) (whole b₀) (exec env vs q fr))
          (λ c d e rest x s u.
          let F = chooses t env vs depth n here vars c d e next in
          let w = subst (λ (z : Chosen). LoopSettles t env vs depth z F fr) h ((subst (λ (zs : List ℤ). Chooses t env zs depth n here vars chosen) so.kept ch).says c d e x next) in (
            w.0,
            w.1,
            leads_enters t env depth vs ends top l (whole b₀) room (exec env vs w.0 fr) rest (subst (Stands t depth rest) (sym el) s)
                (subst (λ (G : Outcome Frame). Leads t env depth vs ends top (whole b₀) (onward G (exec env vs rest))) w.2 u),
          ))
          p.0 p.1 p.2;
      kept = so.kept;
    }

-- ---- a loop

-- what the numbers that are read at a `forall` say of any loop that stands there
pub record Known (t : Table) (depth at body : ℕ) (low : ℤ) (count : ℕ) : Type 0 where
  pub says : (values : Range) (d : Block) → LoopAt t depth values (λ i. Stands t (depth + 1) d i) at
      → (span_of values.low values.high ≡ count) × (values.low ≡ low) × Stands t (depth + 1) d body
  pub few : count ≤ 4096
  pub deep : depth < 16

module _ (t : Table) (depth at : ℕ) {wl wh : ℕ} (el : wl ≡ t.word2 (at + 1)) (eh : wh ≡ t.word3 (at + 1)) {vl vh : Value} (ql : vl ≡ value (decode_of wl)) (qh : vh ≡ value (decode_of wh))
    {count : ℕ} (ec : count ≡ span_of vl.n vh.n) where
  span_is : (values : Range) → values ≡ range_in t (at + 1) → (span_of values.low values.high ≡ count) × (values.low ≡ vl.n)
  span_is values e =
      let l : values.low ≡ vl.n = ap (λ (x : Range). x.low) e ∙ ap decode_of (sym el) ∙ ap (λ (x : Value). x.n) (sym ql) in
      let h : values.high ≡ vh.n = ap (λ (x : Range). x.high) e ∙ ap decode_of (sym eh) ∙ ap (λ (x : Value). x.n) (sym qh) in
      (ap₂ span_of l h ∙ sym ec, l)

  pub known : {body : ℕ} → body ≡ t.inner at → count ≤ 4096 → depth < 16 → Known t depth at body vl.n count
  known {body} eb few deep = record {
    says = λ values d x. ((span_is values x.values).0, (span_is values x.values).1, subst (Stands t (depth + 1) d) (sym eb) x.part);
    few = few;
    deep = deep;
  }

  pub loop_many : (env : Env) (vars next ix : List ℤ) → 4096 < count → RunsLoop t env depth at vars next ix vars next ix On
  loop_many env vars next ix l = record { says = λ values d x. absurd (let e = (span_is values x.values).0 in let f = x.few in omega arith); kept = refl }

pub loop_deep : (t : Table) (env : Env) (depth at : ℕ) (vars next ix : List ℤ) → 16 ≤ depth → RunsLoop t env depth at vars next ix vars next ix On
loop_deep t env depth at vars next ix l = record { says = λ values d x. absurd (let f = x.shallow in omega arith); kept = refl }

take_less : (d : ℕ) (xs ys : List ℤ) → take (suc d) xs ≡ take (suc d) ys → take d xs ≡ take d ys
take_less d xs ys e = sym (cut d xs) ∙ ap (take d) e ∙ cut d ys
  where
    cut : (d : ℕ) (zs : List ℤ) → take d (take (suc d) zs) ≡ take d zs
    cut zero zs = refl
    cut (suc d) [] = refl
    cut (suc d) (z ∷ zs) = ap (λ (l : List ℤ). z ∷ l) (cut d zs)

module _ (t : Table) (env : Env) (depth at body : ℕ) (low : ℤ) (count : ℕ) (vars₀ next₀ ix₀ : List ℤ) where
  -- all turns, and those that are left after the first k
  abbrev turns : Block → ℕ → ℤ → List ℤ → List ℤ → Outcome Frame
  turns d n v vars next = each (body_of env (take depth ix₀) d) n v (frame false vars next)

  -- the first k turns are done
  pub record Turns (k : ℕ) (vars next ix : List ℤ) : Type 0 where
    pub says : (d : Block) → Stands t (depth + 1) d body → turns d count low vars₀ next₀ ≡ turns d (count - k) (low +ℤ pos k) vars next
    pub kept : take depth ix ≡ take depth ix₀
    pub turn : k ≤ count
    pub numbers : Known t depth at body low count

  pub turns_start : Known t depth at body low count → Turns 0 vars₀ next₀ ix₀
  turns_start kn = record {
    says = λ d s. ap₂ (λ (n : ℕ) (z : ℤ). turns d n z vars₀ next₀) (let e : count ≡ count - 0 = omega arith in e) (sym (+ℤ_idr low));
    kept = refl;
    turn = omega arith;
    numbers = kn;
  }

  module _ {k : ℕ} {vars next ix : List ℤ} (so : Turns k vars next ix) where
    module _ (l : k < count) (room : depth < length ix) {ix₁ : List ℤ} (e₁ : ix₁ ≡ set ix depth (low +ℤ pos k)) {vars' next' ix' : List ℤ} {r : Going}
        (run : RunsBlock t env (depth + 1) body vars next ix₁ vars' next' ix' r) where
      pushed : take (depth + 1) ix₁ ≡ take depth ix₀ ++ ((low +ℤ pos k) ∷ [])
      pushed =
          let s : depth + 1 ≡ suc depth = omega arith in
          ap (λ (n : ℕ). take n ix₁) s ∙ ap (take (suc depth)) e₁
          ∙ take-suc (set ix depth (low +ℤ pos k)) depth (pos 0) (subst (λ (n : ℕ). depth < n) (sym (length-set ix depth (low +ℤ pos k))) room)
          ∙ ap₂ (λ (xs : List ℤ) (z : ℤ). xs ++ (z ∷ [])) (take-set-le depth ix depth (low +ℤ pos k) (omega arith) ∙ so.kept) (get_or-set_same ix depth (low +ℤ pos k) (pos 0) room)

      kept_on : take depth ix' ≡ take depth ix₀
      kept_on =
          let s : depth + 1 ≡ suc depth = omega arith in
          take_less depth ix' ix₁ (subst (λ (n : ℕ). take n ix' ≡ take n ix₁) s run.kept)
          ∙ ap (take depth) e₁ ∙ take-set-le depth ix depth (low +ℤ pos k) (omega arith) ∙ so.kept

      -- what follows the turn that is done now
      abbrev after_turn : Block → Outcome Frame → Outcome Frame
      after_turn d o =
          bind o (λ g. if g.leaving then result (frame false g.vars g.next) else each (body_of env (take depth ix₀) d) (count - (k + 1)) (low +ℤ pos k +ℤ pos 1) g)

      turned_now : (d : Block) → Stands t (depth + 1) d body → turns d count low vars₀ next₀ ≡ after_turn d (left_by_exit r vars' next')
      unfolding each
      turned_now d s =
          let n : count - k ≡ suc (count - (k + 1)) = omega arith in
          so.says d s ∙ ap (λ (m : ℕ). turns d m (low +ℤ pos k) vars next) n
          ∙ ap (after_turn d) (sym (run.says d s ∙ ap (λ (vs : List ℤ). exec env vs d (frame false vars next)) pushed))

      by_turn : (d : Block) {g : Going} → r ≡ g → after_turn d (left_by_exit r vars' next') ≡ after_turn d (left_by_exit g vars' next')
      by_turn d e = ap (λ (x : Going). after_turn d (left_by_exit x vars' next')) e

      pub turns_more : r ≡ On → Turns (k + 1) vars' next' ix'
      turns_more e = record {
        says = λ d s. turned_now d s ∙ by_turn d e ∙ ap (λ (z : ℤ). turns d (count - (k + 1)) z vars' next') (+ℤ_assoc low (pos k) (pos 1));
        kept = kept_on;
        turn = omega arith;
        numbers = so.numbers;
      }

      pub loop_leaves : r ≡ Leaving → RunsLoop t env depth at vars₀ next₀ ix₀ vars' next' ix' On
      loop_leaves e = record {
        says = λ values d x.
            let kn = so.numbers.says values d x in
            sym (ap₂ (λ (n : ℕ) (z : ℤ). turns d n z vars₀ next₀) kn.0 kn.1 ∙ turned_now d kn.2 ∙ by_turn d e);
        kept = kept_on;
      }

      pub loop_faults : {a p : ℕ} → r ≡ Faulted a p → RunsLoop t env depth at vars₀ next₀ ix₀ vars' next' ix' (Faulted a p)
      loop_faults {a} {p} e = record {
        says = λ values d x.
            let kn = so.numbers.says values d x in
            sym (ap₂ (λ (n : ℕ) (z : ℤ). turns d n z vars₀ next₀) kn.0 kn.1 ∙ turned_now d kn.2 ∙ by_turn d e);
        kept = kept_on;
      }

    pub loop_done : count ≤ k → RunsLoop t env depth at vars₀ next₀ ix₀ vars next ix On
    unfolding each
    loop_done l = record {
      says = λ values d x.
          let kn = so.numbers.says values d x in
          let z : count - k ≡ 0 = omega arith in
          sym (ap₂ (λ (n : ℕ) (z : ℤ). turns d n z vars₀ next₀) kn.0 kn.1 ∙ so.says d kn.2 ∙ ap (λ (n : ℕ). turns d n (low +ℤ pos k) vars next) z);
      kept = so.kept;
    }

-- ---- one loop deeper

pub deeper : {leaves words sizes point : List ℕ} {grid : List ℤ} {site : Site} {depth : ℕ} → SiteReady leaves words sizes point grid site depth → depth < 16 → SiteReady leaves words sizes point grid site (depth + 1)
deeper r l = record {
  table = r.table;
  tokens = r.tokens;
  base = r.base;
  fields = r.fields;
  slots = r.slots;
  time = r.time;
  dims = r.dims;
  shaped = r.shaped;
  cell = r.cell;
  own = r.own;
  loops = omega arith;
  noted = r.noted;
}
