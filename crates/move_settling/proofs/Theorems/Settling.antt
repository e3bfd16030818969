-- In a run of a source that moves a pixel once a cell whose flag is 1 stays as it is, and after one completed step nothing changes any more.
use Prim.Native.Nat.{ℕ, zero, suc, ◌+◌, ◌*◌, ◌<◌, ◌≤◌}
use native.Mathlib.Omega.{arith}
use mathlib.Core.Path.{◌≡◌, refl, sym, ap, ◌∙◌, subst}
use mathlib.Core.Bool.{Bool, true}
use mathlib.Core.List.{List, []}
use mathlib.Core.Option.{Option, some}
use lib.ListN.{length}
use lib.Dec.{eqb, leb}
use lib.IntN.{ℤ, pos, nat_abs}
use borrow.Author.Tests.{eqb-true}
use Rattle.value.proofs.Theorems.Laws.{and_both}
use Rattle.automaton.specs.Step.{Fault, no_fault, fault_at, Automaton, Blocks, Run, step_of, run_of}
use Rattle.automaton.proofs.Theorems.Quiet.{run_go, run_stop}
use Rattle.automaton.specs.Grid.{automaton}
use Rattle.automaton.specs.Shape.{product}
use Rattle.automaton.specs.Promises.ShapeLaws.{Positive}
use Rattle.program.specs.Syntax.{Program}
use Rattle.grammar.specs.Checking.{read_source}
use Rattle.run_meaning.specs.Reach.{running}
use Rattle.run_meaning.specs.Admission.{all_between, good_sizes, admission}
use Rattle.run_meaning.specs.Report.{Manner, full, quiet, pausing, resuming, Report, ended}
use Rattle.run_meaning.proofs.Theorems.Ranges.{admitted_dims, admitted_in_range}
use Rattle.move_meaning.proofs.Theorems.InProfile.{InProfile}
use Rattle.move_meaning.proofs.Theorems.Moving.{OneMove}
use Rattle.move_meaning.proofs.Theorems.Runs as runs
use Rattle.move_meaning.proofs.Theorems.Runs.{Flags, KeepsFlags}
use Rattle.list_meaning.specs.ListChecking.{limits_of}
use Rattle.list_meaning.specs.Text.{lines}
use Rattle.list_meaning.specs.Lines.{said}
use Rattle.list_meaning.specs.Setting.{set_lines, set_block}
use Rattle.list_meaning.proofs.Theorems.RoundTrip.{sizes_told, admission_told}
use Rattle.list_meaning.proofs.Theorems.Flags.{list_keeps, admitted_flags}
use Rattle.run_calls.specs.Running.{Asked, admitted, blocks, report_of, run}
use Rattle.run_calls.proofs.Theorems.RunningLaws.{request_admitted, list_passes, run_admitted}
use Rattle.run_calls.specs.Services.{run_read, run_source, run_begins}
use Rattle.run_source.specs.Promises.Agreement.{Agree}
use Rattle.run_joining.specs.Joins.{GoesOn, all_at_once, all_together, last_marks, Chain}
use Rattle.run_joining.proofs.Theorems.Joining.{chain_joins, link_agrees}
use Rattle.move_settling.specs.Settles.{first_steps, flag_at, Fresh, MovesOnce, Settled, Settles}

-- ---- the first steps of a run

module _ {Grid State : Type 0} (M : Automaton Grid State) (block : Blocks Grid) where
  stopped : {X : Type 0} {c k p : ℕ} → fault_at c k p ≡ no_fault → X
  stopped e = absurd (let z : ◌≡◌ {A = ℕ} 0 1 = cc in omega arith)

  -- where a run has no fault, its first steps have none
  earlier : (k n t : ℕ) (g : Grid) → k ≤ n → (run_of M block n t g).fault ≡ no_fault → (run_of M block k t g).fault ≡ no_fault
  unfolding run_of
  earlier zero n t g l e = refl
  earlier (suc k) zero t g l e = absurd (omega arith)
  earlier (suc k) (suc n) t g l e = go (step_of M (block t g) t).fault refl (earlier k n (suc t) (step_of M (block t g) t).grid (omega arith))
    where
      go : (x : Fault) → (step_of M (block t g) t).fault ≡ x
          → ((run_of M block n (suc t) (step_of M (block t g) t).grid).fault ≡ no_fault → (run_of M block k (suc t) (step_of M (block t g) t).grid).fault ≡ no_fault)
          → (run_of M block (suc k) t g).fault ≡ no_fault
      go no_fault q rest =
          ap (λ (r : Run Grid). r.fault) (run_go M block k t g q) ∙ rest (sym (ap (λ (r : Run Grid). r.fault) (run_go M block n t g q)) ∙ e)
      go (fault_at c y p) q rest = stopped (sym (ap (λ (r : Run Grid). r.fault) (run_stop M block n t g c y p q)) ∙ e)

  -- a run that did a step did its first
  first_done : (n t : ℕ) (g : Grid) → 1 ≤ (run_of M block n t g).steps → (run_of M block 1 t g).fault ≡ no_fault
  unfolding run_of
  first_done zero t g l = absurd (omega arith)
  first_done (suc n) t g l = go (step_of M (block t g) t).fault refl
    where
      go : (x : Fault) → (step_of M (block t g) t).fault ≡ x → (run_of M block 1 t g).fault ≡ no_fault
      go no_fault q = ap (λ (r : Run Grid). r.fault) (run_go M block 0 t g q)
      go (fault_at c y p) q = absurd (let z : (run_of M block (suc n) t g).steps ≡ 0 = ap (λ (r : Run Grid). r.steps) (run_stop M block n t g c y p q) in omega arith)

  -- one step more
  record Onward (k t : ℕ) (g : Grid) : Type 0 where
    fault_is : (run_of M block (suc k) t g).fault ≡ no_fault
    grid_is : (run_of M block (suc k) t g).grid ≡ block (t + suc k) (step_of M (run_of M block k t g).grid (t + k)).grid

  onward : (k t : ℕ) (g : Grid) → (run_of M block k t g).fault ≡ no_fault → (step_of M (run_of M block k t g).grid (t + k)).fault ≡ no_fault → Onward k t g
  unfolding run_of
  onward zero t g e s =
      let here : t + 0 ≡ t = omega arith in
      let all = run_go M block 0 t g (ap (λ (u : ℕ). (step_of M (block t g) u).fault) (sym here) ∙ s) in
      record {
        fault_is = ap (λ (r : Run Grid). r.fault) all;
        grid_is = ap (λ (r : Run Grid). r.grid) all ∙ (λ i. block (next i) (step_of M (block t g) (sym here i)).grid);
      }
    where
      next : suc t ≡ t + 1
      next = omega arith
  onward (suc k) t g e s = go (step_of M (block t g) t).fault refl (onward k (suc t) (step_of M (block t g) t).grid)
    where
      next : Grid
      next = (step_of M (block t g) t).grid

      there : suc t + k ≡ t + suc k
      there = omega arith

      behind : suc t + suc k ≡ t + suc (suc k)
      behind = omega arith

      go : (x : Fault) → (step_of M (block t g) t).fault ≡ x
          → ((run_of M block k (suc t) next).fault ≡ no_fault → (step_of M (run_of M block k (suc t) next).grid (suc t + k)).fault ≡ no_fault → Onward k (suc t) next) → Onward (suc k) t g
      go no_fault q rest =
          let one = run_go M block k t g q in
          let two = run_go M block (suc k) t g q in
          let grid : (run_of M block (suc k) t g).grid ≡ (run_of M block k (suc t) next).grid = ap (λ (r : Run Grid). r.grid) one in
          let w = rest (sym (ap (λ (r : Run Grid). r.fault) one) ∙ e) ((λ i. (step_of M (sym grid i) (there i)).fault) ∙ s) in
          record {
            fault_is = ap (λ (r : Run Grid). r.fault) two ∙ w.fault_is;
            grid_is = ap (λ (r : Run Grid). r.grid) two ∙ w.grid_is ∙ (λ i. block (behind i) (step_of M (sym grid i) (there i)).grid);
          }
      go (fault_at c y p) q rest = stopped (sym (ap (λ (r : Run Grid). r.fault) (run_stop M block k t g c y p q)) ∙ e)

-- ---- an admitted run of a program that moves a pixel once

module _ (f : ℕ) (p : Program) (one : OneMove f p) (q : Asked) (admits : (admitted p (some f) q).number ≡ 0) where
  abbrev M : Automaton (List ℤ) (List ℤ)
  M = running p q.request.sizes

  abbrev t : ℕ
  t = nat_abs q.request.start

  passed : (admission p q.request).number ≡ 0
  passed = request_admitted p (some f) q admits

  dims : length q.request.sizes ≡ p.dims
  dims = admitted_dims p q.request passed

  positive : Positive q.request.sizes
  unfolding good_sizes
  positive = (sizes_told q.request.sizes right.1).0
    where
      right : (eqb (length q.request.sizes) p.dims ≡ true) × (all_between 1 4096 q.request.sizes ≡ true)
      right = and_both _ (all_between 1 4096 q.request.sizes) (and_both _ (leb (product q.request.sizes) 1048576) (admission_told p q.request passed).sizes).0

  size : length q.request.grid ≡ product q.request.sizes * length p.fields
  size = (admitted_in_range p q.request passed).entries

  flags : Flags f p one q.request.sizes dims positive q.request.grid
  flags = admitted_flags f p one q.request.sizes dims positive q.request.grid (admitted_in_range p q.request passed).within

  keeps : KeepsFlags f p one q.request.sizes dims positive (blocks p q)
  keeps = list_keeps f p one q.request.sizes dims positive (limits_of p (some f) q.request) refl refl q.values (list_passes p (some f) q admits)

  -- the grid that a step begins from
  at : (k : ℕ) → (first_steps p q k).fault ≡ no_fault → runs.before f p one q.request.sizes dims positive (blocks p q) k t q.request.grid ≡ some (first_steps p q k).grid
  at k e = runs.run_before f p one q.request.sizes dims positive (blocks p q) k t q.request.grid e

  rest : (k : ℕ) → (first_steps p q (suc k)).fault ≡ no_fault → runs.Settled f p one q.request.sizes dims positive (blocks p q) keeps (t + suc k) (first_steps p q (suc k)).grid
  rest k e = runs.settled f p one q.request.sizes dims positive (blocks p q) keeps k t q.request.grid (first_steps p q (suc k)).grid size flags (at (suc k) e)

  all_done : (first_steps p q 1).fault ≡ no_fault → (k : ℕ) → (first_steps p q (suc k)).fault ≡ no_fault
  all_done e zero = e
  all_done e (suc k) = let d = all_done e k in (onward M (blocks p q) (suc k) t q.request.grid d (rest k d).no_faults).fault_is

  unlisted : q.values ≡ [] → (first_steps p q 1).fault ≡ no_fault → (k : ℕ) → (first_steps p q (suc k)).grid ≡ (first_steps p q 1).grid
  unfolding set_block set_lines said lines
  unlisted v e zero = refl
  unlisted v e (suc k) =
      let d = all_done e k in
      (onward M (blocks p q) (suc k) t q.request.grid d (rest k d).no_faults).grid_is ∙ no_block v (t + suc (suc k)) _ ∙ (rest k d).same ∙ unlisted v e k
    where
      no_block : q.values ≡ [] → (u : ℕ) (g : List ℤ) → blocks p q u g ≡ g
      no_block v u g = ap (λ (xs : List ℕ). set_block q.request.sizes (length p.fields) xs u g) v

  pub program_moves : MovesOnce f p q
  unfolding running automaton
  program_moves =
      record {
        stays = λ k m l e c b set.
            runs.flag_later f p one q.request.sizes dims positive (blocks p q) keeps k m t q.request.grid _ _ l (at k (earlier M (blocks p q) k m t q.request.grid l e)) (at m e) c b set;
        never_changes = λ k m l e c b set.
            runs.never_changes f p one q.request.sizes dims positive (blocks p q) keeps k m t q.request.grid _ _ l (at k (earlier M (blocks p q) k m t q.request.grid l e)) (at m e) c b set;
        all_moved = λ k e. (rest k e).all;
        rests = λ k e. ((rest k e).no_faults, (rest k e).same);
        no_faults = all_done;
        unlisted = unlisted;
      }

  -- the run itself
  run_settles : (n count : ℕ) → n ≡ nat_abs q.request.steps → Settles f p q (ended (first_steps p q n).fault (first_steps p q n).steps count (first_steps p q n).grid)
  run_settles n count same = record { settled = go (first_steps p q n).fault refl }
    where
      go : (x : Fault) → (first_steps p q n).fault ≡ x → 1 ≤ (ended x (first_steps p q n).steps count (first_steps p q n).grid).steps → Settled f p q (ended x (first_steps p q n).steps count (first_steps p q n).grid)
      go (fault_at c y z) e l = by n e (first_done M (blocks p q) n t q.request.grid l)
        where
          by : (k : ℕ) → (first_steps p q k).fault ≡ fault_at c y z → (first_steps p q 1).fault ≡ no_fault → Settled f p q (ended (fault_at c y z) (first_steps p q n).steps count (first_steps p q n).grid)
          by k e d = stopped M (blocks p q) (sym e ∙ done k d)
            where
              done : (k : ℕ) → (first_steps p q 1).fault ≡ no_fault → (first_steps p q k).fault ≡ no_fault
              done k d = earlier M (blocks p q) k (suc k) t q.request.grid (omega arith) (all_done d k)
      go no_fault e l =
          let whole = runs.before_run f p one q.request.sizes dims positive (blocks p q) n t q.request.grid _ (at n e) in
          let steps : (first_steps p q n).steps ≡ n = ap (λ (r : Run (List ℤ)). r.steps) whole in
          record { number = refl; steps = steps ∙ same; flags = by n e (subst (λ (k : ℕ). 1 ≤ k) steps l) }
        where
          by : (k : ℕ) → (first_steps p q k).fault ≡ no_fault → 1 ≤ k → (c : ℕ) → c < product q.request.sizes → flag_at f p (first_steps p q k).grid c ≡ pos 1
          by zero e l = absurd (omega arith)
          by (suc k) e l = (rest k e).all

  pub report_settles : (manner : Manner) → Fresh manner → Settles f p q (report_of manner p q)
  unfolding report_of
  report_settles full k = run_settles (nat_abs q.request.steps) _ refl
  report_settles quiet k = run_settles (nat_abs q.request.steps) _ refl
  report_settles pausing k = run_settles (nat_abs q.request.steps) _ refl
  report_settles (resuming marks) k = absurd k

-- ---- runs of a source

-- an answer and a grid that are those of another report
agreeing : {f : ℕ} {p : Program} {q : Asked} {a b : Report} → Agree a b → Settles f p q b → Settles f p q a
agreeing {f} {p} {q} {a} {b} e h =
    record {
      settled = λ l.
          let s = h.settled (subst (λ (n : ℕ). 1 ≤ n) e.steps l) in
          record { number = e.number ∙ s.number; steps = e.steps ∙ s.steps; flags = λ c k. ap (λ (g : List ℤ). flag_at f p g c) e.grid ∙ s.flags c k };
    }

module _ (fit : Bool) (source : List ℕ) (h : InProfile fit source) where
  abbrev f : ℕ
  f = h.field

  abbrev p : Program
  p = h.read.program

  began : (q : Asked) → run_begins source q (read_source fit source) ≡ true → (admitted p (some f) q).number ≡ 0
  began q e = eqb-true _ 0 (sym (ap (run_begins source q) h.is_read ∙ ap (λ (k : Option ℕ). eqb (admitted p k q).number 0) h.is_flag) ∙ e)

  -- The steps of every run that begins.
  pub moves_once : (q : Asked) → run_begins source q (read_source fit source) ≡ true → MovesOnce f p q
  moves_once q e = program_moves f p h.tree q (began q e)

  -- The answer and the grid of every run that begins from no lent marks.
  pub settles : (manner : Manner) → Fresh manner → (q : Asked) → run_begins source q (read_source fit source) ≡ true → Settles f p q (run_source manner fit source q)
  unfolding run_source
  settles manner k q e =
      subst (Settles f p q)
      (sym (ap (run_read manner source q) h.is_read ∙ ap (λ (x : Option ℕ). run manner p x q) h.is_flag ∙ run_admitted p (some f) q manner (began q e)))
      (report_settles f p h.tree q (began q e) manner k)

  -- Calls that are joined, the first of them fresh, are one run: so are their answer and grid, and the steps of that run are those of all calls.
  pub chain_settles : (q : Asked) (rs : List Asked) (marks : List ℕ) → Chain pausing fit source q rs marks
      → MovesOnce f p (all_at_once q rs) × Settles f p (all_at_once q rs) (all_together pausing fit source q rs marks)
  chain_settles q rs marks c =
      let j = chain_joins pausing tt fit source q rs marks c in
      (moves_once (all_at_once q rs) j.begins, subst (Settles f p (all_at_once q rs)) j.report (settles pausing tt (all_at_once q rs) j.begins))

  -- A call that goes on where they stopped.
  pub link_settles : (q : Asked) (rs : List Asked) (r : Asked) (marks : List ℕ) → Chain pausing fit source q rs marks → GoesOn pausing fit source (all_at_once q rs) r
      → Settles f p r (run_source (resuming (last_marks pausing fit source q rs marks)) fit source r)
  link_settles q rs r marks c g = agreeing (link_agrees fit source q rs r marks c g) (settles full tt r g.later)
