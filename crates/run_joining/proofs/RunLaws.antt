-- A run of a program in two calls: both calls at once are admitted, and what they give is what the two give together.
use mathlib.Core.Path.{◌≡◌, refl, sym, ap, ap₂, ◌∙◌, subst}
use mathlib.Core.Bool.{Bool, true, false, not, ◌&&◌}
use mathlib.Core.List.{List, [], ◌∷◌, ◌++◌}
use mathlib.Core.Option.{Option, none}
use Prim.Native.Nat.{ℕ, zero, suc, ◌+◌, ◌≤◌, ◌<◌}
use native.Mathlib.Nat.{le_refl}
use native.Mathlib.Omega.{arith}
use lib.ListN.{length}
use lib.Dec.{eqb}
use lib.IntN.{ℤ, pos, negsuc, nat_abs, ◌+ℤ◌}
use lib.Signed.{le_z}
use borrow.Author.Tests.{leb-true, le-leb}
use Rattle.std.specs.Prelude.{if◌then◌else◌}
use Rattle.value.proofs.Theorems.Laws.{never, and_both}
use Rattle.automaton.specs.Step.{Fault, no_fault, fault_at, Automaton, marks_of, Step, Run, Quiet, marked, touched, open_in, Blocks, quiet_step, quiet_run}
use Rattle.automaton.proofs.Theorems.Quiet.{Lawful, quiet_then, quiet_run_from, quiet_agrees}
use Rattle.automaton.proofs.Theorems.Blocks.{Joined}
use Rattle.automaton.proofs.Theorems.Pause.{joined, pause}
use Rattle.program.specs.Syntax.{Program}
use Rattle.run_meaning.specs.Reach.{running}
use Rattle.program.specs.Refusal.{Refusal, refusal}
use Rattle.run_meaning.specs.Admission.{Request, good_sizes, good_rooms, good_times, too_far, out_of_field, admission}
use Rattle.run_meaning.specs.Report.{Manner, full, quiet, pausing, resuming, pending_of, ended}
use Rattle.cell_meaning.specs.Written.{written_in}
use Rattle.list_meaning.specs.Lines.{Said, said}
use Rattle.list_meaning.specs.ListChecking.{Limits, limits_of, time_behind, verdict, check_lines, check_list}
use Rattle.list_meaning.specs.Setting.{set_lines, set_block}
use Rattle.list_meaning.specs.Promises.Passing.{LinePasses, last_time}
use Rattle.list_meaning.proofs.Passing.{passes_first, passes_joined, said_joined}
use Rattle.run_calls.specs.Running.{Asked, admitted, blocks, report_of, standing}
use Rattle.run_calls.proofs.Theorems.RunningLaws.{request_admitted, counts_admitted, list_passes, all_admit}
use Rattle.run_steps.specs.Promises.Stepwise.{report_in}
use Rattle.run_joining.specs.Joins.{joined_rise, Pauses, at_once, together}
use Rattle.run_joining.proofs.ListLaws.{first_rises, behind_rises, passes_wider, passes_after, lines_join}

-- ---- a run that did all its steps has no fault

module _ {Grid State : Type 0} (M : Automaton Grid State) (block : Blocks Grid) where
  falls_short : (n : ℕ) (o : ℕ → Bool) (t : ℕ) (g : Grid) (c k p : ℕ) → (quiet_run M block o n t g).run.fault ≡ fault_at c k p → (quiet_run M block o n t g).run.steps < n
  falls_short zero o t g c k p e =
      let stop : no_fault ≡ fault_at c k p = sym (ap (λ (q : Quiet Grid). q.run.fault) (quiet_run_from M block o 0 t g)) ∙ e in
      absurd (let z : ◌≡◌ {A = ℕ} 0 1 = cc in omega arith)
  falls_short (suc n) o t g c k p e = go s.fault refl (falls_short n (touched M (block t g) s.grid) (suc t) s.grid c k p)
    where
      s : Step Grid
      s = quiet_step M (marks_of (open_in M o g (block t g)) M.cells) (block t g) t

      first : (a : Fault) → s.fault ≡ a → quiet_run M block o (suc n) t g ≡ quiet_then M block n t (block t g) a s.grid s.count
      first a q = quiet_run_from M block o (suc n) t g ∙ ap (λ (b : Fault). quiet_then M block n t (block t g) b s.grid s.count) q

      go : (a : Fault) → s.fault ≡ a
          → ((quiet_run M block (touched M (block t g) s.grid) n (suc t) s.grid).run.fault ≡ fault_at c k p → (quiet_run M block (touched M (block t g) s.grid) n (suc t) s.grid).run.steps < n)
          → (quiet_run M block o (suc n) t g).run.steps < suc n
      go no_fault q rest =
          let all = first no_fault q in
          rw (ap (λ (x : Quiet Grid). x.run.steps) all) (let l = rest (sym (ap (λ (x : Quiet Grid). x.run.fault) all) ∙ e) in omega arith)
      go (fault_at x y z) q rest = rw (ap (λ (x : Quiet Grid). x.run.steps) (first (fault_at x y z) q)) (omega arith)

  pub no_stop : (n : ℕ) (o : ℕ → Bool) (t : ℕ) (g : Grid) → (quiet_run M block o n t g).run.steps ≡ n → (quiet_run M block o n t g).run.fault ≡ no_fault
  no_stop n o t g e = by (quiet_run M block o n t g).run.fault refl
    where
      by : (f : Fault) → (quiet_run M block o n t g).run.fault ≡ f → f ≡ no_fault
      by no_fault q = refl
      by (fault_at c k p) q = absurd (let l = falls_short n o t g c k p q in omega arith)

-- ---- what a call gives, by the run that evaluates the open cells alone

abbrev pub quiet_of : Manner → Program → Asked → Quiet (List ℤ)
quiet_of manner p q =
    quiet_run (running p q.request.sizes) (blocks p q) (pending_of manner) (nat_abs q.request.steps) (nat_abs q.request.start) q.request.grid

module _ (p : Program) (q : Asked) (laws : Lawful (running p q.request.sizes)) where
  -- the report of a manner that leaves its marks standing, and these marks
  pub report_is : (manner : Manner) → Pauses manner → report_of manner p q ≡ report_in (quiet_of manner p q)
  unfolding report_of
  report_is full k = absurd k
  report_is quiet k = absurd k
  report_is pausing k =
      let agree = quiet_agrees (running p q.request.sizes) laws (blocks p q) (nat_abs q.request.steps) (nat_abs q.request.start) q.request.grid in
      sym (ap₂ (λ (r : Run (List ℤ)) (c : ℕ). ended r.fault r.steps c r.grid) agree.run agree.count)
  report_is (resuming marks) k = refl

pub standing_is : (manner : Manner) (p : Program) (q : Asked) → standing manner p q ≡ (quiet_of manner p q).marks
unfolding standing
standing_is manner p q = refl

pub steps_in : (r : Quiet (List ℤ)) → (report_in r).steps ≡ r.run.steps
steps_in r = by r.run.fault
  where
    by : (f : Fault) → (ended f r.run.steps r.count r.run.grid).steps ≡ r.run.steps
    by no_fault = refl
    by (fault_at c k p) = refl

pub grid_in : (r : Quiet (List ℤ)) → (report_in r).grid ≡ r.run.grid
grid_in r = by r.run.fault
  where
    by : (f : Fault) → (ended f r.run.steps r.count r.run.grid).grid ≡ r.run.grid
    by no_fault = refl
    by (fault_at c k p) = refl

-- the report of joined results
pub joined_report : (a b : Quiet (List ℤ)) → a.run.fault ≡ no_fault → report_in (joined a b) ≡ together (report_in a) (report_in b)
joined_report a b e = by b.run.fault ∙ ap (λ (f : Fault). together (ended f a.run.steps a.count a.run.grid) (report_in b)) (sym e)
  where
    by : (f : Fault) → ended f (a.run.steps + b.run.steps) (a.count + b.count) b.run.grid
        ≡ together (ended no_fault a.run.steps a.count a.run.grid) (ended f b.run.steps b.count b.run.grid)
    by no_fault = refl
    by (fault_at c k p) = refl

-- ---- both calls at once are admitted

-- a list that passes has the verdict 0, at line 0
verdict_zero : (q : Limits) (before : Option ℕ) (n : ℕ) (ss : List Said) → LinePasses q before n ss → check_lines q before n ss ≡ verdict 0 0
unfolding check_lines
verdict_zero q before n [] p = refl
verdict_zero q before n (s ∷ ss) p = let h = passes_first q before n s ss p in rw h.0 (verdict_zero q (time_behind before s) (suc n) ss h.1)

not_negative : (z : ℤ) → le_z (pos 0) z ≡ true → z ≡ pos (nat_abs z)
not_negative (pos n) e = refl
not_negative (negsuc n) e = never e

module _ (p : Program) where
  abbrev first_of : Bool → Bool → Bool → Refusal → Refusal → Refusal
  first_of sizes rooms times far out =
      if not sizes then refusal 20 0
      else if not rooms then refusal 21 0
      else if not times then refusal 22 0
      else if not (eqb far.number 0) then far
      else out

  times_pass : (q : Request) → (admission p q).number ≡ 0 → good_times q.start q.steps ≡ true
  unfolding admission
  times_pass q e = by (good_sizes p q.sizes) (good_rooms p q) (good_times q.start q.steps) (too_far q.sizes (written_in p)) (out_of_field p.fields 0 q.grid) e
    where
      by : (a b c : Bool) (f o : Refusal) → (first_of a b c f o).number ≡ 0 → c ≡ true
      by false b c f o h = absurd (omega arith)
      by true false c f o h = absurd (omega arith)
      by true true false f o h = absurd (omega arith)
      by true true true f o h = refl

  -- a run of other steps is admitted, if their sum with the start is right
  longer : (q : Request) (n : ℤ) → (admission p q).number ≡ 0 → good_times q.start n ≡ true
      → (admission p (record { sizes = q.sizes; grid = q.grid; start = q.start; steps = n; scratch = q.scratch; marks = q.marks })).number ≡ 0
  unfolding admission good_rooms
  longer q n e t = by (good_sizes p q.sizes) (good_rooms p q) (good_times q.start q.steps) (too_far q.sizes (written_in p)) (out_of_field p.fields 0 q.grid) e
    where
      by : (a b c : Bool) (f o : Refusal) → (first_of a b c f o).number ≡ 0 → (first_of a b (good_times q.start n) f o).number ≡ 0
      by false b c f o h = absurd (omega arith)
      by true false c f o h = absurd (omega arith)
      by true true false f o h = absurd (omega arith)
      by true true true f o h = rw t h

  -- start and steps, where they are right
  record Times (start steps : ℤ) : Type 0 where
    pub start_is : start ≡ pos (nat_abs start)
    pub steps_is : steps ≡ pos (nat_abs steps)
    pub few : nat_abs start + nat_abs steps ≤ 2147483647

  times_of : (start steps : ℤ) → good_times start steps ≡ true → Times start steps
  unfolding good_times
  times_of start steps e =
      let a = and_both (le_z (pos 0) start && le_z (pos 0) steps) (le_z (start +ℤ steps) (pos 2147483647)) e in
      let b = and_both (le_z (pos 0) start) (le_z (pos 0) steps) a.0 in
      let s = not_negative start b.0 in
      let n = not_negative steps b.1 in
      record {
        start_is = s;
        steps_is = n;
        few = leb-true (nat_abs start + nat_abs steps) 2147483647 (ap₂ (λ (x y : ℤ). le_z (x +ℤ y) (pos 2147483647)) (sym s) (sym n) ∙ a.1);
      }

  right_times : (start : ℤ) (n : ℕ) → start ≡ pos (nat_abs start) → nat_abs start + n ≤ 2147483647 → good_times start (pos n) ≡ true
  unfolding good_times
  right_times start n s l = rw (s, le-leb 0 (nat_abs start) (omega arith), le-leb 0 n (omega arith)) (le-leb (nat_abs start + n) 2147483647 l)

  module _ (flag : Option ℕ) (q r : Asked) (a : (admitted p flag q).number ≡ 0) (b : (admitted p flag r).number ≡ 0) (sizes : r.request.sizes ≡ q.request.sizes)
      (start : nat_abs r.request.start ≡ nat_abs q.request.start + nat_abs q.request.steps) (times : joined_rise q.values r.values ≡ true) where
    abbrev n : ℕ
    n = nat_abs q.request.steps

    abbrev m : ℕ
    m = nat_abs r.request.steps

    abbrev t : ℕ
    t = nat_abs q.request.start

    abbrev both : Limits
    both = limits_of p flag (at_once q r).request

    -- the joined list
    first : LinePasses (limits_of p flag q.request) none 1 (said q.values)
    first = list_passes p flag q a

    second : LinePasses (limits_of p flag r.request) none 1 (said r.values)
    second = list_passes p flag r b

    said_both : said (q.values ++ r.values) ≡ said q.values ++ said r.values
    unfolding check_list
    said_both = said_joined (limits_of p flag q.request) q.values r.values (verdict_zero (limits_of p flag q.request) none 1 (said q.values) first)

    rise : first_rises (last_time none (said q.values)) (said r.values) ≡ true
    rise = behind_rises none (said q.values) (said r.values) times

    pub at_once_admitted : (admitted p flag (at_once q r)).number ≡ 0
    at_once_admitted = all_admit p flag (at_once q r) (longer q.request (pos (n + m)) (request_admitted p flag q a) (right_times q.request.start (n + m) Tq.start_is few)) (counts_admitted p flag q a) (rw said_both pass)
      where
        Tq : Times q.request.start q.request.steps
        Tq = times_of q.request.start q.request.steps (times_pass q.request (request_admitted p flag q a))

        Tr : Times r.request.start r.request.steps
        Tr = times_of r.request.start r.request.steps (times_pass r.request (request_admitted p flag r b))

        few : nat_abs q.request.start + (n + m) ≤ 2147483647
        few = let f = Tr.few in let e = start in omega arith

        pass : LinePasses both none 1 (said q.values ++ said r.values)
        pass =
            passes_joined both (said q.values) (said r.values) none 1
            (passes_wider (limits_of p flag q.request) both refl refl refl (le_refl t) (omega arith) none 1 1 (said q.values) first)
            (passes_after both (last_time none (said q.values)) (1 + length (said q.values)) (said r.values)
            (passes_wider (limits_of p flag r.request) both (sym sizes) refl refl (let e = start in omega arith) (let e = start in omega arith) none 1 (1 + length (said q.values)) (said r.values) second) rise)

    -- what it sets is what the two lists set
    blocks_join : Joined (blocks p q) (set_block q.request.sizes (length p.fields) r.values) (blocks p (at_once q r)) (t + n)
    unfolding set_block
    blocks_join =
        subst (λ (ss : List Said). Joined (blocks p q) (set_block q.request.sizes (length p.fields) r.values) (λ u g. set_lines q.request.sizes (length p.fields) u false g ss) (t + n)) (sym said_both)
        (lines_join (limits_of p flag q.request) (limits_of p flag r.request) q.request.sizes (length p.fields) (said q.values) (said r.values) first second (t + n) refl start rise)

    -- ---- both calls

    module _ (laws : Lawful (running p q.request.sizes)) (manner : Manner) (done : (quiet_of manner p q).run.steps ≡ n) (grid : r.request.grid ≡ (quiet_of manner p q).run.grid) where
      pub stopped : (quiet_of manner p q).run.fault ≡ no_fault
      stopped = no_stop (running p q.request.sizes) (blocks p q) n (pending_of manner) t q.request.grid done

      pub both_calls : quiet_of manner p (at_once q r) ≡ joined (quiet_of manner p q) (quiet_of (resuming (standing manner p q)) p r)
      both_calls =
          pause (running p q.request.sizes) laws (blocks p q) (set_block q.request.sizes (length p.fields) r.values) (blocks p (at_once q r)) n m (pending_of manner) t q.request.grid blocks_join stopped
          ∙ ap (joined (quiet_of manner p q))
          (λ i. quiet_run (running p (sym sizes i)) (set_block (sym sizes i) (length p.fields) r.values) (marked (sym (standing_is manner p q) i)) m (sym start i) (sym grid i))
