-- Calls of a run that is paused and resumed give together what the run at once gives; and where they lead back to a fresh run, they agree with the full run.
use mathlib.Core.Path.{◌≡◌, refl, sym, ap, ap₂, ◌∙◌, subst, subst₂, transport}
use mathlib.Core.Bool.{Bool, true}
use mathlib.Core.List.{List, [], ◌∷◌}
use Prim.Native.Nat.{ℕ, ◌+◌, ◌≤◌}
use lib.IntN.{ℤ, nat_abs}
use borrow.Author.Tests.{eqb-true, eq-eqb}
use Rattle.std.specs.Prelude.{if◌then◌else◌}
use Rattle.value.proofs.Theorems.Laws.{never}
use Rattle.automaton.specs.Step.{Fault, no_fault, fault_at, Run, Quiet, every_cell, marked}
use Rattle.automaton.proofs.Theorems.Quiet as property
use Rattle.automaton.proofs.Theorems.Quiet.{Lawful, Settled, quiet_run_agrees, open_le_full}
use Rattle.automaton.proofs.Theorems.Pause.{joined}
use Rattle.program.specs.Syntax.{Program}
use Rattle.grammar.specs.Source.{Accepted}
use Rattle.grammar.specs.Checking as checking
use Rattle.grammar.specs.Checking.{SourceRead, turned_away, accepted, read_source}
use Rattle.run_meaning.specs.Reach.{running}
use Rattle.run_meaning.specs.Report.{Manner, full, quiet, pausing, resuming, Report, ended}
use Rattle.run_meaning.proofs.Theorems.Covering.{running_lawful}
use Rattle.run_meaning.proofs.Theorems.Ranges.{admitted_dims}
use Rattle.move_meaning.specs.Profile.{profile_flag}
use Rattle.run_calls.specs.Running.{Asked, admitted, blocks, report_of, standing}
use Rattle.run_calls.proofs.Theorems.RunningLaws.{request_admitted, run_admitted}
use Rattle.run_calls.specs.Services.{run_read, run_source, run_begins, when_begun, marks_admitted, marks_after}
use Rattle.run_calls.proofs.Theorems.AcceptedSources.{accepted_flagged}
use Rattle.run_steps.specs.Promises.Stepwise.{report_in}
use Rattle.run_source.specs.Promises.Agreement.{Agree}
use Rattle.run_source.proofs.Theorems.Property3.{paused_agrees}
use Rattle.run_joining.specs.Joins.{Pauses, GoesOn, joined_after, at_once, together, all_at_once, all_together, last_marks, Chain}
use Rattle.run_joining.proofs.RunLaws.{quiet_of, report_is, standing_is, steps_in, grid_in, joined_report, at_once_admitted, no_stop, stopped, both_calls}

-- ---- a run that began

-- the source of a run that began is accepted, and its program obeys the laws
record Began (fit : Bool) (source : List ℕ) (q : Asked) : Type 0 where
  pub read : Accepted
  pub is : read_source fit source ≡ accepted read
  pub admits : (admitted read.program (profile_flag source read) q).number ≡ 0

began : (fit : Bool) (source : List ℕ) (q : Asked) → run_begins source q (read_source fit source) ≡ true → Began fit source q
began fit source q e = by (read_source fit source) refl e
  where
    by : (o : SourceRead) → read_source fit source ≡ o → run_begins source q o ≡ true → Began fit source q
    by (turned_away n p) r h = never h
    by (checking.refused n p) r h = never h
    by (accepted a) r h = record { read = a; is = r; admits = eqb-true _ 0 h }

module _ {fit : Bool} {source : List ℕ} {q : Asked} (b : Began fit source q) where
  laws_of : Lawful (running b.read.program q.request.sizes)
  laws_of =
      running_lawful b.read.program q.request.sizes (admitted_dims b.read.program q.request (request_admitted b.read.program (profile_flag source b.read) q b.admits))
      (accepted_flagged fit source b.read b.is)

  source_report : (manner : Manner) → run_source manner fit source q ≡ report_of manner b.read.program q
  unfolding run_source
  source_report manner = ap (run_read manner source q) b.is ∙ run_admitted b.read.program (profile_flag source b.read) q manner b.admits

  quiet_report : (manner : Manner) → Pauses manner → run_source manner fit source q ≡ report_in (quiet_of manner b.read.program q)
  quiet_report manner k = source_report manner ∙ report_is b.read.program q laws_of manner k

  marks_left : (manner : Manner) → Pauses manner → (old : List ℕ) → marks_after manner fit source q old ≡ standing manner b.read.program q
  unfolding marks_after
  marks_left manner k old =
      ap (when_begun source q old (λ p. marks_admitted manner p q old)) b.is ∙ ap (λ (t : Bool). if t then marks_admitted manner b.read.program q old else old) (eq-eqb _ 0 b.admits) ∙ by manner k
    where
      by : (manner : Manner) → Pauses manner → marks_admitted manner b.read.program q old ≡ standing manner b.read.program q
      by full k = absurd k
      by quiet k = absurd k
      by pausing k = refl
      by (resuming marks) k = refl

-- ---- two calls

-- What two calls give together is what one call with the steps of both and the joined list gives, begun as the earlier call was; it leaves the same marks.
pub record Joins (manner : Manner) (fit : Bool) (source : List ℕ) (q r : Asked) (marks : List ℕ) : Type 0 where
  pub begins : run_begins source (at_once q r) (read_source fit source) ≡ true
  pub report : run_source manner fit source (at_once q r) ≡ together (run_source manner fit source q) (run_source (joined_after manner fit source q marks) fit source r)
  pub stands : marks_after manner fit source (at_once q r) marks ≡ marks_after (joined_after manner fit source q marks) fit source r (marks_after manner fit source q marks)

pub joins : (manner : Manner) → Pauses manner → (fit : Bool) (source : List ℕ) (q r : Asked) (marks : List ℕ) → GoesOn manner fit source q r → Joins manner fit source q r marks
joins manner k fit source q r marks g =
    record {
      begins = ap (run_begins source (at_once q r)) bq.is ∙ eq-eqb _ 0 bb.admits;
      report =
          quiet_report bb manner k ∙ ap report_in whole ∙ joined_report (quiet_of manner p q) (quiet_of (resuming (standing manner p q)) p r) still
          ∙ ap₂ together (sym (quiet_report bq manner k)) (sym (quiet_report br (resuming (standing manner p q)) tt) ∙ ap (λ (ms : List ℕ). run_source (resuming ms) fit source r) (sym (marks_left bq manner k marks)));
      stands =
          marks_left bb manner k marks ∙ standing_is manner p (at_once q r) ∙ ap (λ (x : Quiet (List ℤ)). x.marks) whole ∙ sym (standing_is (resuming (standing manner p q)) p r)
          ∙ sym (marks_left br (resuming (standing manner p q)) tt (marks_after manner fit source q marks))
          ∙ ap (λ (ms : List ℕ). marks_after (resuming ms) fit source r (marks_after manner fit source q marks)) (sym (marks_left bq manner k marks));
    }
  where
    bq : Began fit source q
    bq = began fit source q g.earlier

    p : Program
    p = bq.read.program

    br : Began fit source r
    br = record { read = bq.read; is = bq.is; admits = eqb-true _ 0 (sym (ap (run_begins source r) bq.is) ∙ g.later) }

    bb : Began fit source (at_once q r)
    bb = record { read = bq.read; is = bq.is; admits = at_once_admitted p (profile_flag source bq.read) q r bq.admits br.admits g.sizes g.start g.times }

    done : (quiet_of manner p q).run.steps ≡ nat_abs q.request.steps
    done = sym (steps_in (quiet_of manner p q)) ∙ sym (ap (λ (x : Report). x.steps) (quiet_report bq manner k)) ∙ g.done

    grid : r.request.grid ≡ (quiet_of manner p q).run.grid
    grid = g.grid ∙ ap (λ (x : Report). x.grid) (quiet_report bq manner k) ∙ grid_in (quiet_of manner p q)

    still : (quiet_of manner p q).run.fault ≡ no_fault
    still = stopped p (profile_flag source bq.read) q r bq.admits br.admits g.sizes g.start g.times (laws_of bq) manner done grid

    whole : quiet_of manner p (at_once q r) ≡ joined (quiet_of manner p q) (quiet_of (resuming (standing manner p q)) p r)
    whole = both_calls p (profile_flag source bq.read) q r bq.admits br.admits g.sizes g.start g.times (laws_of bq) manner done grid

-- ---- any number of calls

first_sizes : (q : Asked) (rs : List Asked) → (all_at_once q rs).request.sizes ≡ q.request.sizes
first_sizes q [] = refl
first_sizes q (r ∷ rs) = refl

first_grid : (q : Asked) (rs : List Asked) → (all_at_once q rs).request.grid ≡ q.request.grid
first_grid q [] = refl
first_grid q (r ∷ rs) = refl

first_start : (q : Asked) (rs : List Asked) → (all_at_once q rs).request.start ≡ q.request.start
first_start q [] = refl
first_start q (r ∷ rs) = refl

-- Calls one after the other, each from the marks that the one before left, give together what one call with all their steps and the joined lists gives, begun as
-- the first was; the last leaves the same marks.
pub record ChainJoins (manner : Manner) (fit : Bool) (source : List ℕ) (q : Asked) (rs : List Asked) (marks : List ℕ) : Type 0 where
  pub begins : run_begins source (all_at_once q rs) (read_source fit source) ≡ true
  pub report : run_source manner fit source (all_at_once q rs) ≡ all_together manner fit source q rs marks
  pub stands : marks_after manner fit source (all_at_once q rs) marks ≡ last_marks manner fit source q rs marks

pub chain_joins : (manner : Manner) → Pauses manner → (fit : Bool) (source : List ℕ) (q : Asked) (rs : List Asked) (marks : List ℕ) → Chain manner fit source q rs marks
    → ChainJoins manner fit source q rs marks
unfolding all_together last_marks
chain_joins manner k fit source q [] marks c = record { begins = c; report = refl; stands = refl }
chain_joins manner k fit source q (r ∷ rs) marks c =
    let rest = chain_joins (joined_after manner fit source q marks) tt fit source r rs (marks_after manner fit source q marks) c.2 in
    let two = joins manner k fit source q (all_at_once r rs) marks (record {
      earlier = c.0.earlier;
      later = rest.begins;
      done = c.0.done;
      sizes = first_sizes r rs ∙ c.0.sizes;
      grid = first_grid r rs ∙ c.0.grid;
      start = ap nat_abs (first_start r rs) ∙ c.0.start;
      times = c.1;
    }) in
    record { begins = two.begins; report = two.report ∙ ap (together (run_source manner fit source q)) rest.report; stands = two.stands ∙ rest.stands }

-- ---- property 3 of calls that lead back to a fresh run

-- Together they agree with the full run of all at once.
pub chain_agrees : (fit : Bool) (source : List ℕ) (q : Asked) (rs : List Asked) (marks : List ℕ) → Chain pausing fit source q rs marks
    → Agree (all_together pausing fit source q rs marks) (run_source full fit source (all_at_once q rs))
chain_agrees fit source q rs marks c =
    subst (λ (x : Report). Agree x (run_source full fit source (all_at_once q rs))) (chain_joins pausing tt fit source q rs marks c).report (paused_agrees fit source (all_at_once q rs))

agree_by : (a : Quiet (List ℤ)) (b : Run (List ℤ)) (count : ℕ) → a.run ≡ b → a.count ≤ count → Agree (report_in a) (ended b.fault b.steps count b.grid)
agree_by a b count e l = subst (λ (x : Run (List ℤ)). Agree (report_in a) (ended x.fault x.steps count x.grid)) e (by a.run.fault)
  where
    by : (f : Fault) → Agree (ended f a.run.steps a.count a.run.grid) (ended f a.run.steps count a.run.grid)
    by no_fault = record { number = refl; place = refl; line = refl; cell = refl; steps = refl; grid = refl; count = l }
    by (fault_at cell number place) = record { number = refl; place = refl; line = refl; cell = refl; steps = refl; grid = refl; count = l }

-- A call that goes on where a fresh one stopped agrees with the full run of what it is asked.
pub resumed_agrees : (fit : Bool) (source : List ℕ) (q r : Asked) (marks : List ℕ) → GoesOn pausing fit source q r
    → Agree (run_source (joined_after pausing fit source q marks) fit source r) (run_source full fit source r)
unfolding report_of
resumed_agrees fit source q r marks g =
    subst₂ Agree
    (sym (quiet_report br (resuming (standing pausing p q)) tt) ∙ ap (λ (ms : List ℕ). run_source (resuming ms) fit source r) (sym (marks_left bq pausing tt marks)))
    (sym (source_report br full))
    (agree_by (quiet_of (resuming (standing pausing p q)) p r) _ _ each.run (rw each.count (open_le_full (running p r.request.sizes) (blocks p r) m (marked (standing pausing p q)) (nat_abs r.request.start) r.request.grid)))
  where
    bq : Began fit source q
    bq = began fit source q g.earlier

    p : Program
    p = bq.read.program

    br : Began fit source r
    br = record { read = bq.read; is = bq.is; admits = eqb-true _ 0 (sym (ap (run_begins source r) bq.is) ∙ g.later) }

    m : ℕ
    m = nat_abs r.request.steps

    done : (quiet_of pausing p q).run.steps ≡ nat_abs q.request.steps
    done = sym (steps_in (quiet_of pausing p q)) ∙ sym (ap (λ (x : Report). x.steps) (quiet_report bq pausing tt)) ∙ g.done

    grid : r.request.grid ≡ (quiet_of pausing p q).run.grid
    grid = g.grid ∙ ap (λ (x : Report). x.grid) (quiet_report bq pausing tt) ∙ grid_in (quiet_of pausing p q)

    settled : Settled (running p q.request.sizes) (marked (quiet_of pausing p q).marks) (quiet_of pausing p q).run.grid (nat_abs q.request.start + nat_abs q.request.steps)
    settled =
        (quiet_run_agrees (running p q.request.sizes) (laws_of bq) (blocks p q) (nat_abs q.request.steps) every_cell (nat_abs q.request.start) q.request.grid
        (λ c l untimed shut. never (sym shut))).standing
        (no_stop (running p q.request.sizes) (blocks p q) (nat_abs q.request.steps) every_cell (nat_abs q.request.start) q.request.grid done)

    each : property.Agree (running p r.request.sizes) (laws_of br) (blocks p r) (marked (standing pausing p q)) m (nat_abs r.request.start) r.request.grid
    each =
        quiet_run_agrees (running p r.request.sizes) (laws_of br) (blocks p r) m (marked (standing pausing p q)) (nat_abs r.request.start) r.request.grid
        (transport (λ i. Settled (running p (sym g.sizes i)) (marked (sym (standing_is pausing p q) i)) (sym grid i) (sym g.start i)) settled)

-- So does each call of a chain: those before it are one fresh call.
pub link_agrees : (fit : Bool) (source : List ℕ) (q : Asked) (rs : List Asked) (r : Asked) (marks : List ℕ) → Chain pausing fit source q rs marks → GoesOn pausing fit source (all_at_once q rs) r
    → Agree (run_source (resuming (last_marks pausing fit source q rs marks)) fit source r) (run_source full fit source r)
link_agrees fit source q rs r marks c g =
    subst (λ (ms : List ℕ). Agree (run_source (resuming ms) fit source r) (run_source full fit source r)) (chain_joins pausing tt fit source q rs marks c).stands (resumed_agrees fit source (all_at_once q rs) r marks g)
