-- A run under a plan as a whole: what it leaves, by the ways through its code.
use Prim.Native.Nat.{ℕ, zero, suc, ◌*◌, ◌<◌, ◌≤◌}
use native.Mathlib.Omega.{arith}
use mathlib.Core.Path.{◌≡◌, refl, sym, ap, ap₂, ◌∙◌, subst, subst₂}
use mathlib.Core.Bool.{Bool, true, false, not, ◌&&◌}
use mathlib.Core.List.{List, ◌∷◌}
use mathlib.Core.Option.{Option}
use lib.ListN.{length, get_or, drop, replicate}
use lib.Dec.{eqb}
use lib.IntN.{ℤ, pos}
use mir.Syntax.{w64}
use mir.Val.{SFits, to_z, of_z}
use mir.Facts.{to_z-of_z}
use borrow.Author.Tests.{eq-eqb, ne_eqb, eqb-true, eqb-false, not-true, not-false}
use Rattle.std.specs.Prelude.{Result, Ok, Err, if◌then◌else◌}
use Rattle.automaton.specs.Shape.{product, Bound}
use Rattle.token.specs.Lexeme.{is_built_in}
use Rattle.program.specs.Syntax.{Program}
use Rattle.program.specs.declared.Rule.{Rule}
use Rattle.grammar.specs.Source.{Accepted}
use Rattle.grammar.specs.Checking as checking
use Rattle.grammar.specs.Checking.{SourceRead, turned_away, accepted, rooms_fit, read_source, words_after}
use Rattle.grammar.specs.Promises.Flat.{names_after}
use Rattle.move_meaning.specs.Profile.{profile_flag}
use Rattle.run_meaning.specs.declared.Reach.{Reach}
use Rattle.run_meaning.specs.Reach.{reach, reach_from}
use Rattle.run_meaning.specs.Report as report
use Rattle.run_meaning.specs.Report.{full}
use Rattle.run_meaning.specs.Promises.Fitting.{bound_at, bounds_of, Near, held_fields}
use Rattle.list_meaning.specs.ListChecking.{Turned}
use Rattle.run_calls.specs.Running.{Asked, admitted}
use Rattle.run_calls.proofs.Theorems.RunningLaws.{turned, run_refused}
use Rattle.run_calls.specs.Services.{run_begins, run_read, run_source}
use Rattle.run_calls.specs.Calls.{NameForm, flat_names, Memory, memory, lent, fits, asked, read_lent, names_left}
use Rattle.run_calls.proofs.Theorems.AcceptedSources.{accepted_declared}
use Rattle.band_meaning.specs.Edge.{edge_of, edge}
use Rattle.band_meaning.specs.Plans.{plan_right, plan_fits}
use Rattle.band_meaning.proofs.Theorems.EdgeTheorems.{edge_in_box}
use Rattle.band_planner.specs.declared.borders.Border.{Border}
use Rattle.band_planner.specs.Promises.Borders.{border_of, BordersOf}
use Rattle.band_planner.proofs.BorderLaws.{first_bound}
use Rattle.run_steps.specs.declared.Report.{Report}
use Rattle.run_steps.specs.Promises.Stepwise.{Runs}
use Rattle.run_source.specs.declared.opening.Opening.{Opening}
use Rattle.run_source.specs.declared.opening.Stop.{Stop}
use Rattle.run_source.specs.Promises.Sourcewise.{RunBegun, RunOpens}
use Rattle.run_source.specs.Promises.Public.{RunLeaves}
use Rattle.band_run.specs.BandedRun.{room_right, admitted_under, BandedLent, banded_lent, under, left_refused, left_full, left_turned, left_read, banded_left}
use Rattle.band_run.specs.Promises.Rooms.{TriesRoom}
use Rattle.band_run.specs.Promises.Running.{UnderPlan, BandedLeaves, BandsListed}
use Rattle.band_run.proofs.PlanLaws.{first_some}
use Rattle.band_run.proofs.RefusalLaws.{with_scratch, tried_refuses, under_as, under_60}

-- ---- what is left, by its parts

-- the report of a refused run
abbrev pub refused_with : ℕ → ℕ → ℕ → Report
refused_with number place line = record { number = number; place = place; line = line; cell = 0; steps = 0; count = 0 }

module _ {N : Type 0} (form : NameForm N) (l : BandedLent N) where
  pub leaves_refused : {words : List ℕ} {names : List N} {number place line : ℕ} → words ≡ words_after (fits form l.run) l.run.source l.run.memory.words
      → names ≡ names_left form (fits form l.run) l.run.source l.run.memory.names → left_refused form l number place line ≡ banded_left form l
      → BandedLeaves form l (refused_with number place line) (memory words names l.run.memory.grid l.run.memory.scratch l.run.memory.marks l.run.memory.counts) l.room
  leaves_refused {words} {names} {number} {place} {line} w n e =
      record {
        is = (λ i. record {
          left = record {
            report = report.refused number place line l.run.memory.grid;
            memory = memory (w i) (n i) l.run.memory.grid l.run.memory.scratch l.run.memory.marks l.run.memory.counts;
          };
          room = l.room;
        })
            ∙ e;
      }

  pub leaves_full : {said : Report} {m : Memory N} {room : List ℤ} → RunLeaves form full l.run said m → room ≡ replicate (length l.room) (pos 0) → left_full form l ≡ banded_left form l
      → BandedLeaves form l said m room
  leaves_full ran r e = record { is = ap₂ (λ x y. record { left = x; room = y }) ran.is r ∙ e }

  -- ---- by what is read

  -- of an accepted source, by whether the run is admitted
  module _ (a : Accepted) (is : read_lent form l.run ≡ accepted a) where
    abbrev turned_by : Turned
    turned_by = admitted_under a.program (profile_flag l.run.source a) (asked l.run) (under l)

    left_by : (t : Turned) → turned_by ≡ t → left_turned form l t ≡ banded_left form l
    unfolding banded_left
    left_by t e = sym (ap (left_read form l) is ∙ ap (left_turned form l) e)

    pub left_none : turned_by.number ≡ 0 → left_full form l ≡ banded_left form l
    left_none z = sym (ap (λ (b : Bool). if b then left_full form l else left_refused form l turned_by.number turned_by.place turned_by.line) (eq-eqb turned_by.number 0 z)) ∙ left_by turned_by refl

    pub left_some : {number place line : ℕ} → turned_by ≡ turned number place line → (number ≡ 0 → ⊥) → left_refused form l number place line ≡ banded_left form l
    left_some {number} {place} {line} e n =
        sym (ap (λ (b : Bool). if b then left_full form l else left_refused form l number place line) (ne_eqb number 0 n)) ∙ left_by (turned number place line) e

  -- a run with the tried length of scratch that does not begin
  module _ {tried : ℕ} (tries : TriesRoom l.run.sizes (length l.run.memory.grid) (length l.run.memory.scratch) l.held (length l.room) tried) where
    abbrev tried_asked : Asked
    tried_asked = with_scratch (asked l.run) tried

    pub left_closed : {number place line : ℕ} → run_begins l.run.source tried_asked (read_lent form l.run) ≡ false
        → run_source full (fits form l.run) l.run.source tried_asked ≡ report.refused number place line l.run.memory.grid
        → left_refused form l number place line ≡ banded_left form l
    unfolding run_source banded_left
    left_closed {number} {place} {line} c e = by (read_lent form l.run) refl c e
      where
        same : {n p k : ℕ} → report.refused n p k l.run.memory.grid ≡ report.refused number place line l.run.memory.grid → left_refused form l number place line ≡ left_refused form l n p k
        same q = sym (ap (λ (r : report.Report). left_refused form l r.number r.place r.line) q)

        by : (o : SourceRead) → read_lent form l.run ≡ o → run_begins l.run.source tried_asked o ≡ false → run_read full l.run.source tried_asked o ≡ report.refused number place line l.run.memory.grid
            → left_refused form l number place line ≡ left_read form l (read_lent form l.run)
        by (turned_away n p) is d q = same q ∙ ap (left_read form l) (sym is)
        by (checking.refused n p) is d q = same q ∙ ap (left_read form l) (sym is)
        by (accepted a) is d q =
            let flag = profile_flag l.run.source a in
            let out = eqb-false (admitted a.program flag tried_asked).number 0 d in
            same (sym (run_refused a.program flag tried_asked full out) ∙ q)
            ∙ left_some a is (tried_refuses a.program flag (accepted_declared (fits form l.run) l.run.source a is).dims (asked l.run) (under l) tries out) out

-- ---- the border rows

module _ {words : List ℕ} {rule : Rule} {r : Reach} {b : Border} (borders : BordersOf r b) (some_dims : 0 < rule.dims) where
  -- they are those of every program with this reach
  edge_is : {timed : Bool} (p : Program) → Runs words rule r timed p → edge p ≡ border_of b
  unfolding edge reach
  edge_is p h = ap₂ (λ (bs : List Bound) (ps : Option (List (List ℤ))). edge_of (reach_from bs ps)) h.reaches h.lists ∙ sym (borders.is rule.dims some_dims)

  -- and no more than the rows, where no index is too far
  edge_near : {timed : Bool} (sizes : List ℕ) (p : Program) → Runs words rule r timed p → 0 < length sizes → Near sizes r.bounds → (b.before ≤ get_or sizes 0 0) × (b.behind ≤ get_or sizes 0 0)
  edge_near sizes p h l near =
      let first = first_of rule.dims some_dims in
      let within = edge_in_box p (bound_at r.bounds 0) first.0 (h.reaches ∙ first.1) in
      (omega (arith, within.0, (near 0 l).0, ap (λ (x : Bound). x.back) (edge_is p h)), omega (arith, within.1, (near 0 l).1, ap (λ (x : Bound). x.ahead) (edge_is p h)))
    where
      first_of : (dims : ℕ) → 0 < dims → (bs : List Bound) × (bounds_of r.bounds dims ≡ bound_at r.bounds 0 ∷ bs)
      first_of zero l = absurd (omega arith)
      first_of (suc dims) l = first_bound r dims

-- ---- the ways through

module _ (l : BandedLent ℕ) (list : is_built_in l.run.list ≡ true) {tried : ℕ}
    (tries : TriesRoom l.run.sizes (length l.run.memory.grid) (length l.run.memory.scratch) l.held (length l.room) tried) {r : Result Opening Stop} {ws' ns' : List ℕ}
    (opened : RunOpens (rooms_fit (length l.run.memory.words) (length l.run.memory.names)) l.run.source l.run.memory.words l.run.memory.names (with_scratch (asked l.run) tried) r ws' ns') where
  opens : RunOpens (fits flat_names l.run) l.run.source l.run.memory.words l.run.memory.names (with_scratch (asked l.run) tried) r ws' ns'
  opens =
      subst (λ (fit : Bool). RunOpens fit l.run.source l.run.memory.words l.run.memory.names (with_scratch (asked l.run) tried) r ws' ns')
      (sym (ap (λ (t : Bool). t && rooms_fit (length l.run.memory.words) (length l.run.memory.names)) list)) opened

  turns_away : {number place line : ℕ} → left_refused flat_names l number place line ≡ banded_left flat_names l
      → BandedLeaves flat_names l (refused_with number place line) (memory ws' ns' l.run.memory.grid l.run.memory.scratch l.run.memory.marks l.run.memory.counts) l.room
  unfolding names_after
  turns_away e = leaves_refused flat_names l opens.words opens.names e

  -- the run does not begin
  pub closed_run : {s : Stop} → r ≡ Err s
      → BandedLeaves flat_names l (refused_with s.number s.place s.line) (memory ws' ns' l.run.memory.grid l.run.memory.scratch l.run.memory.marks l.run.memory.counts) l.room
  closed_run {s} e = turns_away (left_closed flat_names l tries (opens.closed s e) (opens.refuses s e full))

  module _ {o : Opening} (e : r ≡ Ok o) where
    tried_begun : RunBegun (fits flat_names l.run) l.run.source (with_scratch (asked l.run) tried) ws' o.rule o.reach
    tried_begun = opens.opened o e

    pub some_sizes : 0 < length l.run.sizes
    some_sizes = omega (arith, tried_begun.shaped.dims, tried_begun.some_dims)

    first_size : 0 < get_or l.run.sizes 0 0
    first_size = first_some l.run.sizes some_sizes tried_begun.shaped.positive

    -- the room is right, since the length of scratch passed
    rows_right : eqb (length l.room) (l.held * product (drop 1 l.run.sizes) * o.rule.fields) ≡ true
    rows_right = by (eqb (length l.room) (l.held * product (drop 1 l.run.sizes) * o.rule.fields)) refl
      where
        by : (t : Bool) → eqb (length l.room) (l.held * product (drop 1 l.run.sizes) * o.rule.fields) ≡ t → t ≡ true
        by true q = refl
        by false q = absurd (tries.wrong o.rule.fields first_size (sym tried_begun.shaped.entries) q tried_begun.scratch_fits)

    tried_is : tried ≡ length l.run.memory.scratch
    tried_is = tries.right o.rule.fields first_size (sym tried_begun.shaped.entries) rows_right

    -- so it is the run of the true length
    pub opened_full : RunOpens (rooms_fit (length l.run.memory.words) (length l.run.memory.names)) l.run.source l.run.memory.words l.run.memory.names (asked l.run) r ws' ns'
    opened_full =
        subst (λ (n : ℕ). RunOpens (rooms_fit (length l.run.memory.words) (length l.run.memory.names)) l.run.source l.run.memory.words l.run.memory.names (with_scratch (asked l.run) n) r ws' ns') tried_is opened

    abbrev program : Program
    program = tried_begun.read.program

    abbrev flag : Option ℕ
    flag = profile_flag l.run.source tried_begun.read

    admits : (admitted program flag (asked l.run)).number ≡ 0
    admits = ap (λ (n : ℕ). (admitted program flag (with_scratch (asked l.run) n)).number) (sym tried_is) ∙ tried_begun.admits

    room_is : room_right program l.run.sizes (under l) ≡ true
    unfolding room_right
    room_is = ap (λ (n : ℕ). eqb (length l.room) (l.held * product (drop 1 l.run.sizes) * n)) (held_fields program tried_begun.runs.holds) ∙ rows_right

    module _ {b : Border} (borders : BordersOf o.reach b) {t : Bool} (tests : t ≡ plan_right (get_or l.run.sizes 0 0) (border_of b) l.held l.plan) where
      plan_is : plan_fits program l.run.sizes l.held l.plan ≡ t
      unfolding plan_fits
      plan_is = ap (λ (x : Bound). plan_right (get_or l.run.sizes 0 0) x l.held l.plan) (edge_is borders tried_begun.some_dims program tried_begun.runs) ∙ sym tests

      -- the plan is not accepted
      pub other_plan : not t ≡ true
          → BandedLeaves flat_names l (refused_with 60 0 0) (memory ws' ns' l.run.memory.grid l.run.memory.scratch l.run.memory.marks l.run.memory.counts) l.room
      other_plan f = turns_away (left_some flat_names l tried_begun.read tried_begun.is (under_60 program flag (asked l.run) (under l) room_is admits (plan_is ∙ not-true t f)) (λ z. omega (arith, z)))

      module _ (f : not t ≡ false) where
        pub under_plan : UnderPlan ws' o.rule l.run.sizes o.reach (border_of b) l.held l.plan (length l.room)
        under_plan =
            let near = edge_near borders tried_begun.some_dims l.run.sizes program tried_begun.runs some_sizes tried_begun.near in
            record {
              back = near.0;
              ahead = near.1;
              borders = λ p h. edge_is borders tried_begun.some_dims p h;
              right = sym tests ∙ not-false t f;
              room_is = eqb-true _ _ rows_right;
            }

        -- the run ends
        pub planned_done : {said : Report} {m : Memory ℕ} {room : List ℤ} → RunLeaves flat_names full l.run said m → room ≡ replicate (length l.room) (pos 0) → BandedLeaves flat_names l said m room
        planned_done ran q =
            leaves_full flat_names l ran q
            (left_none flat_names l tried_begun.read tried_begun.is
            (ap (λ (x : Turned). x.number) (under_as program flag (asked l.run) (under l) room_is (plan_is ∙ not-false t f)) ∙ admits))

-- ---- the call

-- the times as the machine reads them
pub read_times : {N : Type 0} {form : NameForm N} {source list sizes values : List ℕ} {m m' : Memory N} {start steps : ℤ} {counted : Bool} {field held : ℕ} {plan : List ℕ} {room room' : List ℤ} {said : Report} → SFits w64 start → SFits w64 steps
    → BandedLeaves form (banded_lent (lent source list sizes m values (to_z w64 (of_z w64 start)) (to_z w64 (of_z w64 steps)) counted field) held plan room) said m' room'
    → BandedLeaves form (banded_lent (lent source list sizes m values start steps counted field) held plan room) said m' room'
read_times {N} {form} {source} {list} {sizes} {values} {m} {m'} {start} {steps} {counted} {field} {held} {plan} {room} {room'} {said} h k =
    subst₂ (λ (a b : ℤ). BandedLeaves form (banded_lent (lent source list sizes m values a b counted field) held plan room) said m' room') (to_z-of_z h) (to_z-of_z k)

-- another list than the built-in one: nothing is read, and nothing changes
pub unlisted_run : {N : Type 0} (form : NameForm N) (l : BandedLent N) → fits form l.run ≡ false → BandedLeaves form l (refused_with 1 0 0) l.run.memory l.room
unfolding words_after read_source banded_left
unlisted_run form l e = leaves_refused form l (rw e) (rw e) (sym (ap (λ (fit : Bool). left_read form l (read_source fit l.run.source)) e))

module _ (l : BandedLent ℕ) {t : Bool} (is : t ≡ is_built_in l.run.list) where
  pub unlisted : not t ≡ true → BandedLeaves flat_names l (refused_with 1 0 0) l.run.memory l.room
  unlisted n = unlisted_run flat_names l (ap (λ (u : Bool). u && rooms_fit (length l.run.memory.words) (length l.run.memory.names)) (sym is ∙ not-true t n))

pub listed : {list : List ℕ} {t : Bool} → t ≡ is_built_in list → not t ≡ false → {lends : List ℕ → BandedLent ℕ} {said : Report} {m : Memory ℕ} {room : List ℤ}
    → BandsListed lends said m room → BandedLeaves flat_names (lends list) said m room
listed {list} {t} is n h = h.each list (sym is ∙ not-false t n)
