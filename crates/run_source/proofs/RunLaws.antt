-- A run as a whole: what its steps give is the report of the definition, and the rooms are left as it says.
use Prim.Native.Nat.{ℕ}
use native.Mathlib.Omega.{arith}
use mathlib.Core.Path.{◌≡◌, refl, sym, ap, ap₂, ◌∙◌, subst, subst₂}
use mathlib.Core.Bool.{Bool, true, false, not, ◌&&◌}
use mathlib.Core.List.{List}
use mathlib.Core.Option.{none}
use lib.ListN.{length, get_or, replicate, length-replicate}
use lib.Dec.{T, eqb, ltb}
use lib.IntN.{ℤ, pos, nat_abs}
use lib.Signed.{non_neg}
use mir.Syntax.{w32, w64}
use mir.Val.{Fits, SFits, to_z, of_z}
use mir.Facts.{to_z-of_z}
use borrow.Author.Tests.{eq-eqb, eqb-true, ltb-true, not-true, not-false}
use Rattle.std.specs.Prelude.{if◌then◌else◌}
use Rattle.value.proofs.Theorems.Laws.{never, and_both}
use Rattle.automaton.specs.Rows.{row_counts}
use Rattle.automaton.specs.Step.{Quiet as Gives, Run, Blocks, every_cell, run_of, open_count, full_count, quiet_run}
use Rattle.automaton.proofs.Theorems.Quiet.{Lawful, quiet_agrees}
use Rattle.automaton.specs.Grid.{automaton}
use Rattle.automaton.proofs.Theorems.Going.{always_open, full_run}
use Rattle.program.specs.Syntax.{Program}
use Rattle.program.specs.declared.Rule.{Rule}
use Rattle.token.specs.Bytes.{same as same_bytes}
use Rattle.token.specs.Lexeme.{built_in_names, is_built_in}
use Rattle.grammar.specs.Checking as checking
use Rattle.grammar.specs.Checking.{SourceRead, turned_away, accepted, rooms_fit, read_source, words_after}
use Rattle.grammar.specs.Promises.Flat.{names_after}
use Rattle.cell_meaning.specs.Evaluation.{evaluate}
use Rattle.cell_meaning.specs.Written.{relatives_in, written_in}
use Rattle.cell_meaning.specs.Places.{places}
use Rattle.run_meaning.specs.declared.Reach.{Reach}
use Rattle.run_meaning.specs.Reach.{box, reach, running}
use Rattle.run_meaning.proofs.Theorems.Covering.{running_lawful}
use Rattle.run_meaning.specs.Report as report
use Rattle.run_meaning.specs.Report.{Manner, full, quiet, ended}
use Rattle.run_meaning.specs.Promises.Fitting.{held_fields}
use Rattle.list_meaning.specs.Setting.{set_block}
use Rattle.move_meaning.specs.Profile.{profile_flag}
use Rattle.run_calls.specs.Running.{counts_of, Asked, good_counts, admitted, blocks, report_of, standing}
use Rattle.run_calls.proofs.Theorems.RunningLaws.{run_admitted, counts_admitted as counts_admits}
use Rattle.run_calls.specs.Services.{run_begins, run_read, run_source, room_after, when_begun, marks_admitted, marks_after, counts_admitted, counts_after}
use Rattle.run_calls.specs.Calls.{NameForm, flat_names, Memory, memory, Lent, lent, fits, asked, read_lent, run_report, names_left, run_left}
use Rattle.run_calls.specs.RangesKept.{RangesKept}
use Rattle.run_calls.proofs.Theorems.GridInRanges.{grid_in_ranges}
use Rattle.run_steps.specs.declared.Report.{Report}
use Rattle.run_steps.specs.declared.Manner.{Manner as Way}
use Rattle.run_steps.specs.declared.Manner.TheVariants.{Full, Quiet, Pausing, Resuming}
use Rattle.run_source.specs.declared.opening.Opening.{Opening}
use Rattle.run_source.specs.declared.opening.Stop.{Stop}
use Rattle.std.specs.Prelude.{Result, Ok, Err}
use Rattle.run_steps.specs.Promises.Stepwise.{pending_in, Begins, blocks_in, Runs, steps_give, report_in, Ran}
use Rattle.run_steps.specs.Told.{told}
use Rattle.run_steps.specs.Promises.Countwise.{CountsFit, CountsFilled, Tallied}
use Rattle.run_steps.proofs.StepwiseLaws.{runs_sound}
use Rattle.run_source.specs.Promises.Sourcewise.{every_step, marks_left, RunBegun, RunOpens, RunsListed}
use Rattle.run_source.specs.Promises.Public.{manner_of, is_resumed, RunLeaves}
use Rattle.run_source.specs.Promises.Agreement.{Agree, AgreesFresh}
use Rattle.run_source.proofs.Theorems.Property3.{same, property_3, paused_agrees}
use Rattle.run_admission.proofs.RequestLaws.{cast_in}

-- ---- a full run: every cell is open in each step, as if `time` stood in the source

abbrev always : Program → Program
always p = record { dims = p.dims; fields = p.fields; slots = p.slots; body = p.body; timed = true }

runs_always : {words : List ℕ} {rule : Rule} {r : Reach} {timed : Bool} {p : Program} → Runs words rule r timed p → Runs words rule r true (always p)
unfolding box written_in places relatives_in
runs_always h =
    record {
      holds = record { dims = h.holds.dims; fields = h.holds.fields; slots = h.holds.slots; body = h.holds.body };
      reaches = h.reaches;
      lists = h.lists;
      timed = refl;
      flagged = λ _. refl;
    }

running_always : (p : Program) (sizes : List ℕ) → running (always p) sizes ≡ always_open (running p sizes)
unfolding running automaton evaluate reach box written_in places relatives_in
running_always p sizes = refl

-- the report of a run that began, by the count
abbrev report_by : Program → List ℕ → Blocks (List ℤ) → ℕ → ℕ → List ℤ → ℕ → report.Report
report_by p sizes block n t g count = let r = run_of (running p sizes) block n t g in ended r.fault r.steps count r.grid

module _ (p : Program) (sizes : List ℕ) (block : Blocks (List ℤ)) (n t : ℕ) (g : List ℤ) (laws : Lawful (running p sizes)) where
  steps_full : report_in (steps_give (always p) sizes block every_cell n t g) ≡ report_by p sizes block n t g (full_count (running p sizes) block n t g)
  steps_full =
      let both = full_run (running p sizes) laws block n every_cell t g in
      ap (λ (M : _). report_in (quiet_run M block every_cell n t g)) (running_always p sizes)
      ∙ ap₂ (λ (r : Run (List ℤ)) (k : ℕ). ended r.fault r.steps k r.grid) both.0 both.1

  steps_quiet : report_in (steps_give p sizes block every_cell n t g) ≡ report_by p sizes block n t g (open_count (running p sizes) block every_cell n t g)
  steps_quiet =
      let agree = quiet_agrees (running p sizes) laws block n t g in
      ap₂ (λ (r : Run (List ℤ)) (k : ℕ). ended r.fault r.steps k r.grid) agree.run agree.count

-- ---- the report

module _ {fit : Bool} {source : List ℕ} {q : Asked} {words : List ℕ} {rule : Rule} {r : Reach} (b : RunBegun fit source q words rule r) where
  pub begins_run : {room : List ℤ} {marked : List ℕ} → q.request.scratch ≡ length room → q.request.marks ≡ length marked
      → Begins words rule q.request.sizes r q.request.grid room marked q.values (nat_abs q.request.start) (nat_abs q.request.steps)
  begins_run e f =
      record {
        rule_fits = b.rule_fits;
        some_dims = b.some_dims;
        shaped = b.shaped;
        scratch_fits = sym e ∙ b.scratch_fits;
        marks_fit = sym f ∙ b.marks_fit;
        near = b.near;
        sound = runs_sound b.runs;
        times = b.times;
        dimensions = b.dimensions;
        listed = b.listed;
      }

  laws : Lawful (running b.read.program q.request.sizes)
  laws = running_lawful b.read.program q.request.sizes (b.shaped.dims ∙ sym b.runs.holds.dims) b.runs.flagged

  -- the blocks of the code are the program's
  blocks_are : blocks_in q.request.sizes rule q.values ≡ blocks b.read.program q
  blocks_are = ap (λ (f : ℕ). set_block q.request.sizes f q.values) (sym (held_fields b.read.program b.runs.holds))

  -- what the steps give, with the program's blocks
  given : Program → (ℕ → Bool) → Blocks (List ℤ) → Gives (List ℤ)
  given p o block = steps_give p q.request.sizes block o (nat_abs q.request.steps) (nat_abs q.request.start) q.request.grid

  abbrev RanBy : Bool → (ℕ → Bool) → Report → List ℤ → List ℕ → Type 0
  RanBy all o said grid' marks' = Ran words rule q.request.sizes r all q.values (nat_abs q.request.start) (nat_abs q.request.steps) o q.request.grid said grid' marks'

  module _ {o : ℕ → Bool} {said : Report} {grid' : List ℤ} {marks' : List ℕ} where
    ran_open : RanBy rule.timed o said grid' marks' → (told said grid' ≡ report_in (given b.read.program o (blocks b.read.program q))) × (marks' ≡ (given b.read.program o (blocks b.read.program q)).marks)
    unfolding given
    ran_open ran = (
      ran.says b.read.program b.runs ∙ ap (λ (block : Blocks (List ℤ)). report_in (given b.read.program o block)) blocks_are,
      ran.stand b.read.program b.runs ∙ ap (λ (block : Blocks (List ℤ)). (given b.read.program o block).marks) blocks_are,
    )

  module _ (marks : List ℕ) {said : Report} {grid' : List ℤ} {marks' : List ℕ} where
    open_is : RanBy rule.timed every_cell said grid' marks' → told said grid' ≡ report_of quiet b.read.program q
    unfolding report_of given
    open_is ran =
        (ran_open ran).0
        ∙ steps_quiet b.read.program q.request.sizes (blocks b.read.program q) (nat_abs q.request.steps) (nat_abs q.request.start) q.request.grid laws

    report_is : (way : Way) → RanBy (every_step way rule.timed) (pending_in (is_resumed way) marks) said grid' marks' → told said grid' ≡ report_of (manner_of way marks) b.read.program q
    unfolding report_of given
    report_is Full ran =
        ran.says (always b.read.program) (runs_always b.runs) ∙ ap (λ (block : Blocks (List ℤ)). report_in (given (always b.read.program) every_cell block)) blocks_are
        ∙ steps_full b.read.program q.request.sizes (blocks b.read.program q) (nat_abs q.request.steps) (nat_abs q.request.start) q.request.grid laws
    report_is Quiet ran = open_is ran
    report_is Pausing ran = open_is ran
    report_is Resuming ran = (ran_open ran).0

    -- the marks that are left
    marks_are : (way : Way) → RanBy (every_step way rule.timed) (pending_in (is_resumed way) marks) said grid' marks' → length marks' ≡ length marks
        → marks_left way marks' ≡ marks_admitted (manner_of way marks) b.read.program q marks
    unfolding standing given
    marks_are Full ran l = ap (λ (k : ℕ). replicate k 0) l
    marks_are Quiet ran l = ap (λ (k : ℕ). replicate k 0) l
    marks_are Pausing ran l = (ran_open ran).1
    marks_are Resuming ran l = (ran_open ran).1

    source_report : (way : Way) → RanBy (every_step way rule.timed) (pending_in (is_resumed way) marks) said grid' marks' → told said grid' ≡ run_source (manner_of way marks) fit source q
    unfolding run_source
    source_report way ran = report_is way ran ∙ sym (run_admitted b.read.program (profile_flag source b.read) q (manner_of way marks) b.admits) ∙ ap (run_read (manner_of way marks) source q) (sym b.is)

  -- the row counts

  -- those that are asked for are right
  counts_fit : (counted : Bool) (field rows : ℕ) → q.counts ≡ counts_of counted field rows → CountsFit counted rule.fields q.request.sizes field rows
  counts_fit counted field rows e = record { a_field = λ c. ltb-true field rule.fields (each c).0; rows_are = λ c. eqb-true rows (get_or q.request.sizes 0 0) (each c).1 }
    where
      each : counted ≡ true → (ltb field rule.fields ≡ true) × (eqb rows (get_or q.request.sizes 0 0) ≡ true)
      each c =
          and_both (ltb field rule.fields) (eqb rows (get_or q.request.sizes 0 0))
          (sym (ap (λ (n : ℕ). ltb field n && eqb rows (get_or q.request.sizes 0 0)) (held_fields b.read.program b.runs.holds))
          ∙ sym (ap (λ (t : Bool). good_counts b.read.program q.request.sizes (counts_of t field rows)) c) ∙ sym (ap (good_counts b.read.program q.request.sizes) e)
          ∙ counts_admits b.read.program (profile_flag source b.read) q b.admits)

  module _ {grid' : List ℤ} {counts counts' : List ℕ} {counted : Bool} {field : ℕ} where
    filled_by : (way : Way) → Tallied words rule q.request.sizes r (every_step way rule.timed) counted field grid' counts counts' → CountsFilled counted q.request.sizes rule.fields field grid' counts counts'
    filled_by Full tally = tally.tells (always b.read.program) (runs_always b.runs)
    filled_by Quiet tally = tally.tells b.read.program b.runs
    filled_by Pausing tally = tally.tells b.read.program b.runs
    filled_by Resuming tally = tally.tells b.read.program b.runs

  module _ (marks : List ℕ) {said : Report} {grid' : List ℤ} {marks' counts counts' : List ℕ} (counted : Bool) (field rows : ℕ) (asked_is : q.counts ≡ counts_of counted field rows) where
    counts_are : (way : Way) → RanBy (every_step way rule.timed) (pending_in (is_resumed way) marks) said grid' marks' → Tallied words rule q.request.sizes r (every_step way rule.timed) counted field grid' counts counts'
        → counts' ≡ counts_admitted (manner_of way marks) b.read.program q counts q.counts
    counts_are way ran tally = by counted refl ∙ ap (counts_admitted (manner_of way marks) b.read.program q counts) (sym asked_is)
      where
        by : (t : Bool) → counted ≡ t → counts' ≡ counts_admitted (manner_of way marks) b.read.program q counts (counts_of counted field rows)
        by true c =
            (filled_by way tally).fills c
            ∙ ap₂ (λ (n : ℕ) (g : List ℤ). row_counts q.request.sizes n field g) (sym (held_fields b.read.program b.runs.holds)) (ap (λ (x : report.Report). x.grid) (report_is marks way ran))
            ∙ ap (λ (t : Bool). counts_admitted (manner_of way marks) b.read.program q counts (counts_of t field rows)) (sym c)
        by false c = (filled_by way tally).stays c ∙ ap (λ (t : Bool). counts_admitted (manner_of way marks) b.read.program q counts (counts_of t field rows)) (sym c)

  counts_began : (manner : Manner) (old : List ℕ) → counts_admitted manner b.read.program q old q.counts ≡ counts_after manner fit source q old
  unfolding counts_after
  counts_began manner old =
      sym (ap (when_begun source q old (λ p. counts_admitted manner p q old q.counts)) b.is ∙ ap (λ (t : Bool). if t then counts_admitted manner b.read.program q old q.counts else old) (eq-eqb _ 0 b.admits))

  began : run_begins source q (read_source fit source) ≡ true
  began = ap (run_begins source q) b.is ∙ eq-eqb _ 0 b.admits

  marks_began : (manner : Manner) (old : List ℕ) → marks_admitted manner b.read.program q old ≡ marks_after manner fit source q old
  unfolding marks_after
  marks_began manner old =
      sym (ap (when_begun source q old (λ p. marks_admitted manner p q old)) b.is ∙ ap (λ (t : Bool). if t then marks_admitted manner b.read.program q old else old) (eq-eqb _ 0 b.admits))

-- marks after a run that did not begin
pub marks_kept : (manner : Manner) (fit : Bool) (source : List ℕ) (q : Asked) (old : List ℕ) → run_begins source q (read_source fit source) ≡ false → old ≡ marks_after manner fit source q old
unfolding marks_after
marks_kept manner fit source q old e = by (read_source fit source) e
  where
    by : (o : SourceRead) → run_begins source q o ≡ false → old ≡ when_begun source q old (λ p. marks_admitted manner p q old) o
    by (turned_away n p) f = refl
    by (checking.refused n p) f = refl
    by (accepted a) f = sym (ap (λ (t : Bool). if t then marks_admitted manner a.program q old else old) f)

pub counts_kept : (manner : Manner) (fit : Bool) (source : List ℕ) (q : Asked) (old : List ℕ) → run_begins source q (read_source fit source) ≡ false → old ≡ counts_after manner fit source q old
unfolding counts_after
counts_kept manner fit source q old e = by (read_source fit source) e
  where
    by : (o : SourceRead) → run_begins source q o ≡ false → old ≡ when_begun source q old (λ p. counts_admitted manner p q old q.counts) o
    by (turned_away n p) f = refl
    by (checking.refused n p) f = refl
    by (accepted a) f = sym (ap (λ (t : Bool). if t then counts_admitted manner a.program q old q.counts else old) f)

-- counts that are not asked for stay
pub counts_unasked : (manner : Manner) (fit : Bool) (source : List ℕ) (q : Asked) (old : List ℕ) → q.counts ≡ none → counts_after manner fit source q old ≡ old
unfolding counts_after
counts_unasked manner fit source q old e = by (read_source fit source)
  where
    either : (t : Bool) (p : Program) → (if t then counts_admitted manner p q old q.counts else old) ≡ old
    either true p = ap (counts_admitted manner p q old) e
    either false p = refl

    by : (o : SourceRead) → when_begun source q old (λ p. counts_admitted manner p q old q.counts) o ≡ old
    by (turned_away n p) = refl
    by (checking.refused n p) = refl
    by (accepted a) = either (eqb (admitted a.program (profile_flag source a) q).number 0) a.program

-- scratch after a run that began, and after one that did not
room_cleared : {A : Type 0} (zero : A) (fit : Bool) (source : List ℕ) (q : Asked) (old : List A) → run_begins source q (read_source fit source) ≡ true → replicate (length old) zero ≡ room_after zero fit source q old
unfolding room_after
room_cleared zero fit source q old e = rw e

pub room_kept : {A : Type 0} (zero : A) (fit : Bool) (source : List ℕ) (q : Asked) (old : List A) → run_begins source q (read_source fit source) ≡ false → old ≡ room_after zero fit source q old
unfolding room_after
room_kept zero fit source q old e = rw e

-- a room that is cleared throughout
cleared : {A : Type 0} (zero : A) (n : ℕ) {new : List A} (old : List A) → new ≡ replicate n zero → length new ≡ length old → new ≡ replicate (length old) zero
cleared zero n old e l = e ∙ ap (λ (k : ℕ). replicate k zero) (sym (length-replicate n zero) ∙ ap length (sym e) ∙ l)

-- ---- the ways through

-- no mark is left behind a full or a quiet run
pub left_full : {way : Way} (marks : List ℕ) {marks' : List ℕ} → way ≡ Full → marks' ≡ replicate (length marks) 0 → marks' ≡ marks_left way marks
left_full {way} marks e m = m ∙ ap (λ (w : Way). marks_left w marks) (sym e)

pub left_quiet : {way : Way} (marks : List ℕ) {marks' : List ℕ} → way ≡ Quiet → marks' ≡ replicate (length marks) 0 → marks' ≡ marks_left way marks
left_quiet {way} marks e m = m ∙ ap (λ (w : Way). marks_left w marks) (sym e)

-- what a run leaves, by its parts
pub left_by : {N : Type 0} {form : NameForm N} {manner : Manner} {l : Lent N} {said : Report} {m : Memory N} → told said m.grid ≡ run_report form manner l
    → m.words ≡ words_after (fits form l) l.source l.memory.words → m.names ≡ names_left form (fits form l) l.source l.memory.names
    → m.scratch ≡ room_after (pos 0) (fits form l) l.source (asked l) l.memory.scratch → m.marks ≡ marks_after manner (fits form l) l.source (asked l) l.memory.marks
    → m.counts ≡ counts_after manner (fits form l) l.source (asked l) l.memory.counts → RunLeaves form manner l said m
unfolding run_left
left_by e w n s k o = record { is = λ i. record { report = e i; memory = record { words = w i; names = n i; grid = (e i).grid; scratch = s i; marks = k i; counts = o i } } }

-- and its report
pub left_report : {N : Type 0} {form : NameForm N} {manner : Manner} {l : Lent N} {said : Report} {m : Memory N} → RunLeaves form manner l said m
    → told said m.grid ≡ run_report form manner l
unfolding run_left
left_report h = ap (λ x. x.report) h.is

-- the built-in list is one
pub the_list : is_built_in built_in_names ≡ true
unfolding same_bytes
the_list = refl

module _ (l : Lent ℕ) (list : is_built_in l.list ≡ true) {r : Result Opening Stop} {ws' ns' : List ℕ} (opened : RunOpens (rooms_fit (length l.memory.words) (length l.memory.names)) l.source l.memory.words l.memory.names (asked l) r ws' ns') (way : Way) where
  opens : RunOpens (fits flat_names l) l.source l.memory.words l.memory.names (asked l) r ws' ns'
  opens = subst (λ (fit : Bool). RunOpens fit l.source l.memory.words l.memory.names (asked l) r ws' ns') (sym (ap (λ (t : Bool). t && rooms_fit (length l.memory.words) (length l.memory.names)) list)) opened

  names_are : ns' ≡ names_left flat_names (fits flat_names l) l.source l.memory.names
  unfolding names_after
  names_are = opens.names

  pub closed_run : {s : Stop} → r ≡ Err s
      → RunLeaves flat_names (manner_of way l.memory.marks) l (record { number = s.number; place = s.place; line = s.line; cell = 0; steps = 0; count = 0 }) (memory ws' ns' l.memory.grid l.memory.scratch l.memory.marks l.memory.counts)
  closed_run {s} e =
      left_by (sym (opens.refuses s e (manner_of way l.memory.marks))) opens.words names_are (room_kept (pos 0) _ l.source _ l.memory.scratch (opens.closed s e))
      (marks_kept (manner_of way l.memory.marks) _ l.source _ l.memory.marks (opens.closed s e))
      (counts_kept (manner_of way l.memory.marks) _ l.source _ l.memory.counts (opens.closed s e))

  module _ {b : Opening} (y : r ≡ Ok b) where
    is : RunBegun (fits flat_names l) l.source (asked l) ws' b.rule b.reach
    is = opens.opened b y

    pub run_ready : Begins ws' b.rule l.sizes b.reach l.memory.grid l.memory.scratch l.memory.marks l.values (nat_abs l.start) (nat_abs l.steps)
        × CountsFit l.counted b.rule.fields l.sizes l.field (length l.memory.counts)
    run_ready = (begins_run is refl refl, counts_fit is l.counted l.field (length l.memory.counts) refl)

    pub run_done : {all re : Bool} {said : Report} {grid' scratch' : List ℤ} {marks' marks'' counts' : List ℕ} (n : ℕ) → all ≡ every_step way b.rule.timed → re ≡ is_resumed way
        → Ran ws' b.rule l.sizes b.reach all l.values (nat_abs l.start) (nat_abs l.steps) (pending_in re l.memory.marks) l.memory.grid said grid' marks'
        → scratch' ≡ replicate n (pos 0) → length scratch' ≡ length l.memory.scratch → length marks' ≡ length l.memory.marks → marks'' ≡ marks_left way marks'
        → Tallied ws' b.rule l.sizes b.reach all l.counted l.field grid' l.memory.counts counts'
        → RunLeaves flat_names (manner_of way l.memory.marks) l said (memory ws' ns' grid' scratch' marks'' counts')
    run_done {all} {re} {said} {grid'} {scratch'} {marks'} {marks''} {counts'} n a e ran s j k m o =
        left_by (source_report is l.memory.marks way ran_is)
        opens.words names_are
        (cleared (pos 0) n l.memory.scratch s j ∙ room_cleared (pos 0) _ l.source _ l.memory.scratch (began is))
        (m ∙ marks_are is l.memory.marks way ran_is k ∙ marks_began is (manner_of way l.memory.marks) l.memory.marks)
        (counts_are is l.memory.marks l.counted l.field (length l.memory.counts) refl way ran_is (subst (λ (x : Bool). Tallied ws' b.rule l.sizes b.reach x l.counted l.field grid' l.memory.counts counts') a o)
        ∙ counts_began is (manner_of way l.memory.marks) l.memory.counts)
      where
        ran_is : RanBy is (every_step way b.rule.timed) (pending_in (is_resumed way) l.memory.marks) said grid' marks'
        ran_is = subst₂ (λ (x y : Bool). Ran ws' b.rule l.sizes b.reach x l.values (nat_abs l.start) (nat_abs l.steps) (pending_in y l.memory.marks) l.memory.grid said grid' marks') a e ran

    pub cast_start : T (non_neg l.start) × Fits w32 (nat_abs l.start)
    cast_start = cast_in l.start is.start_is (omega (arith, is.times))

    pub cast_steps : T (non_neg l.steps) × Fits w32 (nat_abs l.steps)
    cast_steps = cast_in l.steps is.steps_is (omega (arith, is.times))

-- another list than the built-in one: nothing is read, and nothing changes
pub unlisted_run : {N : Type 0} (form : NameForm N) (manner : Manner) (l : Lent N) → fits form l ≡ false
    → RunLeaves form manner l (record { number = 1; place = 0; line = 0; cell = 0; steps = 0; count = 0 }) l.memory
unfolding run_source words_after room_after marks_after counts_after read_source
unlisted_run form manner l e =
    left_by (rw e) (rw e) (rw e) (rw e) (rw e) (rw e)

module _ (list : List ℕ) {t : Bool} (is : t ≡ is_built_in list) where
  pub unlisted : (manner : Manner) (l : Lent ℕ) → l.list ≡ list → not t ≡ true → RunLeaves flat_names manner l (record { number = 1; place = 0; line = 0; cell = 0; steps = 0; count = 0 }) l.memory
  unlisted manner l e n = unlisted_run flat_names manner l (ap (λ (x : List ℕ). is_built_in x && rooms_fit (length l.memory.words) (length l.memory.names)) e ∙ ap (λ (u : Bool). u && rooms_fit (length l.memory.words) (length l.memory.names)) (sym is ∙ not-true t n))

  pub listed : {manner : Manner} {lends : List ℕ → Lent ℕ} {said : Report} {m : Memory ℕ} → not t ≡ false → RunsListed manner lends said m → RunLeaves flat_names manner (lends list) said m
  listed n h = h.each list (sym is ∙ not-false t n)

-- the times as the machine reads them
pub read_times : {N : Type 0} {form : NameForm N} {manner : Manner} {source list sizes values : List ℕ} {m m' : Memory N} {start steps : ℤ} {counted : Bool} {field : ℕ} {said : Report} → SFits w64 start → SFits w64 steps
    → RunLeaves form manner (lent source list sizes m values (to_z w64 (of_z w64 start)) (to_z w64 (of_z w64 steps)) counted field) said m' → RunLeaves form manner (lent source list sizes m values start steps counted field) said m'
read_times {N} {form} {manner} {source} {list} {sizes} {values} {m} {m'} {start} {steps} {counted} {field} {said} h k =
    subst₂ (λ (a b : ℤ). RunLeaves form manner (lent source list sizes m values a b counted field) said m') (to_z-of_z h) (to_z-of_z k)

-- the grid that a run leaves has each field in its range
pub run_ranges : {N : Type 0} (form : NameForm N) (manner : Manner) (l : Lent N) {said : Report} {m : Memory N} → RunLeaves form manner l said m
    → RangesKept l.source (read_lent form l) (asked l) m.grid
run_ranges form manner l h =
    subst (RangesKept l.source (read_lent form l) (asked l)) (sym (ap (λ (r : report.Report). r.grid) (left_report h))) (grid_in_ranges manner (fits form l) l.source (asked l))

-- what a run gives that does not begin from lent marks agrees with the full run of the definition
pub fresh_agrees : {N : Type 0} (form : NameForm N) (way : Way) (l : Lent N) → AgreesFresh way (run_report form (manner_of way l.memory.marks) l) (run_report form full l)
fresh_agrees form way l = record { agree = by way }
  where
    by : (way : Way) → is_resumed way ≡ false → Agree (run_report form (manner_of way l.memory.marks) l) (run_report form full l)
    by Full e = same (run_report form full l)
    by Quiet e = (property_3 (fits form l) l.source (asked l)).agree
    by Pausing e = paused_agrees (fits form l) l.source (asked l)
    by Resuming e = never (sym e)

pub run_agrees : {N : Type 0} (form : NameForm N) (way : Way) (l : Lent N) {said : Report} {m : Memory N} → RunLeaves form (manner_of way l.memory.marks) l said m
    → AgreesFresh way (told said m.grid) (run_report form full l)
run_agrees form way l h = subst (λ (r : report.Report). AgreesFresh way r (run_report form full l)) (sym (left_report h)) (fresh_agrees form way l)
