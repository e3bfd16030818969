-- The beginning of a run: what is known of a source that is read, and of a run that is admitted.
use Prim.Native.Nat.{ℕ, ◌+◌, ◌<◌, ◌≤◌}
use native.Mathlib.Omega.{arith}
use mathlib.Core.Path.{◌≡◌, refl, sym, ap, ◌∙◌, subst, subst₂}
use mathlib.Core.Bool.{Bool, true, false, not, ◌&&◌}
use mathlib.Core.List.{List}
use mathlib.Core.Option.{Option}
use lib.ListN.{length, get_or}
use lib.Dec.{T, eqb, ltb}
use lib.IntN.{ℤ, nat_abs}
use lib.Signed.{non_neg}
use mir.Syntax.{w32, w64}
use mir.Val.{Fits, SFits, to_z, of_z}
use mir.Facts.{to_z-of_z}
use borrow.Author.Tests.{not-true, not-false, ne_eqb, eqb-false, le-ltb, lt-ltb}
use Rattle.value.specs.Limits.{name_words}
use Rattle.value.proofs.Theorems.Laws.{never}
use Rattle.std.proofs.lemmas.Result.{err_from_is_err_and}
use Rattle.std.specs.Prelude.{Result, Ok, Err, is_ok, IsErrAnd}
use Rattle.program.specs.Reason.{reason_number}
use Rattle.program.proofs.Reasons.{never_none}
use Rattle.program.specs.Refusal.{Refusal, refusal}
use Rattle.program.specs.declared.Rule.{Rule}
use Rattle.grammar.specs.Checking as checking
use Rattle.grammar.specs.Checking.{SourceRead, turned_away, accepted, rooms_fit, read_source, check}
use Rattle.cell_meaning.specs.Written.{relatives_in}
use Rattle.run_meaning.specs.declared.Reach.{Reach}
use Rattle.run_meaning.specs.Admission.{admission}
use Rattle.run_meaning.specs.Report.{Manner, refused}
use Rattle.program.specs.Promises.Fitting.{Sized}
use Rattle.run_meaning.specs.Promises.Fitting.{held_fields}
use Rattle.move_meaning.specs.Profile.{profile_flag}
use Rattle.list_meaning.specs.ListChecking.{Turned, Verdict, limits_of}
use Rattle.list_reader.specs.declared.checking.ListRefusal.{ListRefusal}
use Rattle.list_reader.specs.Promises.Points.{Dimensions}
use Rattle.list_reader.specs.Promises.Values.{fields_in}
use Rattle.list_reader.specs.Promises.Checks.{answer, limits, ChecksLines as ChecksList}
use Rattle.list_reader.proofs.CursorLaws.{verdict_is, dimensions_are}
use Rattle.run_calls.specs.Running.{CountsAsked, counts_of, Asked, ask, good_counts, admitted}
use Rattle.run_calls.proofs.Theorems.RunningLaws.{turned, list_decides, counts_refused, refused_first, list_passes, run_refused}
use Rattle.run_calls.specs.Services.{run_begins, run_read, run_source}
use Rattle.read_source.specs.Promises.Promises.{Loads, Checks, is_accepted}
use Rattle.move_profile.specs.Promises.Flags.{FlagOf}
use Rattle.move_profile.proofs.StandingLaws.{sized}
use Rattle.run_loading.specs.Promises.Loaded.{Accepts}
use Rattle.run_loading.proofs.Theorems.SourceLoaded.{accepts}
use Rattle.run_admission.proofs.RequestLaws.{cast_in}
use Rattle.run_admission.specs.Promises.Admitting.{refusal_told, request_of, Admitted, Admits}
use Rattle.run_source.specs.declared.opening.Opening.{Opening}
use Rattle.run_source.specs.declared.opening.Stop.{Stop}
use Rattle.run_source.specs.Promises.Sourcewise.{run_stopped, counts_right, RunBegun, RunOpens}

-- ---- an accepted source

module _ {source ws ns : List ℕ} {known : Bool} {rule : Rule} {n place : ℕ} {ws' ns' : List ℕ}
    (checked : Checks (rooms_fit (length ws) (length ns)) source ws ns n place ws' ns') (loaded : Loads source ws ns known rule) (sure : known ≡ true) where
  -- the flag can be found
  pub flag_ready : length ns' ≡ length ns → (Sized (length ws') rule) × (length ns' ≡ name_words)
  flag_ready e = (sized checked loaded sure, e ∙ loaded.list sure)

-- ---- a source that is not accepted

module _ (fit : Bool) (source : List ℕ) (q : Asked) {n place : ℕ} (reply : refusal n place ≡ check fit source) where
  not_read : is_accepted (read_source fit source) ≡ false → (run_begins source q (read_source fit source) ≡ false) × ((manner : Manner) → run_source manner fit source q ≡ refused n place 0 q.request.grid)
  unfolding run_source check
  not_read e = by (read_source fit source) reply e
    where
      by : (r : SourceRead) → refusal n place ≡ checking.reply_of r → is_accepted r ≡ false → (run_begins source q r ≡ false) × ((manner : Manner) → run_read manner source q r ≡ refused n place 0 q.request.grid)
      by (turned_away k p) c d = (refl, λ manner. ap (λ (x : Refusal). refused x.number x.place 0 q.request.grid) (sym c))
      by (checking.refused k p) c d = (refl, λ manner. ap (λ (x : Refusal). refused x.number x.place 0 q.request.grid) (sym c))
      by (accepted a) c d = never (sym d)

-- ---- the times as unsigned numbers

module _ {words : List ℕ} {rule : Rule} {sizes : List ℕ} {grid : List ℤ} {scratch marks : ℕ} {start steps : ℤ} {a : Result Reach Refusal} (admits : Admits words rule sizes grid scratch marks start steps a) {reach : Reach} (z : a ≡ Ok reach) where
  ok : Admitted words rule sizes (length grid) scratch marks start steps reach
  ok = admits.admitted reach z

  pub cast_first : T (non_neg start) × Fits w32 (nat_abs start)
  cast_first = cast_in start (ok.start_is) (omega (arith, ok.times))

  pub cast_last : T (non_neg steps) × Fits w32 (nat_abs steps)
  cast_last = cast_in steps (ok.steps_is) (omega (arith, ok.times))

  pub add_last : Fits w32 (nat_abs start + nat_abs steps)
  add_last = record { fits = omega (arith, ok.times) }

-- ---- the row counts

module _ (counted : Bool) (field rows fields : ℕ) (sizes : List ℕ) where
  pub counts_off : not counted ≡ true → true ≡ counts_right counted field rows fields sizes
  counts_off e = ap (λ (b : Bool). counts_right b field rows fields sizes) (sym (not-true counted e))

  pub counts_far : not counted ≡ false → fields ≤ field → false ≡ counts_right counted field rows fields sizes
  counts_far e l = sym (ap (λ (b : Bool). b && eqb rows (get_or sizes 0 0)) (le-ltb field fields l)) ∙ ap (λ (b : Bool). counts_right b field rows fields sizes) (sym (not-false counted e))

  pub counts_near : not counted ≡ false → field < fields → eqb rows (get_or sizes 0 0) ≡ counts_right counted field rows fields sizes
  counts_near e l = sym (ap (λ (b : Bool). b && eqb rows (get_or sizes 0 0)) (lt-ltb field fields l)) ∙ ap (λ (b : Bool). counts_right b field rows fields sizes) (sym (not-false counted e))

-- ---- the ways through

-- the opening of a run that does not begin
abbrev Closed : Result Opening Stop → ℕ → ℕ → ℕ → Type 0
Closed r number place line = r ≡ Err (run_stopped number place line)

-- what the exit of a `?` returns
pub stopped_by : {q : Result Opening Stop} {u : Stop} → IsErrAnd q (λ (f : Stop). f ≡ u) → q ≡ Err u
stopped_by {q = q} h = let p = err_from_is_err_and q h in p.1 ∙ ap Err p.2

same_opening : {o u : Opening} → ◌≡◌ {A = Result Opening Stop} (Ok o) (Ok u) → o ≡ u
same_opening {o} e = ap by e
  where
    by : Result Opening Stop → Opening
    by (Ok x) = x
    by (Err s) = o

same_stop : {s u : Stop} → ◌≡◌ {A = Result Opening Stop} (Err s) (Err u) → s ≡ u
same_stop {s} e = ap by e
  where
    by : Result Opening Stop → Stop
    by (Err x) = x
    by (Ok o) = s

module _ {source ws ns sizes : List ℕ} {grid : List ℤ} {scratch marks : ℕ} {start steps : ℤ} {known : Bool} {rule : Rule} {n place : ℕ} {ws' ns' : List ℕ}
    (checked : Checks (rooms_fit (length ws) (length ns)) source ws ns n place ws' ns') (loaded : Loads source ws ns known rule) where
  pub unread : not known ≡ true → {values : List ℕ} {counts : Option CountsAsked} {r : Result Opening Stop} → Closed r n place 0
      → RunOpens (rooms_fit (length ws) (length ns)) source ws ns (ask (request_of sizes grid scratch marks start steps) values counts) r ws' ns'
  unread unknown {values} {counts} {r} e =
      let both = not_read (rooms_fit (length ws) (length ns)) source (ask (request_of sizes grid scratch marks start steps) values counts) checked.reply (sym loaded.is ∙ not-true known unknown) in
      record {
        words = checked.words;
        names = checked.names;
        closed = λ _ _. both.0;
        refuses = λ s h manner. both.1 manner ∙ ap (λ (x : Stop). refused x.number x.place x.line grid) (same_stop (sym e ∙ h));
        opened = λ o h. never (ap is_ok (sym e ∙ h));
      }

  module _ (sure : not known ≡ false) {a : Result Reach Refusal} (admits : Admits ws' rule sizes grid scratch marks start steps a) where
    is : Accepts (rooms_fit (length ws) (length ns)) source ws' ns' rule
    is = accepts checked loaded (not-false known sure)

    -- the field of its flag, if it is in the profile
    abbrev flag : Option ℕ
    flag = profile_flag source is.read

    says : refusal_told a ≡ admission is.read.program (request_of sizes grid scratch marks start steps)
    says = admits.says is.read.program is.stood.holds is.lists

    turned_down : {values : List ℕ} {counts : Option CountsAsked} {number where_at line : ℕ} → admitted is.read.program flag (ask (request_of sizes grid scratch marks start steps) values counts) ≡ turned number where_at line → (number ≡ 0 → ⊥) → {r : Result Opening Stop} → Closed r number where_at line
        → RunOpens (rooms_fit (length ws) (length ns)) source ws ns (ask (request_of sizes grid scratch marks start steps) values counts) r ws' ns'
    unfolding run_source
    turned_down {values} {counts} {number} {where_at} {line} t z {r} e =
        record {
          words = checked.words;
          names = checked.names;
          closed = λ _ _. ap (run_begins source (ask (request_of sizes grid scratch marks start steps) values counts)) is.is ∙ ne_eqb _ 0 refused_by;
          refuses = λ s h manner.
              ap (run_read manner source (ask (request_of sizes grid scratch marks start steps) values counts)) is.is ∙ run_refused is.read.program flag (ask (request_of sizes grid scratch marks start steps) values counts) manner refused_by ∙ ap (λ (x : Turned). refused x.number x.place x.line grid) t
              ∙ ap (λ (x : Stop). refused x.number x.place x.line grid) (same_stop (sym e ∙ h));
          opened = λ o h. never (ap is_ok (sym e ∙ h));
        }
      where
        refused_by : (admitted is.read.program flag (ask (request_of sizes grid scratch marks start steps) values counts)).number ≡ 0 → ⊥
        refused_by k = z (ap (λ (x : Turned). x.number) (sym t) ∙ k)

    pub not_admitted : {f : Refusal} → a ≡ Err f → {values : List ℕ} {counts : Option CountsAsked} {r : Result Opening Stop} → Closed r f.number f.place 0 → RunOpens (rooms_fit (length ws) (length ns)) source ws ns (ask (request_of sizes grid scratch marks start steps) values counts) r ws' ns'
    not_admitted {f} i {values} {counts} {r} e =
        let told = sym (ap refusal_told i) ∙ says in
        turned_down
        (refused_first is.read.program flag (ask (request_of sizes grid scratch marks start steps) values counts) (λ k. admits.refused f i (ap (λ (x : Refusal). x.number) told ∙ k)) ∙ ap (λ (x : Refusal). turned x.number x.place 0) (sym told)) (admits.refused f i) e

    module _ {reach : Reach} (z : a ≡ Ok reach) where
      entered : Admitted ws' rule sizes (length grid) scratch marks start steps reach
      entered = admits.admitted reach z

      admission_is : (admission is.read.program (request_of sizes grid scratch marks start steps)).number ≡ 0
      admission_is = ap (λ (x : Refusal). x.number) (sym says ∙ ap refusal_told z)

      -- the list can be checked
      pub dimensions_of : Dimensions sizes
      dimensions_of = dimensions_are is.read.program (request_of sizes grid scratch marks start steps) (omega (arith, is.stood.holds.dims, is.sized.dims)) admission_is

      -- there is a first dimension
      pub some_sizes : 0 < length sizes
      some_sizes = subst (λ (d : ℕ). 0 < d) (sym entered.shaped.dims) is.some_dims

      pub list_ready : (Sized (length ws') rule) × Dimensions sizes
      list_ready = (is.sized, dimensions_of)

      -- they are told by the numbers of the rule
      fits_are : (counted : Bool) (field rows : ℕ) → good_counts is.read.program sizes (counts_of counted field rows) ≡ counts_right counted field rows rule.fields sizes
      fits_are true field rows = ap (λ (n : ℕ). ltb field n && eqb rows (get_or sizes 0 0)) (held_fields is.read.program is.stood.holds)
      fits_are false field rows = refl

      -- the counts are not right
      pub not_counted : (counted : Bool) (field rows : ℕ) → counts_right counted field rows rule.fields sizes ≡ false → {values : List ℕ} {r : Result Opening Stop} → Closed r 61 0 0
          → RunOpens (rooms_fit (length ws) (length ns)) source ws ns (ask (request_of sizes grid scratch marks start steps) values (counts_of counted field rows)) r ws' ns'
      not_counted counted field rows c {values} e =
          turned_down (counts_refused is.read.program flag (ask (request_of sizes grid scratch marks start steps) values (counts_of counted field rows)) admission_is (fits_are counted field rows ∙ c)) (λ k. omega (arith, k)) e

      module _ (counted : Bool) (field rows : ℕ) (right : counts_right counted field rows rule.fields sizes ≡ true) {values : List ℕ} {v : Result (Unit {0}) ListRefusal} {told first last : ℕ} (found : FlagOf source ws' ns' rule told) (first_is : nat_abs start ≡ first)
          (last_is : nat_abs start + nat_abs steps ≡ last) (judges : ChecksList (limits sizes (fields_in ws' rule) told first last) values v) where
        list_says : admitted is.read.program flag (ask (request_of sizes grid scratch marks start steps) values (counts_of counted field rows)) ≡ turned (answer v).number 0 (answer v).line
        list_says =
            list_decides is.read.program flag (ask (request_of sizes grid scratch marks start steps) values (counts_of counted field rows)) admission_is (fits_are counted field rows ∙ right)
            ∙ ap (λ (x : Verdict). turned x.number 0 x.line)
            (sym (verdict_is ws' rule is.read.program flag (request_of sizes grid scratch marks start steps) values is.stood.holds (found.is is.read is.stood) first_is last_is)
            ∙ sym judges.is)

        pub not_listed : {f : ListRefusal} → v ≡ Err f → {r : Result Opening Stop} → Closed r (reason_number f.reason) 0 f.line → RunOpens (rooms_fit (length ws) (length ns)) source ws ns (ask (request_of sizes grid scratch marks start steps) values (counts_of counted field rows)) r ws' ns'
        not_listed {f} i e = turned_down (list_says ∙ ap (λ (x : Result (Unit {0}) ListRefusal). turned (answer x).number 0 (answer x).line) i) (eqb-false _ 0 (never_none f.reason)) e

        pub begun : v ≡ Ok tt
            → RunOpens (rooms_fit (length ws) (length ns)) source ws ns (ask (request_of sizes grid scratch marks start steps) values (counts_of counted field rows)) (Ok (record { rule = rule; reach = reach })) ws' ns'
        begun i =
            let passed : (admitted is.read.program flag (ask (request_of sizes grid scratch marks start steps) values (counts_of counted field rows))).number ≡ 0 = ap (λ (x : Turned). x.number) list_says ∙ ap (λ (x : Result (Unit {0}) ListRefusal). (answer x).number) i in
            record {
              words = checked.words;
              names = checked.names;
              closed = λ _ f. never (sym (ap is_ok f));
              refuses = λ _ f. never (sym (ap is_ok f));
              opened = λ o f. subst (λ (x : Opening). RunBegun (rooms_fit (length ws) (length ns)) source (ask (request_of sizes grid scratch marks start steps) values (counts_of counted field rows)) ws' x.rule x.reach) (same_opening f)
                  (begins passed);
            }
          where
            begins : (admitted is.read.program flag (ask (request_of sizes grid scratch marks start steps) values (counts_of counted field rows))).number ≡ 0
                → RunBegun (rooms_fit (length ws) (length ns)) source (ask (request_of sizes grid scratch marks start steps) values (counts_of counted field rows)) ws' rule reach
            begins passed =
                record {
                  read = is.read;
                  is = is.is;
                  admits = passed;
                  runs = record { holds = is.stood.holds; reaches = entered.reaches is.read.program is.stood.holds is.lists; lists = entered.lists is.read.program is.stood.holds is.lists; timed = is.timed; flagged = is.flagged };
                  rule_fits = is.sized;
                  some_dims = is.some_dims;
                  shaped = entered.shaped;
                  scratch_fits = entered.scratch_fits;
                  marks_fit = entered.marks_fit;
                  near = entered.near (relatives_in is.read.program) is.lists;
                  start_is = entered.start_is;
                  steps_is = entered.steps_is;
                  times = entered.times;
                  dimensions = dimensions_of;
                  listed = record {
                    limits = limits_of is.read.program flag (request_of sizes grid scratch marks start steps);
                    sizes_are = refl;
                    first_is = refl;
                    passes = list_passes is.read.program flag (ask (request_of sizes grid scratch marks start steps) values (counts_of counted field rows)) passed;
                  };
                }

-- the times as the machine reads them
pub read_opens : {source ws ns sizes : List ℕ} {grid : List ℤ} {scratch marks : ℕ} {start steps : ℤ} {values : List ℕ} {counts : Option CountsAsked} {r : Result Opening Stop} {ws' ns' : List ℕ} → SFits w64 start → SFits w64 steps
    → RunOpens (rooms_fit (length ws) (length ns)) source ws ns (ask (request_of sizes grid scratch marks (to_z w64 (of_z w64 start)) (to_z w64 (of_z w64 steps))) values counts) r ws' ns'
    → RunOpens (rooms_fit (length ws) (length ns)) source ws ns (ask (request_of sizes grid scratch marks start steps) values counts) r ws' ns'
read_opens {source} {ws} {ns} {sizes} {grid} {scratch} {marks} {start} {steps} {values} {counts} {r} {ws'} {ns'} h k =
    subst₂ (λ (a b : ℤ). RunOpens (rooms_fit (length ws) (length ns)) source ws ns (ask (request_of sizes grid scratch marks a b) values counts) r ws' ns') (to_z-of_z h) (to_z-of_z k)
