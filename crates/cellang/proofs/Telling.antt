-- What the calls tell.
use mathlib.Core.Path.{◌≡◌, refl, sym, ap, ◌∙◌, subst, subst₂}
use mathlib.Core.Bool.{Bool, false}
use mathlib.Core.List.{List, [], ◌∷◌, ◌++◌}
use Prim.Native.Nat.{ℕ}
use lib.IntN.{ℤ}
use lib.ListN.{length, get_or}
use mir.Syntax.{w64}
use mir.Val.{SFits, to_z, of_z}
use mir.Facts.{to_z-of_z}
use Rattle.spelling.specs.declared.Told.{Told}
use Rattle.spelling.specs.Spelling.{part_at, part_entries}
use Rattle.spelling.specs.Promises.Parts.{told_entries}
use Rattle.program.specs.Refusal.{Refusal}
use Rattle.grammar.specs.Checking.{check}
use Rattle.grammar.specs.Promises.Flat.{lent_fit, names_after}
use Rattle.list_meaning.specs.Writing.{Wrote}
use Rattle.read_source.specs.Promises.Promises.{Checks}
use Rattle.std.specs.Prelude.{Result, Ok, Err}
use Rattle.std.specs.Result.{result_unwrap_or}
use Rattle.run_admission.specs.Promises.Admitting.{refusal_told}
use Rattle.move_meaning.specs.Profile.{missed, one_move}
use Rattle.move_profile.specs.declared.Profile.{Profile}
use Rattle.move_profile.specs.declared.Missed.{Missed}
use Rattle.move_profile.specs.Promises.Public.{answer_told}
use Rattle.move_profile.specs.Promises.Flags.{CheckOneMove}
use Rattle.run_meaning.specs.Report as report
use Rattle.run_meaning.specs.Report.{Manner, full}
use Rattle.run_calls.specs.Calls.{flat_names, SourceLent, source_lent, SourceLeft, source_left, Memory, memory, Lent, lent, fits, asked, read_lent, run_report, run_left}
use Rattle.run_calls.specs.RangesKept.{RangesKept}
use Rattle.run_calls.proofs.Theorems.GridInRanges.{grid_in_ranges}
use Rattle.run_steps.specs.declared.Report.{Report}
use Rattle.run_steps.specs.Told.{told}
use Rattle.run_steps.specs.declared.Manner.{Manner as Way}
use Rattle.run_source.specs.Promises.Public.{manner_of, RunLeaves}
use Rattle.run_source.specs.Promises.Agreement.{AgreesFresh}
use Rattle.run_source.proofs.RunLaws.{left_report, read_times, fresh_agrees, counts_unasked}
use Rattle.list_writer.specs.WriterCalls.{wanted, writer_left, wrote_of}
use Rattle.list_writer.specs.Promises.Writing.{WriterLeaves}
use Rattle.band_meaning.specs.BorderCall.{borders_left}
use Rattle.band_meaning.specs.Plans as plans
use Rattle.band_meaning.specs.PlanCalls.{plan_check_left, planner_left}
use Rattle.band_planner.specs.declared.borders.Border.{Border}
use Rattle.band_planner.specs.Promises.BorderCall.{borders_in, BordersLeaves}
use Rattle.band_planner.specs.Promises.Planning.{planned_of, CheckLeaves, PlannerLeaves}
use Rattle.band_call.specs.BandCall.{band_asked, band_left}
use Rattle.band_call.specs.Promises.Calling.{BandLeaves}
use Rattle.band_run.specs.BandedRun.{banded_lent}
use Rattle.band_run.specs.Promises.Running.{BandedLeaves}
use Rattle.api_entries.specs.Over.{over}
use Rattle.api_comparison.specs.Differences.{Comparison}
use Rattle.api_comparison.specs.declared.Incomparable.{Incomparable}
use Rattle.api_comparison.specs.Promises.Public.{comparison_told, Compares}
use Rattle.cellang.specs.Promises.Told.{Tells, TellsSource, TellsRoom, reply_entries, profile_entries, written_entries, border_entries, planned_entries, report_entries, TellsRun, TellsBanded, comparison_entries, TellsComparison}

-- ---- a reply and a report

pub tells_reply : (source : List ℕ) {number place : ℕ} {reply reply' : List ℕ} {t : Told} → told_entries t ≡ part_entries (part_at source number place) → reply' ≡ over (number ∷ place ∷ told_entries t) reply
    → Tells (reply_entries source number place) reply number reply'
tells_reply source {number} {place} {reply} p e = record { number = refl; told = e ∙ ap (λ (l : List ℕ). over (number ∷ place ∷ l) reply) p }

pub tells_report : (source : List ℕ) (said : Report) {entries entries' : List ℕ} {t : Told} → told_entries t ≡ part_entries (part_at source said.number said.place)
    → entries' ≡ over (said.number ∷ said.place ∷ said.cell ∷ said.steps ∷ said.count ∷ told_entries t ++ said.line ∷ []) entries → Tells (report_entries source (told said [])) entries said.number entries'
tells_report source said {entries} p e = record { number = refl; told = e ∙ ap (λ (l : List ℕ). over (said.number ∷ said.place ∷ said.cell ∷ said.steps ∷ said.count ∷ l ++ said.line ∷ []) entries) p }

-- ---- calls that read a source

-- by what the call leaves, and what it tells of its answer
pub tells_source : {A : Type 0} {left : SourceLeft ℕ A} (entries : A → List ℕ) {a : A} {r : ℕ} {ws' ns' reply reply' : List ℕ} → record { answer = a; words = ws'; names = ns' } ≡ left → Tells (entries a) reply r reply'
    → TellsSource left entries reply r ws' ns' reply'
tells_source entries {r = r} {reply = reply} {reply'} is t =
    record {
      tells = subst (λ (l : List ℕ). Tells l reply r reply') (ap (λ x. entries x.answer) is) t;
      words_are = ap (λ x. x.words) is;
      names_are = ap (λ x. x.names) is;
    }

-- ---- a check

pub tells_check : {source : List ℕ} (list : List ℕ) {ws ns reply : List ℕ} {number place r : ℕ} {ws' ns' reply' : List ℕ} → Checks (lent_fit list (length ws) (length ns)) source ws ns number place ws' ns'
    → Tells (reply_entries source number place) reply r reply' → TellsSource (source_left flat_names (source_lent source list ws ns) check) (λ c. reply_entries source c.number c.place) reply r ws' ns' reply'
unfolding lent_fit names_after
tells_check {source} list h t = tells_source (λ (c : Refusal). reply_entries source c.number c.place) (λ i. record { answer = h.reply i; words = h.words i; names = h.names i }) t

-- ---- the profile of sources that move a pixel once

pub tells_profile : {source : List ℕ} (list : List ℕ) {ws ns reply : List ℕ} {r : Result (Unit {0}) Missed} {ws' ns' reply' : List ℕ} → CheckOneMove (lent_fit list (length ws) (length ns)) source ws ns r ws' ns'
    → {p : Profile} → missed p.rule p.number p.place ≡ answer_told r → reply' ≡ over (p.rule ∷ p.number ∷ p.place ∷ []) reply
    → TellsSource (source_left flat_names (source_lent source list ws ns) one_move) profile_entries reply p.rule ws' ns' reply'
unfolding lent_fit names_after
tells_profile list h told e =
    tells_source profile_entries (λ i. record { answer = (told ∙ h.answer) i; words = h.words i; names = h.names i }) (record { number = refl; told = e })

-- ---- a run

-- the times as the machine reads them
pub tells_run : {manner : Manner} {source list sizes values : List ℕ} {m m' : Memory ℕ} {start steps : ℤ} {counted : Bool} {field r : ℕ} {entries entries' : List ℕ} {said : Report} → SFits w64 start → SFits w64 steps
    → RunLeaves flat_names manner (lent source list sizes m values (to_z w64 (of_z w64 start)) (to_z w64 (of_z w64 steps)) counted field) said m' → Tells (report_entries source (told said [])) entries r entries'
    → TellsRun manner (lent source list sizes m values start steps counted field) entries r m' entries'
tells_run {source = source} {r = r} {entries} {entries'} a b h t =
    let k = read_times a b h in
    record {
      tells = subst (λ (l : List ℕ). Tells l entries r entries') (ap (λ (x : report.Report). report_entries source x) (left_report k)) t;
      memory = ap (λ x. x.memory) k.is;
    }

-- what a call tells that hands the times on, as the machine reads them
pub told_on : {manner : Manner} {source list sizes values : List ℕ} {m : Memory ℕ} {start steps : ℤ} {counted : Bool} {field : ℕ} {entries entries' : List ℕ} {r : ℕ} {m' : Memory ℕ} → SFits w64 start → SFits w64 steps
    → TellsRun manner (lent source list sizes m values (to_z w64 (of_z w64 start)) (to_z w64 (of_z w64 steps)) counted field) entries r m' entries'
    → TellsRun manner (lent source list sizes m values start steps counted field) entries r m' entries'
told_on {manner} {source} {list} {sizes} {values} {m} {start} {steps} {counted} {field} {entries} {entries'} {r} {m'} a b =
    subst₂ (λ (s n : ℤ). TellsRun manner (lent source list sizes m values s n counted field) entries r m' entries') (to_z-of_z {w = w64} a) (to_z-of_z {w = w64} b)

-- the grid that it leaves has each field in its range
pub tells_ranges : {manner : Manner} {l : Lent ℕ} {entries entries' : List ℕ} {r : ℕ} {m : Memory ℕ} → TellsRun manner l entries r m entries' → RangesKept l.source (read_lent flat_names l) (asked l) m.grid
unfolding run_left
tells_ranges {manner} {l} h = subst (RangesKept l.source (read_lent flat_names l) (asked l)) (sym (ap (λ x. x.grid) h.memory)) (grid_in_ranges manner (fits flat_names l) l.source (asked l))

-- and what it tells agrees with the full run, unless it began from lent marks
pub tells_agrees : {manner : Manner} {l : Lent ℕ} {entries entries' : List ℕ} {r : ℕ} {m : Memory ℕ} (way : Way) → TellsRun manner l entries r m entries'
    → AgreesFresh way (run_report flat_names (manner_of way l.memory.marks) l) (run_report flat_names full l)
tells_agrees {l = l} way h = fresh_agrees flat_names way l

-- a run that keeps no counts is lent none, and leaves none
pub told_plain : {manner : Manner} {source list sizes ws ns : List ℕ} {g s : List ℤ} {k values : List ℕ} {start steps : ℤ} {field : ℕ} {entries entries' : List ℕ} {r : ℕ} {ws' ns' : List ℕ} {g' s' : List ℤ} {k' o' : List ℕ}
    → TellsRun manner (lent source list sizes (memory ws ns g s k []) values start steps false field) entries r (memory ws' ns' g' s' k' o') entries'
    → TellsRun manner (lent source list sizes (memory ws ns g s k []) values start steps false field) entries r (memory ws' ns' g' s' k' []) entries'
unfolding run_left
told_plain {manner} {source} {list} {sizes} {ws} {ns} {g} {s} {k} {values} {start} {steps} {field} {entries} {entries'} {r} {ws'} {ns'} {g'} {s'} {k'} {o'} h =
    subst (λ (o : List ℕ). TellsRun manner (lent source list sizes (memory ws ns g s k []) values start steps false field) entries r (memory ws' ns' g' s' k' o) entries')
    (ap (λ x. x.counts) h.memory ∙ counts_unasked manner _ source _ [] refl) h

-- ---- the writer

-- the time as the machine reads it
pub read_time : {source list sizes : List ℕ} {earlier later : List ℤ} {time : ℤ} {ws ns room ws' ns' room' : List ℕ} {said : Result ℕ Refusal} → SFits w64 time
    → WriterLeaves flat_names (source_lent source list ws ns) (wanted sizes earlier later (to_z w64 (of_z w64 time))) room said ws' ns' room'
    → WriterLeaves flat_names (source_lent source list ws ns) (wanted sizes earlier later time) room said ws' ns' room'
read_time {source} {list} {sizes} {earlier} {later} {time} {ws} {ns} {room} {ws'} {ns'} {room'} {said} a =
    subst (λ (z : ℤ). WriterLeaves flat_names (source_lent source list ws ns) (wanted sizes earlier later z) room said ws' ns' room') (to_z-of_z {w = w64} a)

-- what is written is told by its reply and its length
written_by : (r : Result ℕ Refusal) (room : List ℕ) → record { number = (refusal_told r).number; place = (refusal_told r).place; length = result_unwrap_or r 0; room = room } ≡ wrote_of r room
written_by (Ok n) room = refl
written_by (Err e) room = refl

pub tells_written : {source list : List ℕ} {sizes : List ℕ} {earlier later : List ℤ} {time : ℤ} {ws ns room entries ws' ns' room' entries' : List ℕ} {said : Result ℕ Refusal} {e : Refusal} {n : ℕ} {t : Told} → SFits w64 time
    → WriterLeaves flat_names (source_lent source list ws ns) (wanted sizes earlier later (to_z w64 (of_z w64 time))) room said ws' ns' room' → e ≡ refusal_told said → n ≡ result_unwrap_or said 0
    → told_entries t ≡ part_entries (part_at source e.number e.place) → entries' ≡ over (e.number ∷ e.place ∷ n ∷ told_entries t) entries
    → TellsRoom (writer_left flat_names (source_lent source list ws ns) (wanted sizes earlier later time) room) (written_entries source) (λ (x : Wrote). x.room) entries e.number ws' ns' room' entries'
tells_written {source} {entries = entries} {ws'} {ns'} {room'} {said = said} {e} {n} a h f k p o =
    let answer = (λ i. record { number = (f i).number; place = (f i).place; length = k i; room = room' }) ∙ written_by said room' in
    let is = (λ i. record { answer = answer i; words = ws'; names = ns' }) ∙ (read_time a h).is in
    record {
      tells = tells_source (written_entries source) is (record { number = refl; told = o ∙ ap (λ (l : List ℕ). over (e.number ∷ e.place ∷ n ∷ l) entries) p });
      room_is = ap (λ x. x.answer.room) is;
    }

-- ---- bands of rows

borders_by : (r : Result Border Refusal) → (let b = result_unwrap_or r (record { before = 0; behind = 0 }) in record { number = (refusal_told r).number; place = (refusal_told r).place; before = b.before; behind = b.behind }) ≡ borders_in r
borders_by (Ok b) = refl
borders_by (Err e) = refl

pub tells_borders : {l : SourceLent ℕ} {sizes reply ws' ns' reply' : List ℕ} {said : Result Border Refusal} {e : Refusal} {b : Border} {t : Told} → BordersLeaves flat_names l sizes said ws' ns' → e ≡ refusal_told said
    → b ≡ result_unwrap_or said (record { before = 0; behind = 0 }) → told_entries t ≡ part_entries (part_at l.source e.number e.place) → reply' ≡ over (e.number ∷ e.place ∷ b.before ∷ b.behind ∷ told_entries t) reply
    → TellsSource (borders_left flat_names l sizes) (border_entries l.source) reply e.number ws' ns' reply'
tells_borders {l} {reply = reply} {ws'} {ns'} {said = said} {e} {b} h f k p o =
    let answer = (λ i. record { number = (f i).number; place = (f i).place; before = (k i).before; behind = (k i).behind }) ∙ borders_by said in
    tells_source (border_entries l.source) ((λ i. record { answer = answer i; words = ws'; names = ns' }) ∙ h.is)
    (record { number = refl; told = o ∙ ap (λ (xs : List ℕ). over (e.number ∷ e.place ∷ b.before ∷ b.behind ∷ xs) reply) p })

pub tells_plan_check : {l : SourceLent ℕ} {sizes : List ℕ} {held : ℕ} {plan reply ws' ns' reply' : List ℕ} {said : Result (Unit {0}) Refusal} {e : Refusal} {r : ℕ} → CheckLeaves flat_names l sizes held plan said ws' ns' → e ≡ refusal_told said
    → Tells (reply_entries l.source e.number e.place) reply r reply' → TellsSource (plan_check_left flat_names l sizes held plan) (λ c. reply_entries l.source c.number c.place) reply r ws' ns' reply'
tells_plan_check {l} {reply = reply} {reply' = reply'} {r = r} h f t =
    tells_source (λ (c : Refusal). reply_entries l.source c.number c.place) h.is (subst (λ (x : Refusal). Tells (reply_entries l.source x.number x.place) reply r reply') f t)

planned_by : (r : Result ℕ Refusal) (room : List ℕ) → record { number = (refusal_told r).number; place = (refusal_told r).place; bands = result_unwrap_or r 0; room = room } ≡ planned_of r room
planned_by (Ok n) room = refl
planned_by (Err e) room = refl

pub tells_planned : {l : SourceLent ℕ} {sizes : List ℕ} {held : ℕ} {room reply ws' ns' room' reply' : List ℕ} {said : Result ℕ Refusal} {e : Refusal} {n : ℕ} {t : Told} → PlannerLeaves flat_names l sizes held room said ws' ns' room'
    → e ≡ refusal_told said → n ≡ result_unwrap_or said 0 → told_entries t ≡ part_entries (part_at l.source e.number e.place) → reply' ≡ over (e.number ∷ e.place ∷ n ∷ told_entries t) reply
    → TellsRoom (planner_left flat_names l sizes held room) (planned_entries l.source) (λ (x : plans.Planned). x.room) reply e.number ws' ns' room' reply'
tells_planned {l} {reply = reply} {ws'} {ns'} {room'} {said = said} {e} {n} h f k p o =
    let answer = (λ i. record { number = (f i).number; place = (f i).place; bands = k i; room = room' }) ∙ planned_by said room' in
    let is = (λ i. record { answer = answer i; words = ws'; names = ns' }) ∙ h.is in
    record {
      tells = tells_source (planned_entries l.source) is (record { number = refl; told = o ∙ ap (λ (xs : List ℕ). over (e.number ∷ e.place ∷ n ∷ xs) reply) p });
      room_is = ap (λ x. x.answer.room) is;
    }

pub tells_band : {source list ws ns sizes : List ℕ} {first last held : ℕ} {rows room : List ℤ} {time : ℤ} {r : ℕ} {entries ws' ns' entries' : List ℕ} {room' : List ℤ} {said : Report} → SFits w64 time
    → BandLeaves flat_names (source_lent source list ws ns) (band_asked sizes first last held rows room (to_z w64 (of_z w64 time))) said ws' ns' room' → Tells (report_entries source (told said [])) entries r entries'
    → TellsRoom (band_left flat_names (source_lent source list ws ns) (band_asked sizes first last held rows room time)) (report_entries source) (λ (x : report.Report). x.grid) entries r ws' ns' room' entries'
tells_band {source} {list} {ws} {ns} {sizes} {first} {last} {held} {rows} {room} {ws' = ws'} {ns'} {room' = room'} {said = said} a h t =
    let k = subst (λ (z : ℤ). BandLeaves flat_names (source_lent source list ws ns) (band_asked sizes first last held rows room z) said ws' ns' room') (to_z-of_z {w = w64} a) h in
    record { tells = tells_source (report_entries source) k.is t; room_is = ap (λ x. x.answer.grid) k.is }

pub tells_banded : {source list sizes values plan : List ℕ} {m m' : Memory ℕ} {start steps : ℤ} {counted : Bool} {field held r : ℕ} {room room' : List ℤ} {entries entries' : List ℕ} {said : Report} → SFits w64 start → SFits w64 steps
    → BandedLeaves flat_names (banded_lent (lent source list sizes m values (to_z w64 (of_z w64 start)) (to_z w64 (of_z w64 steps)) counted field) held plan room) said m' room'
    → Tells (report_entries source (told said [])) entries r entries' → TellsBanded (banded_lent (lent source list sizes m values start steps counted field) held plan room) entries r m' room' entries'
tells_banded {source} {list} {sizes} {values} {plan} {m} {m'} {counted = counted} {field} {held} {r} {room} {room'} {entries} {entries'} {said} a b h t =
    let k = subst₂ (λ (y z : ℤ). BandedLeaves flat_names (banded_lent (lent source list sizes m values y z counted field) held plan room) said m' room') (to_z-of_z {w = w64} a) (to_z-of_z {w = w64} b) h in
    record {
      tells = subst (λ (l : List ℕ). Tells l entries r entries') (ap (λ x. report_entries source x.left.report) k.is) t;
      memory = ap (λ x. x.left.memory) k.is;
      room_is = ap (λ x. x.room) k.is;
    }

-- ---- a comparison

pub tells_comparison : {left right : List ℤ} {k : ℕ} {room : List ℤ} {reply : List ℕ} {said : Result ℕ Incomparable} {room' : List ℤ} {reply' : List ℕ} → Compares left right k room said room' → reply' ≡ over (comparison_entries (comparison_told said)) reply
    → TellsComparison left right k room reply (comparison_told said).number room' reply'
tells_comparison {reply = reply} h e =
    record {
      tells = record { number = ap (λ (c : Comparison). c.number) h.answer; told = e ∙ ap (λ (c : Comparison). over (comparison_entries c) reply) h.answer };
      room_is = h.room_is;
    }
