-- What is stored of the records of the flat words that a reading leaves.
use mathlib.Core.Path.{◌≡◌, refl, sym, ◌∙◌, ap, subst, subst₂}
use mathlib.Core.Bool.{Bool, true, false, not, ◌&&◌}
use mathlib.Core.List.{List, ◌++◌}
use Prim.Native.Nat.{ℕ, ◌≤◌, ◌<◌, zero-le}
use native.Mathlib.Nat.{le_refl}
use lib.Dec.{eqb, ltb}
use lib.IntN.{ℤ, pos}
use lib.ListN.{length, take, drop, replicate, length-replicate}
use borrow.Author.Tests.{eq-eqb, ne_eqb, eqb-true, lt-ltb, le-ltb, not-true, not-false}
use Rattle.value.proofs.Theorems.Truth.{and_false}
use Rattle.value.specs.Limits.{most_bytes, table_words, most_names, name_words}
use Rattle.std.specs.Prelude.{if◌then◌else◌, Result, Err}
use Rattle.value.proofs.Theorems.Laws.{never}
use Rattle.token.specs.Lexeme.{is_built_in}
use Rattle.grammar.specs.Reader as reader
use Rattle.grammar.specs.Reader.{ok, fail}
use Rattle.program.specs.Refusal.{Refusal, refusal}
use Rattle.grammar.specs.Source.{Accepted, parse}
use Rattle.grammar.specs.Checking.{SourceRead, turned_away, source_read, rooms_fit, read_source, room_left, check, words_after}
use Rattle.grammar.specs.Promises.Flat.{lent_fit, names_after}
use Rattle.move_meaning.specs.Profile.{missed, one_move}
use Rattle.move_profile.specs.declared.Missed.TheVariants.{Refused}
use Rattle.move_profile.specs.Promises.Public.{answer_told}
use Rattle.run_meaning.specs.Report.{Manner}
use Rattle.run_calls.specs.Services.{run_source, room_after, marks_after, counts_after}
use Rattle.run_calls.specs.Calls.{flat_names, SourceLent, source_lent, source_left, names_left, memory, Lent, lent, asked, run_left}
use Rattle.read_source.specs.Promises.Promises.{Checks}
use Rattle.read_source.proofs.Checks.{list_right}
use Rattle.run_steps.specs.declared.Report.{Report}
use Rattle.run_source.specs.Promises.Public.{RunLeaves}
use Rattle.run_source.proofs.RunLaws.{left_by, left_report, unlisted_run}
use Rattle.read_source.specs.declared.checking.Reply.{Reply}
use Rattle.list_meaning.specs.Writing.{Wanted, write_source}
use Rattle.list_writer.specs.WriterCalls.{writer_left, wrote_of}
use Rattle.list_writer.specs.Promises.Writing.{WriterLeaves}
use Rattle.list_writer.proofs.WritingLaws.{unlisted_writer}
use Rattle.api_records.specs.declared.Name.{Name}
use Rattle.api_records.specs.Rows.{no_name, rows_of}
use Rattle.cellang.specs.Left.{rows_fit, row_names}
use Rattle.cellang.specs.Storing.{lent_rows_fit, row_fits, stored_of}
use Rattle.cellang.specs.Promises.Rows.{LeavesRows}
use Rattle.api_records.proofs.RowLaws.{filled_all, length_rows, rows_of_zeros}

-- ---- whether the rooms fit

pub rows_fit_flat : (words : ℕ) → rows_fit words 256 ≡ rooms_fit words 1024
unfolding rows_fit rooms_fit
rows_fit_flat words = refl

-- another list than the built-in one, or no room for every record
pub no_row : (list : List ℕ) (words names : ℕ) → row_fits list names ≡ false → lent_rows_fit list words names ≡ false
unfolding row_fits rows_fit
no_row list words names n = by (is_built_in list) (eqb names most_names) n
  where
    by : (a b : Bool) → (a && b) ≡ false → (a && (eqb words table_words && b)) ≡ false
    by true b e = ap (λ (t : Bool). eqb words table_words && t) e ∙ and_false (eqb words table_words)
    by false b e = refl

pub row_there : (list : List ℕ) (names : ℕ) → row_fits list names ≡ true → (is_built_in list ≡ true) × (names ≡ 256)
unfolding row_fits
row_there list names n = by (is_built_in list) (eqb names most_names) refl refl n
  where
    by : (a b : Bool) → is_built_in list ≡ a → eqb names most_names ≡ b → (a && b) ≡ true → (is_built_in list ≡ true) × (names ≡ 256)
    by true true e f q = (e, eqb-true names 256 f)
    by true false e f q = never q
    by false b e f q = never q

-- then nothing is touched
pub turned_words : (source ws : List ℕ) → ws ≡ words_after false source ws
unfolding words_after read_source
turned_words source ws = refl

pub turned_row : (source : List ℕ) (ns : List Name) → ns ≡ names_left row_names false source ns
unfolding read_source
turned_row source ns = refl

-- ---- the row of records that is left

-- how reading ends, by the tests
abbrev ended : Bool → Bool → SourceRead → SourceRead
ended fit long read = if not fit then turned_away 1 0 else if long then turned_away 2 most_bytes else read

abbrev kept : Bool → Bool → ℕ
kept fit long = if fit && not long then most_names else 0

abbrev zeros : List ℕ
zeros = replicate name_words 0

left : (fit long : Bool) (read : reader.Result Accepted) (old : List Name) → length old ≡ 256
    → take (kept fit long) (rows_of (room_left 0 zeros (λ a. a.names) (ended fit long (source_read read)))) ++ drop (kept fit long)
    old ≡ room_left no_name old (λ a. rows_of a.names) (ended fit long (source_read read))
left false long read old e = refl
left true true read old e = refl
left true false (ok a) old e = filled_all old (rows_of a.names) 256 e (length_rows a.names)
left true false (fail number place) old e =
    filled_all old (rows_of (replicate (length zeros) 0)) 256 e (length_rows (replicate (length zeros) 0)) ∙ rows_of_zeros (length zeros) ∙ ap (λ (n : ℕ). replicate n no_name)
    (sym e)

abbrev fits : List ℕ → Bool
fits ws = eqb (length ws) table_words

abbrev long : List ℕ → Bool
long source = ltb most_bytes (length source)

and_true : (t : Bool) → (t && true) ≡ t
and_true true = refl
and_true false = refl

pub stores_row : (source ws : List ℕ) (flat : List ℕ) (old : List Name) → length old ≡ 256 → flat ≡ names_after (rooms_fit (length ws) 1024) source zeros
    → take (stored_of (length source) (length ws)) (rows_of flat) ++ drop (stored_of (length source) (length ws)) old ≡ names_left row_names (rows_fit (length ws) 256) source old
unfolding stored_of rows_fit rooms_fit names_after read_source
stores_row source ws flat old e h =
    ap (λ (l : List ℕ). take (kept (fits ws) (long source)) (rows_of l) ++ drop (kept (fits ws) (long source)) old)
    (h ∙ ap (λ (t : Bool). room_left 0 zeros (λ a. a.names) (ended t (long source) (source_read (parse source)))) (and_true (fits ws)))
    ∙ left (fits ws) (long source) (parse source) old e
    ∙ ap (λ (t : Bool). room_left no_name old (λ a. rows_of a.names) (ended t (long source) (source_read (parse source)))) (sym (and_true (fits ws)))

-- the flat words are a form of the name list
flat_left : (list source ws : List ℕ) {flat : List ℕ} → flat ≡ names_left flat_names (is_built_in list && rooms_fit (length ws) (length zeros)) source zeros
    → flat ≡ names_after (lent_fit list (length ws) (length zeros)) source zeros
unfolding names_after lent_fit
flat_left list source ws e = e

zeros_long : length zeros ≡ 1024
zeros_long = length-replicate {A = ℕ} 1024 0

-- with the built-in list, what is lent fits if the row of records does
fits_flat : (list ws : List ℕ) (names : ℕ) → (is_built_in list ≡ true) × (names ≡ 256) → lent_fit list (length ws) (length zeros) ≡ lent_rows_fit list (length ws) names
fits_flat list ws names e =
    list_right list (length ws) (length zeros) e.0 ∙ ap (rooms_fit (length ws)) zeros_long ∙ sym (rows_fit_flat (length ws)) ∙ ap (rows_fit (length ws)) (sym e.1)
    ∙ sym (ap (λ (t : Bool). t && rows_fit (length ws) names) e.0)

-- the records that are stored, with the built-in list
stores_lent : (list source ws flat : List ℕ) (names : ℕ) (e : (is_built_in list ≡ true) × (names ≡ 256)) (old : List Name) → length old ≡ names
    → flat ≡ names_after (lent_fit list (length ws) (length zeros)) source zeros
    → take (stored_of (length source) (length ws)) (rows_of flat) ++ drop (stored_of (length source) (length ws)) old ≡ names_left row_names (lent_rows_fit list (length ws) names) source old
stores_lent list source ws flat names e old l h =
    stores_row source ws flat old (l ∙ e.1) (h ∙ ap (λ (t : Bool). names_after t source zeros) (list_right list (length ws) (length zeros) e.0 ∙ ap (rooms_fit (length ws)) zeros_long))
    ∙ ap (λ (t : Bool). names_left row_names t source old) (ap (rows_fit (length ws)) (sym e.1) ∙ sym (ap (λ (t : Bool). t && rows_fit (length ws) names) e.0))

-- ---- a call that reads a source, over a row of records

module _ {A : Type 0} (f : Bool → List ℕ → A) (source list ws : List ℕ) (ns : List Name) where
  -- without the built-in list or a row of 256 records nothing is read
  pub nothing_read : {answer : A} → row_fits list (length ns) ≡ false → answer ≡ f false source → LeavesRows (source_left row_names (source_lent source list ws ns) f) answer ws ns
  nothing_read n e =
      let fit = sym (no_row list (length ws) (length ns) n) in
      record {
        is = λ i. record {
          answer = (e ∙ ap (λ (t : Bool). f t source) fit) i;
          words = (turned_words source ws ∙ ap (λ (t : Bool). words_after t source ws) fit) i;
          names = (turned_row source ns ∙ ap (λ (t : Bool). names_left row_names t source ns) fit) i;
        };
      }

  -- what is read over flat words, and stored
  pub read_stored : {answer : A} {ws' flat : List ℕ} {ns' : List Name} → row_fits list (length ns) ≡ true → answer ≡ f (lent_fit list (length ws) (length zeros)) source
      → ws' ≡ words_after (lent_fit list (length ws) (length zeros)) source ws → flat ≡ names_after (lent_fit list (length ws) (length zeros)) source zeros
      → ns' ≡ take (stored_of (length source) (length ws)) (rows_of flat) ++ drop (stored_of (length source) (length ws)) ns
      → LeavesRows (source_left row_names (source_lent source list ws ns) f) answer ws' ns'
  read_stored {flat = flat} n e w h s =
      let there = row_there list (length ns) n in
      let fit = fits_flat list ws (length ns) there in
      record {
        is = λ i. record {
          answer = (e ∙ ap (λ (t : Bool). f t source) fit) i;
          words = (w ∙ ap (λ (t : Bool). words_after t source ws) fit) i;
          names = (s ∙ stores_lent list source ws flat (length ns) there ns refl h) i;
        };
      }

pub turned_reply : (source : List ℕ) → refusal 1 0 ≡ check false source
unfolding check read_source
turned_reply source = refl

pub turned_profile : (source : List ℕ) {e : Refusal} → e ≡ refusal 1 0 → answer_told (Err (Refused e)) ≡ one_move false source
unfolding one_move read_source
turned_profile source e = ap (λ (x : Refusal). missed 1 x.number x.place) e

-- ---- the writer

module _ (source list ws : List ℕ) (ns : List Name) (q : Wanted) (room : List ℕ) where
  pub nothing_written : {e : Refusal} → row_fits list (length ns) ≡ false → e ≡ refusal 1 0 → LeavesRows (writer_left row_names (source_lent source list ws ns) q room) (wrote_of (Err e) room) ws ns
  nothing_written n e = rw e record { is = (unlisted_writer row_names (source_lent source list ws ns) q room (no_row list (length ws) (length ns) n)).is }

  pub written_stored : {ws' flat room' : List ℕ} {written : Result ℕ Refusal} {ns' : List Name} → row_fits list (length ns) ≡ true → WriterLeaves flat_names (source_lent source list ws zeros) q room written ws' flat room'
      → ns' ≡ take (stored_of (length source) (length ws)) (rows_of flat) ++ drop (stored_of (length source) (length ws)) ns
      → LeavesRows (writer_left row_names (source_lent source list ws ns) q room) (wrote_of written room') ws' ns'
  unfolding writer_left lent_fit
  written_stored n c s =
      read_stored (λ fit source. write_source fit source q room) source list ws ns n (ap (λ x. x.answer) c.is) (ap (λ x. x.words) c.is) (flat_left list source ws (ap (λ x. x.names) c.is)) s

-- ---- a run

module _ (manner : Manner) (source list ws : List ℕ) (ns : List Name) (sizes : List ℕ) (grid scratch : List ℤ) (marks values : List ℕ) (start steps : ℤ) (counts : List ℕ) (counted : Bool) (field : ℕ) where
  abbrev lends : Lent Name
  lends = lent source list sizes (memory ws ns grid scratch marks counts) values start steps counted field

  pub run_stored : {ws' flat : List ℕ} {ns' : List Name} {grid' scratch' : List ℤ} {marks' counts' : List ℕ} {report : Report} → row_fits list (length ns) ≡ true
      → RunLeaves flat_names manner (lent source list sizes (memory ws zeros grid scratch marks counts) values start steps counted field) report (memory ws' flat grid' scratch' marks' counts')
      → ns' ≡ take (stored_of (length source) (length ws)) (rows_of flat) ++ drop (stored_of (length source) (length ws)) ns
      → RunLeaves row_names manner lends report (memory ws' ns' grid' scratch' marks' counts')
  unfolding run_left lent_fit
  run_stored {flat = flat} n c s =
      let there = row_there list (length ns) n in
      let fit = fits_flat list ws (length ns) there in
      let q = asked lends in
      left_by {form = row_names} {l = lends}
      (left_report c ∙ ap (λ (t : Bool). run_source manner t source q) fit)
      (ap (λ x. x.memory.words) c.is ∙ ap (λ (t : Bool). words_after t source ws) fit)
      (s ∙ stores_lent list source ws flat (length ns) there ns refl (flat_left list source ws (ap (λ x. x.memory.names) c.is)))
      (ap (λ x. x.memory.scratch) c.is ∙ ap (λ (t : Bool). room_after (pos 0) t source q scratch) fit)
      (ap (λ x. x.memory.marks) c.is ∙ ap (λ (t : Bool). marks_after manner t source q marks) fit)
      (ap (λ x. x.memory.counts) c.is ∙ ap (λ (t : Bool). counts_after manner t source q counts) fit)
