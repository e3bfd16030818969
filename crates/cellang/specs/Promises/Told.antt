-- What the exported calls promise: the number that is returned, every entry of the slice for a call's numbers, and the rest of the memory that is lent.
use Rattle.std.specs.Prelude.{◌≡◌, Bool, not, List, [], ◌∷◌, ◌++◌, ℕ, ℤ, get_or, eqb}
use Rattle.spelling.specs.Spelling.{part_at, part_entries}
use Rattle.move_meaning.specs.Profile.{Answer}
use Rattle.run_meaning.specs.Report.{Manner, Report}
use Rattle.run_calls.specs.Calls.{flat_names, SourceLeft, Memory, Lent, run_report, run_left}
use Rattle.list_meaning.specs.Writing.{Wrote}
use Rattle.band_meaning.specs.BorderCall.{Borders}
use Rattle.band_meaning.specs.Plans.{Planned}
use Rattle.band_run.specs.BandedRun.{BandedLent, banded_left}
use Rattle.api_entries.specs.Over.{over}
use Rattle.run_row_counts.specs.RowQueries.{RowReply}
use Rattle.api_comparison.specs.Differences.{Comparison, compared, compared_room}

-- ---- every call

-- the first of a call's entries is the number that is returned; the entries are written to the front of the slice, as far as it has room, and its rest
-- stays
pub record Tells (entries reply : List ℕ) (r : ℕ) (reply' : List ℕ) : Type 0 where
  pub number : r ≡ get_or entries 0 0
  pub told : reply' ≡ over entries reply

-- ---- calls that read a source

-- the entries are those of the answer; the word table and the name list are left
pub record TellsSource {A : Type 0} (left : SourceLeft ℕ A) (entries : A → List ℕ) (reply : List ℕ) (r : ℕ) (ws' ns' reply' : List ℕ) : Type 0 where
  pub tells : Tells (entries left.answer) reply r reply'
  pub words_are : ws' ≡ left.words
  pub names_are : ns' ≡ left.names

-- the same of a call with a room, which it leaves as its answer has it
pub record TellsRoom {A E : Type 0} (left : SourceLeft ℕ A) (entries : A → List ℕ) (room : A → List E)
    (reply : List ℕ) (r : ℕ) (ws' ns' : List ℕ) (room' : List E) (reply' : List ℕ) : Type 0 where
  pub tells : TellsSource left entries reply r ws' ns' reply'
  pub room_is : room' ≡ room left.answer

-- the entries of a check of a source or of a plan: the reply's number and place, and where its spelling stands
abbrev pub reply_entries : List ℕ → ℕ → ℕ → List ℕ
reply_entries source number place = number ∷ place ∷ part_entries (part_at source number place)

-- whether a source moves a pixel once
abbrev pub profile_entries : Answer → List ℕ
profile_entries a = a.rule ∷ a.number ∷ a.place ∷ []

-- the writer's numbers, and where its reply's spelling stands
abbrev pub written_entries : List ℕ → Wrote → List ℕ
written_entries source said = said.number ∷ said.place ∷ said.length ∷ part_entries (part_at source said.number said.place)

-- how many border rows there are, and where the reply's spelling stands
abbrev pub border_entries : List ℕ → Borders → List ℕ
border_entries source said = said.number ∷ said.place ∷ said.before ∷ said.behind ∷ part_entries (part_at source said.number said.place)

-- what the planner returns, and where its reply's spelling stands
abbrev pub planned_entries : List ℕ → Planned → List ℕ
planned_entries source said = said.number ∷ said.place ∷ said.bands ∷ part_entries (part_at source said.number said.place)

-- the numbers of a run or of one band's call, where the reply's spelling stands, and the line of the value list
abbrev pub report_entries : List ℕ → Report → List ℕ
report_entries source said =
    said.number ∷ said.place ∷ said.cell ∷ said.steps ∷ said.count ∷ part_entries (part_at source said.number said.place) ++ said.line ∷ []

-- ---- a run

-- the numbers, and the rest of the memory
pub record TellsRun (manner : Manner) (l : Lent ℕ) (entries : List ℕ) (r : ℕ) (m : Memory ℕ) (entries' : List ℕ) : Type 0 where
  pub tells : Tells (report_entries l.source (run_report flat_names manner l)) entries r entries'
  pub memory : m ≡ (run_left flat_names manner l).memory

-- counts are asked for by a number that is not 0
abbrev pub is_asked : ℕ → Bool
is_asked n = not (eqb n 0)

-- a run under a plan writes its numbers as a run does
pub record TellsBanded (l : BandedLent ℕ) (entries : List ℕ) (r : ℕ) (m : Memory ℕ) (room' : List ℤ) (entries' : List ℕ) : Type 0 where
  pub tells : Tells (report_entries l.run.source (banded_left flat_names l).left.report) entries r entries'
  pub memory : m ≡ (banded_left flat_names l).left.memory
  pub room_is : room' ≡ (banded_left flat_names l).room

-- ---- a comparison

-- the entries of a comparison
abbrev pub comparison_entries : Comparison → List ℕ
comparison_entries c = c.number ∷ c.total ∷ []

pub record TellsComparison (left right : List ℤ) (k : ℕ) (room : List ℤ) (reply : List ℕ) (r : ℕ) (room' : List ℤ) (reply' : List ℕ) : Type 0 where
  pub tells : Tells (comparison_entries (compared left right k room)) reply r reply'
  pub room_is : room' ≡ compared_room left right k room

-- ---- row counts

-- the entries of an answer from row counts
abbrev pub row_entries : RowReply → List ℕ
row_entries said = said.number ∷ said.value ∷ []
