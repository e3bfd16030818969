-- What the functions that check a list promise.
use Rattle.std.specs.Prelude.{◌≡◌, List, ℕ, Option as Optional, Some, None, Result, Ok, Err}
use Rattle.std.proofs.Math.Option.{Option, some, none}
use Rattle.program.specs.Syntax.{Range}
use Rattle.list_meaning.specs.Text.{Piece, literal, with_piece, pieces}
use Rattle.list_meaning.specs.Lines.{Said, bad, indices, cell_of_index, said_in}
use Rattle.list_meaning.specs.ListChecking.{Limits, time_number, line_number, time_behind, Verdict, verdict, check_list}
use Rattle.program.specs.Reason.{reason_number}
use Rattle.program.specs.declared.reply.Reason.{Reason}
use Rattle.list_reader.specs.Promises.Values.{reason_told}
use Rattle.list_reader.specs.declared.checking.ListRefusal.{ListRefusal}

-- the limits of a run, with its flag told by a number: a number behind the last field is no flag (`told_check` of the lists)
abbrev pub limits : List ℕ → List Range → ℕ → ℕ → ℕ → Limits
limits sizes fields flag first last = record { sizes = sizes; fields = fields; flag = some flag; first = first; last = last }

-- the time before, if there is one
abbrev pub time_before : Optional ℕ → Option ℕ
time_before None = none
time_before (Some t) = some t

-- ---- a time

-- r says what there is to say of a time
pub record ChecksTime (first last : ℕ) (before : Optional ℕ) (t : ℕ) (r : Result (Unit {0}) Reason) : Type 0 where
  pub is : (q : Limits) → q.first ≡ first → q.last ≡ last → reason_told r ≡ time_number q (time_before before) t

-- ---- a cell

-- what a line says whose tokens behind `[` are these
abbrev pub cell_said : Option (List Piece) → Said
cell_said none = bad
cell_said (some ps) = cell_of_index (indices ps)

-- r says what there is to say of a cell's line behind some time, which stands in `line` from behind its `[` on
pub record ChecksCell (sizes : List ℕ) (fields : List Range) (flag : ℕ) (line : List ℕ) (r : Result (Unit {0}) Reason) : Type 0 where
  pub is : (q : Limits) (t : ℕ) → q.sizes ≡ sizes → q.fields ≡ fields → q.flag ≡ some flag → reason_told r ≡ line_number q (some t) (cell_said (pieces 0 line))

-- ---- a line

-- a line that is right, with the time that the next one must rise over; or its reason
abbrev pub Judged : Limits → Optional ℕ → Said → Result (Optional ℕ) Reason → Type 0
Judged q before s (Ok after) = (line_number q (time_before before) s ≡ 0) × (time_behind (time_before before) s ≡ time_before after)
Judged q before s (Err e) = line_number q (time_before before) s ≡ reason_number e

-- r is what there is to say of a line that begins with a literal, with the tokens behind it in `line`
pub record JudgesTime (first last : ℕ) (before : Optional ℕ) (t : ℕ) (line : List ℕ) (r : Result (Optional ℕ) Reason) : Type 0 where
  pub is : (q : Limits) → q.first ≡ first → q.last ≡ last → Judged q before (said_in (with_piece (literal t) (pieces 0 line))) r

-- r is what there is to say of a line
pub record JudgesLine (q : Limits) (before : Optional ℕ) (line : List ℕ) (r : Result (Optional ℕ) Reason) : Type 0 where
  pub is : Judged q before (said_in (pieces 0 line)) r

-- ---- a list

-- the number and the line that a check tells: 0 and 0 where the list passes
abbrev pub answer : Result (Unit {0}) ListRefusal → Verdict
answer (Ok a) = verdict 0 0
answer (Err e) = verdict (reason_number e.reason) e.line

-- r is the verdict on a list
pub record ChecksLines (q : Limits) (text : List ℕ) (r : Result (Unit {0}) ListRefusal) : Type 0 where
  pub is : answer r ≡ check_list q text
