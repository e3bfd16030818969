-- What the functions of a band's call promise.
use Rattle.std.specs.Prelude.{◌≡◌, Bool, List, ℕ, ◌*◌, ◌<◌, ◌≤◌, length, get_or, drop, ℤ, pos, nat_abs, Result, Ok, Err}
use Rattle.value.specs.Limits.{most_cells}
use Rattle.automaton.specs.Step as automaton
use Rattle.automaton.specs.Shape.{product, Bound}
use Rattle.automaton.specs.Promises.ShapeLaws.{Positive}
use Rattle.automaton.specs.Bands.{Band, rows_in, rows_with, band_step}
use Rattle.program.specs.Syntax.{Program}
use Rattle.program.specs.declared.Rule.{Rule}
use Rattle.program.specs.Refusal.{Refusal}
use Rattle.grammar.specs.Checking.{words_after}
use Rattle.grammar.specs.Promises.Flat.{names_after}
use Rattle.cell_meaning.specs.Evaluation.{evaluate}
use Rattle.cell_meaning.specs.Promises.Stands.{Holds}
use Rattle.program.specs.Promises.Fitting.{Sized}
use Rattle.run_meaning.specs.Report as report
use Rattle.run_calls.specs.Calls.{NameForm, SourceLent}
use Rattle.run_steps.specs.declared.Report.{Report}
use Rattle.run_steps.specs.Told.{told}
use Rattle.band_planner.specs.declared.opening.RowsOpened.{RowsOpened}
use Rattle.band_planner.specs.Promises.Borders.{border_of}
use Rattle.band_call.specs.Promises.Asking.{RowsDivide}
use Rattle.band_call.specs.BandCall.{row_cells, BandAsked, band_ended, band_source, band_left}

-- `step_lent`: what is asked of an admitted call
pub record LentFits (words : List ℕ) (rule : Rule) (sizes : List ℕ) (row : ℕ) (border : Bound) (b : Band) (rows room time : ℕ) : Type 0 where
  pub rule_fits : Sized (length words) rule
  pub dims : length sizes ≡ rule.dims
  pub some_dims : 0 < length sizes
  pub positive : Positive sizes
  pub few_cells : product sizes ≤ most_cells
  pub row_is : row ≡ row_cells sizes
  pub order : b.first ≤ b.last
  pub inside : b.last < get_or sizes 0 0
  pub near : (border.back ≤ get_or sizes 0 0) × (border.ahead ≤ get_or sizes 0 0)
  pub rows_are : rows ≡ rows_with border b * row * rule.fields
  pub room_is : room ≡ rows_in b * row * rule.fields
  pub small : time < 2147483648

-- the step of a band by a program, on the rows that are lent
abbrev pub stepped_by : Program → ℕ → List ℕ → Bound → Band → List ℤ → ℕ → automaton.Step (List ℤ)
stepped_by p fields sizes border b rows time = band_step (drop 1 sizes) fields (evaluate p) (rows_with border b) border.back (rows_in b) rows time

-- whichever program stands in the table, the report with the room is that of its step
pub record LentStepped (words : List ℕ) (rule : Rule) (sizes : List ℕ) (border : Bound) (b : Band) (rows room : List ℤ) (time : ℕ) (r : Report) (room' : List ℤ) : Type 0 where
  pub says : (p : Program) → Holds words rule p
      → told r room' ≡ band_ended (b.first * row_cells sizes) (length room) (stepped_by p rule.fields sizes border b rows time).fault (stepped_by p rule.fields sizes border b rows time)

-- `admit_band`: the first refusal, or that the call is admitted, and is then told by its step; and what is left of word table and name list
pub record AdmitsBand (fit : Bool) (source words names : List ℕ) (q : BandAsked) (r : Result RowsOpened Refusal) (words' names' : List ℕ) : Type 0 where
  pub words_are : words' ≡ words_after fit source words
  pub names_are : names' ≡ names_after fit source names
  pub refused : (e : Refusal) → r ≡ Err e → band_source fit source q ≡ report.refused e.number e.place 0 q.room
  pub divides : (o : RowsOpened) → r ≡ Ok o → RowsDivide q.sizes
  pub small : (o : RowsOpened) → r ≡ Ok o → q.time ≡ pos (nat_abs q.time)
  pub fits : (o : RowsOpened) → r ≡ Ok o → LentFits words' o.rule q.sizes (row_cells q.sizes) (border_of o.border) q.band (length q.rows) (length q.room) (nat_abs q.time)
  pub tells : (o : RowsOpened) → r ≡ Ok o → (s : Report) (room' : List ℤ)
      → LentStepped words' o.rule q.sizes (border_of o.border) q.band q.rows q.room (nat_abs q.time) s room' → told s room' ≡ band_source fit source q

-- `band_listed`: the report to a source, and what is left, whether or not the rooms fit
pub record StepsSource (fit : Bool) (source words names : List ℕ) (q : BandAsked) (r : Report) (words' names' : List ℕ) (room' : List ℤ) : Type 0 where
  pub report : told r room' ≡ band_source fit source q
  pub words_are : words' ≡ words_after fit source words
  pub names_are : names' ≡ names_after fit source names

-- `step_band`: the report, and the memory that it leaves, are those of the definition
pub record BandLeaves {N : Type 0} (form : NameForm N) (l : SourceLent N) (q : BandAsked) (r : Report) (words : List ℕ) (names : List N) (room : List ℤ) : Type 0 where
  pub is : record { answer = told r room; words = words; names = names } ≡ band_left form l q
