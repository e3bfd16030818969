-- What the beginning of a call on rows promises.
use Rattle.std.specs.Prelude.{◌≡◌, Bool, true, List, ℕ, ◌<◌, ◌≤◌, length, Option, None, Some, Result, Ok, Err}
use Rattle.value.specs.Limits.{most_along, most_cells}
use Rattle.automaton.specs.Shape.{product}
use Rattle.automaton.specs.Promises.ShapeLaws.{Positive}
use Rattle.program.specs.Syntax.{Program}
use Rattle.grammar.specs.Source.{Accepted}
use Rattle.grammar.specs.Checking.{accepted, read_source, words_after}
use Rattle.grammar.specs.Promises.Flat.{names_after}
use Rattle.cell_meaning.specs.Promises.Stands.{Holds}
use Rattle.cell_meaning.specs.Written.{relatives_in, written_in}
use Rattle.program.specs.Refusal.{Refusal, refusal, no_refusal}
use Rattle.run_meaning.specs.Admission.{all_between, good_sizes, too_far}
use Rattle.run_meaning.proofs.Theorems.Locality.{Flagged}
use Rattle.program.specs.Promises.Fitting.{Sized}
use Rattle.run_admission.specs.Promises.Admitting.{Lists}
use Rattle.band_meaning.specs.Edge.{edge}
use Rattle.band_meaning.specs.OnSizes.{no_grid, on_grid, on_sizes}
use Rattle.band_meaning.specs.Plans.{rows}
use Rattle.band_planner.specs.declared.opening.RowsOpened.{RowsOpened}
use Rattle.band_planner.specs.Promises.Borders.{border_of}

-- the refusal that an option gives: number 0 for none
abbrev pub far_told : Option Refusal → Refusal
far_told None = no_refusal
far_told (Some e) = e

-- `far_refusal`: 23 at the place
abbrev pub far_refused : Option ℕ → Option Refusal
far_refused None = None
far_refused (Some place) = Some (refusal 23 place)

-- `right_sizes`: whether the sizes are right, for every program with so many dimensions
pub record RightSizes (dims : ℕ) (sizes : List ℕ) (r : Bool) : Type 0 where
  pub is : (p : Program) → p.dims ≡ dims → r ≡ good_sizes p sizes

-- the source is accepted, its program stands in the table by the numbers of its rule, and the sizes are right
pub record RowsOpen (fit : Bool) (source words sizes : List ℕ) (r : RowsOpened) : Type 0 where
  pub read : Accepted
  pub is : read_source fit source ≡ accepted read
  pub on : on_sizes sizes (read_source fit source) ≡ on_grid read.program
  pub holds : Holds words r.rule read.program
  pub lists : Lists words r.rule (relatives_in read.program)
  pub timed : read.program.timed ≡ r.rule.timed
  pub flagged : Flagged read.program
  pub rule_fits : Sized (length words) r.rule
  pub some_dims : 0 < r.rule.dims
  pub some_fields : 0 < r.rule.fields
  pub dims : length sizes ≡ r.rule.dims
  pub positive : Positive sizes
  pub few_cells : product sizes ≤ most_cells
  pub each_size : all_between 1 most_along sizes ≡ true
  pub sized : good_sizes read.program sizes ≡ true
  pub far : far_told r.far ≡ too_far sizes (written_in read.program)
  pub refuses : (e : Refusal) → r.far ≡ Some e → e.number ≡ 0 → ⊥
  pub rows_are : r.rows ≡ rows sizes
  pub borders : border_of r.border ≡ edge read.program
  pub near : r.far ≡ None → (r.border.before ≤ r.rows) × (r.border.behind ≤ r.rows)

-- `open_rows`: refused, or open; and what is left of word table and name list
pub record OpensRows (fit : Bool) (source ws ns sizes : List ℕ) (r : Result RowsOpened Refusal) (ws' ns' : List ℕ) : Type 0 where
  pub words : ws' ≡ words_after fit source ws
  pub names : ns' ≡ names_after fit source ns
  pub refuses : (e : Refusal) → r ≡ Err e → e.number ≡ 0 → ⊥
  pub closed : (e : Refusal) → r ≡ Err e → on_sizes sizes (read_source fit source) ≡ no_grid e.number e.place
  pub opened : (o : RowsOpened) → r ≡ Ok o → RowsOpen fit source ws' sizes o
