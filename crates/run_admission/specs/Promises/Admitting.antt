-- What the functions that admit a run promise, by the definition of replies 20 to 22 and 24.
use Rattle.std.specs.Prelude.{◌≡◌, Bool, true, not, ◌&&◌, List, [], ℕ, ◌+◌, ◌*◌, ◌≤◌, length, eqb, leb, ℤ, pos, nat_abs, Result, Ok, Err, if◌then◌else◌}
use Rattle.value.specs.Limits.{most_along, most_cells}
use Rattle.automaton.specs.Shape.{product}
use Rattle.automaton.specs.Promises.ShapeLaws.{Shaped}
use Rattle.program.specs.Syntax.{Program}
use Rattle.cell_meaning.specs.Promises.Stands.{rule_table, ranges_in, Holds}
use Rattle.cell_meaning.specs.Written.{Relative, relatives_in}
use Rattle.cell_meaning.specs.Promises.Listing.{Writes}
use Rattle.cell_meaning.specs.Places.{places}
use Rattle.program.specs.declared.reply.Reason.{Reason}
use Rattle.program.specs.Reason.{reason_number}
use Rattle.program.specs.Refusal.{Refusal, no_refusal}
use Rattle.program.specs.declared.Rule.{Rule}
use Rattle.run_meaning.specs.Admission.{Request, all_between, good_sizes, good_rooms, good_times, out_of_field, admission}
use Rattle.run_meaning.specs.Reach.{box}
use Rattle.run_meaning.specs.Promises.Fitting.{bounds_of, Near, places_of}
use Rattle.run_meaning.specs.declared.Reach.{Reach}

-- ---- sizes and rooms

-- the product with one size more before it; 0 where that size is not 1 to 4,096, or the product is over 1,048,576
unfoldable pub times_of : ℕ → ℕ → ℕ
times_of n total = if leb 1 n && leb n most_along && leb (n * total) most_cells then n * total else 0

-- the number of cells of a grid with these sizes; 0 where a size is not 1 to 4,096, or there are more than 1,048,576 cells
unfoldable pub cells_of : List ℕ → ℕ
cells_of ns = if all_between 1 most_along ns && leb (product ns) most_cells then product ns else 0

-- grid and scratch are cells times fields, marks one a cell
unfoldable pub rooms_of : ℕ → ℕ → ℕ → ℕ → ℕ → Bool
rooms_of cells fields entries scratch marks = eqb entries (cells * fields) && eqb scratch entries && eqb marks cells

-- the number that a result gives: 0 for none
abbrev pub number_told : {A : Type 0} → Result A Reason → ℕ
number_told (Ok a) = 0
number_told (Err reason) = reason_number reason

-- the refusal that a result gives: number 0 for none
abbrev pub refusal_told : {A : Type 0} → Result A Refusal → Refusal
refusal_told (Ok a) = no_refusal
refusal_told (Err r) = r

-- the number is the first of 20 to 22 that the definition gives, for every program with this number of dimensions and of fields
pub record AdmissionAsked (rule : Rule) (sizes : List ℕ) (entries scratch marks : ℕ) (start steps : ℤ) (number : ℕ) : Type 0 where
  pub says : (p : Program) → p.dims ≡ rule.dims → length p.fields ≡ rule.fields
      → (q : Request) → q.sizes ≡ sizes → length q.grid ≡ entries → q.scratch ≡ scratch → q.marks ≡ marks → q.start ≡ start → q.steps ≡ steps
      → number ≡ (if not (good_sizes p q.sizes) then 20 else if not (good_rooms p q) then 21 else if not (good_times q.start q.steps) then 22 else 0)
  -- what is known where it is 0
  pub shaped : number ≡ 0 → Shaped rule.dims rule.fields most_cells sizes entries
  pub scratch_fits : number ≡ 0 → scratch ≡ entries
  pub marks_fit : number ≡ 0 → marks ≡ product sizes
  pub each_size : number ≡ 0 → all_between 1 most_along sizes ≡ true
  pub start_is : number ≡ 0 → start ≡ pos (nat_abs start)
  pub steps_is : number ≡ 0 → steps ≡ pos (nat_abs steps)
  pub times : number ≡ 0 → nat_abs start + nat_abs steps ≤ 2147483647

-- ---- entries

-- the refusal is the definition's, for the ranges that stand in the table
pub record InFields (words : List ℕ) (rule : Rule) (grid : List ℤ) (r : Result (Unit {0}) Refusal) : Type 0 where
  pub says : refusal_told r ≡ out_of_field (ranges_in (rule_table words rule) rule.base rule.fields) 0 grid
  pub refused : (e : Refusal) → r ≡ Err e → e.number ≡ 24

-- ---- admission

-- what a run is asked
abbrev pub request_of : List ℕ → List ℤ → ℕ → ℕ → ℤ → ℤ → Request
request_of sizes grid scratch marks start steps = record { sizes = sizes; grid = grid; start = start; steps = steps; scratch = scratch; marks = marks }

-- the statements of a program, with these relative indices, stand in the table
abbrev pub Lists : List ℕ → Rule → List Relative → Type 0
Lists words rule rs = Writes (rule_table words rule) [] rule.body rule.tokens rs

-- what is known where a run is admitted, with a reach
pub record Admitted (words : List ℕ) (rule : Rule) (sizes : List ℕ) (entries scratch marks : ℕ) (start steps : ℤ) (reach : Reach) : Type 0 where
  pub shaped : Shaped rule.dims rule.fields most_cells sizes entries
  pub scratch_fits : scratch ≡ entries
  pub marks_fit : marks ≡ product sizes
  pub start_is : start ≡ pos (nat_abs start)
  pub steps_is : steps ≡ pos (nat_abs steps)
  pub times : nat_abs start + nat_abs steps ≤ 2147483647
  pub reaches : (p : Program) → Holds words rule p → Lists words rule (relatives_in p) → box p ≡ bounds_of reach.bounds rule.dims
  pub lists : (p : Program) → Holds words rule p → Lists words rule (relatives_in p) → places p ≡ places_of reach rule.dims
  pub near : (rs : List Relative) → Lists words rule rs → Near sizes reach.bounds

-- the number and place are those of the definition, for every program that stands in the table
pub record Admits (words : List ℕ) (rule : Rule) (sizes : List ℕ) (grid : List ℤ) (scratch marks : ℕ) (start steps : ℤ) (r : Result Reach Refusal) : Type 0 where
  pub says : (p : Program) → Holds words rule p → Lists words rule (relatives_in p)
      → refusal_told r ≡ admission p (request_of sizes grid scratch marks start steps)
  pub refused : (e : Refusal) → r ≡ Err e → e.number ≡ 0 → ⊥
  pub admitted : (reach : Reach) → r ≡ Ok reach → Admitted words rule sizes (length grid) scratch marks start steps reach
