-- The writer's checks, as the functions promise them.
use Rattle.std.specs.Prelude.{◌≡◌, true, List, ℕ, ◌≤◌, length, ℤ, pos, nat_abs, Result, Ok, Err}
use Rattle.value.specs.Limits.{most_dims, most_along, most_cells}
use Rattle.automaton.specs.Shape.{product}
use Rattle.automaton.specs.Promises.ShapeLaws.{Shaped}
use Rattle.program.specs.Syntax.{Program}
use Rattle.cell_meaning.specs.Promises.Stands.{Holds}
use Rattle.cell_meaning.specs.Written.{relatives_in}
use Rattle.program.specs.Refusal.{Refusal}
use Rattle.program.specs.declared.Rule.{Rule}
use Rattle.run_meaning.specs.Admission.{all_between, admission}
use Rattle.run_admission.specs.Promises.Admitting.{refusal_told, request_of, Lists}
use Rattle.list_meaning.specs.Writing.{Wanted, lower, writing_admission}
use Rattle.list_writer.specs.Promises.Lines.{Grids}

-- the number of cells, where a run could have these sizes
pub record CountsCells (sizes : List ℕ) (count : ℕ) : Type 0 where
  pub is : length sizes ≤ most_dims → all_between 1 most_along sizes ≡ true → product sizes ≤ most_cells → count ≡ product sizes

-- the time of a run that is admitted
pub record Timely (time : ℤ) : Type 0 where
  pub is : time ≡ pos (nat_abs time)
  pub small : nat_abs time ≤ 2147483647

-- a refusal has a number
abbrev pub Numbered : Result (Unit {0}) Refusal → Type 0
Numbered r = (e : Refusal) → r ≡ Err e → e.number ≡ 0 → ⊥

-- what is known where one grid is admitted
pub record GridReady (rule : Rule) (sizes : List ℕ) (entries count : ℕ) (time : ℤ) : Type 0 where
  pub shaped : Shaped rule.dims rule.fields most_cells sizes entries
  pub counted : count ≡ product sizes
  pub timely : Timely time

-- the check of one grid is the definition's, for every program that stands in the table
pub record AdmitsGrid (words : List ℕ) (rule : Rule) (sizes : List ℕ) (grid : List ℤ) (count : ℕ) (time : ℤ) (r : Result (Unit {0}) Refusal) : Type 0 where
  pub says : (p : Program) → Holds words rule p → Lists words rule (relatives_in p)
      → refusal_told r ≡ admission p (request_of sizes grid (length grid) count time (pos 0))
  pub numbered : Numbered r
  pub ready : (u : Unit {0}) → r ≡ Ok u → GridReady rule sizes (length grid) count time

-- the lower of two refusals
pub record LowerOf (a b r : Result (Unit {0}) Refusal) : Type 0 where
  pub is : Numbered a → Numbered b → refusal_told r ≡ lower (refusal_told a) (refusal_told b)
  pub numbered : Numbered a → Numbered b → Numbered r
  pub passed : (u : Unit {0}) → r ≡ Ok u → (a ≡ Ok tt) × (b ≡ Ok tt)

-- what is known where both are admitted
pub record WriterReady (rule : Rule) (q : Wanted) (count : ℕ) : Type 0 where
  pub grids : Grids q.sizes rule.fields q.earlier q.later
  pub counted : count ≡ product q.sizes
  pub timely : Timely q.time

-- the check of both is the definition's
pub record AdmitsBoth (words : List ℕ) (rule : Rule) (q : Wanted) (count : ℕ) (r : Result (Unit {0}) Refusal) : Type 0 where
  pub says : (p : Program) → Holds words rule p → Lists words rule (relatives_in p) → refusal_told r ≡ writing_admission p q
  pub numbered : Numbered r
  pub ready : (u : Unit {0}) → r ≡ Ok u → WriterReady rule q count
