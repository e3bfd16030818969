-- Which cells are open after a step or a block, what is asked before they are marked, and which way that goes.
use Rattle.std.specs.Prelude.{◌≡◌, refl, ◌↔◌, Bool, ◌||◌, ℕ, ◌*◌, ◌<◌, ◌≤◌, length, get_or, ℤ}
use mathlib.Core.List.{List, Memᴰ, map}
use Rattle.std.proofs.Math.Option.{some}
use Rattle.value.specs.Limits.{most_fields}
use Rattle.automaton.specs.Step.{any_of, changed, touched, marked, marks_of}
use Rattle.automaton.specs.Shape.{product, width, box_indices, reach_of}
use Rattle.automaton.specs.Promises.ShapeLaws.{Alike}
use Rattle.automaton.specs.Grid.{cell_of, differ, automaton}
use Rattle.program.specs.Syntax.{Program}
use Rattle.cell_meaning.specs.Places.{own_place}
use Rattle.run_meaning.specs.Reach.{reach_from, reach, running}
use Rattle.run_meaning.specs.Promises.Fitting.{bounds_of, places_of}
use Rattle.run_meaning.specs.declared.Bounds.{Bounds}
use Rattle.run_meaning.specs.declared.Reach.{Reach}
use Rattle.run_marking.specs.Promises.Noting.{cells_by, Prepared, Led}

-- whether some cell at the given relative indices from the cell c changed
abbrev pub opened : List ℕ → List (List ℤ) → ℕ → List ℤ → List ℤ → ℕ → Bool
opened sizes dss fields old new c = any_of (λ x. differ (cell_of fields old x) (cell_of fields new x)) (reach_of sizes dss c)

-- These are the cells that are pending after the step.
pub pending_is : (p : Program) (sizes : List ℕ) (old grid : List ℤ) (c : ℕ) → touched (running p sizes) old grid c ≡ opened sizes (reach p) (length p.fields) old grid c
unfolding running automaton touched changed
pending_is p sizes old grid c = refl

-- the index vectors of a reach record, in so many dimensions
abbrev pub indices_of : Reach → ℕ → List (List ℤ)
indices_of r dims = reach_from (bounds_of r.bounds dims) (places_of r dims)

-- what is asked before cells are marked: the way, the grids and the marks fit the sizes
pub record Markable (sizes : List ℕ) (bounds : Bounds) (steps : List ℕ) (listed fields : ℕ) (old grid : List ℤ) (marks : List ℕ) : Type 0 where
  pub prepared : Prepared sizes bounds
  pub led : Led sizes steps listed
  pub few : fields ≤ most_fields
  pub old_fits : length old ≡ product sizes * fields
  pub grid_fits : length grid ≡ product sizes * fields
  pub marks_fit : length marks ≡ product sizes

-- and where the marks are those of the step that led from `old` to `grid`
pub record MarksReady (sizes : List ℕ) (bounds : Bounds) (steps : List ℕ) (listed fields : ℕ) (old grid : List ℤ) (marks : List ℕ) : Type 0 where
  pub markable : Markable sizes bounds steps listed fields old grid marks
  -- every mark is 0 or 1
  pub plain : (c : ℕ) → c < product sizes → get_or marks c 0 ≤ 1
  -- a cell with mark 0 did not change
  pub still : (c : ℕ) → c < product sizes → get_or marks c 0 ≡ 0 → cell_of fields old c ≡ cell_of fields grid c

-- the box, or the steps back, lead from a changed cell to the cells that have it in their reach
pub record Ways (sizes : List ℕ) (bounds : Bounds) (steps : List ℕ) (listed : ℕ) (dss : List (List ℤ)) : Type 0 where
  pub alike : (ds : List ℤ) → Memᴰ ds dss → Alike sizes ds
  pub leads : (c x : ℕ) → c < product sizes → x < product sizes → Memᴰ x (reach_of sizes dss c) ↔ Memᴰ c (cells_by sizes bounds steps listed x)

-- the marks are those of the open cells, for the index vectors that the way stands for
pub record Marks (sizes : List ℕ) (bounds : Bounds) (steps : List ℕ) (listed fields : ℕ) (old grid : List ℤ) (marks : List ℕ) : Type 0 where
  pub says : (dss : List (List ℤ)) → Ways sizes bounds steps listed dss → marks ≡ marks_of (opened sizes dss fields old grid) (product sizes)

-- the marks are those of the cells that were marked, and of the open cells
pub record MarksChanged (sizes : List ℕ) (bounds : Bounds) (steps : List ℕ) (listed fields : ℕ) (old grid : List ℤ) (marks marks' : List ℕ) : Type 0 where
  pub says : (dss : List (List ℤ)) → Ways sizes bounds steps listed dss → marks' ≡ marks_of (λ c. marked marks c || opened sizes dss fields old grid c) (product sizes)

-- a reach record that has the own cell; where it has as many places as the box has index vectors, these are the same
pub record Sound (r : Reach) (dims : ℕ) : Type 0 where
  pub own : Memᴰ (own_place dims) (indices_of r dims)
  pub full : (ps : List (List ℤ)) → places_of r dims ≡ some ps → length ps ≡ product (map width (bounds_of r.bounds dims)) → (ds : List ℤ)
      → Memᴰ ds ps ↔ Memᴰ ds (box_indices (bounds_of r.bounds dims))

-- the way of a reach record: by its places, if they are fewer than the index vectors of its box, else by the box
pub record WayOf (sizes : List ℕ) (r : Reach) (steps : List ℕ) (listed : ℕ) : Type 0 where
  pub led : Led sizes steps listed
  pub ways : Sound r (length sizes) → Ways sizes r.bounds steps listed (indices_of r (length sizes))
