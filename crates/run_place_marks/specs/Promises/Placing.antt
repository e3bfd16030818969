-- The cells at the steps of a list from given coordinates.
use Rattle.std.specs.Prelude.{◌≡◌, List, ℕ, zero, suc, ◌+◌, ◌*◌, ◌%◌, ◌<◌, ◌≤◌, length, get_or, set, ℤ, pos, neg_ℤ}
use Rattle.value.specs.Limits.{most_dims, most_cells}
use Rattle.value.specs.Promises.Buffers.{place_words}
use Rattle.value.specs.Number.{mod_z}
use Rattle.automaton.specs.Listed.{list_of}
use Rattle.automaton.specs.Shape.{product, cell_number, coordinates}
use Rattle.automaton.specs.Promises.ShapeLaws.{Positive}
use Rattle.run_meaning.specs.Promises.Fitting.{place_at}

-- the coordinates after a step, which stands from an entry on: in each dimension the sum, wrapped
abbrev pub step_from : List ℕ → List ℕ → List ℕ → ℕ → List ℕ
step_from sizes at steps from = list_of (λ k. (get_or at k 0 + get_or steps (from + k) 0) % get_or sizes k 0) (length sizes)

-- the cell there
unfoldable pub cell_from : List ℕ → List ℕ → List ℕ → ℕ → ℕ
cell_from sizes at steps from = cell_number sizes (step_from sizes at steps from)

-- what is asked of coordinates and a step: each is below its size
pub record StepPlaced (sizes at steps : List ℕ) (from : ℕ) : Type 0 where
  pub dims : length sizes ≤ most_dims
  pub room : from + length sizes ≤ length steps
  pub small : length steps ≤ place_words
  pub positive : Positive sizes
  pub cells : product sizes ≤ most_cells
  pub inside : (k : ℕ) → k < length sizes → get_or at k 0 < get_or sizes k 0
  pub steps_inside : (k : ℕ) → k < length sizes → get_or steps (from + k) 0 < get_or sizes k 0

-- the marks with the cells at so many steps noted
unfoldable pub note_places : List ℕ → List ℕ → List ℕ → ℕ → List ℕ → List ℕ
note_places sizes at steps zero marks = marks
note_places sizes at steps (suc n) marks =
    let before = note_places sizes at steps n marks in
    let c = cell_from sizes at steps (3 * n) in
    set before c (get_or before c 0 % 2 + 2)

-- a step leads back by a place: in each dimension the place's element, negated, modulo the size
pub record Back (sizes steps : List ℕ) (from : ℕ) (ds : List ℤ) : Type 0 where
  pub dims : length ds ≡ length sizes
  pub each : (k : ℕ) → k < length sizes → get_or steps (from + k) 0 ≡ mod_z (neg_ℤ (get_or ds k (pos 0))) (get_or sizes k 0)

-- the coordinates of the cell x
pub record StepCoordinates (sizes : List ℕ) (x : ℕ) (at : List ℕ) : Type 0 where
  pub len : length at ≡ most_dims
  pub each : (k : ℕ) → k < length sizes → get_or at k 0 ≡ get_or (coordinates sizes x) k 0

-- the steps back by the places of a list, from one number up to another; the steps before them stay
pub record Backs (sizes : List ℕ) (places : List (List ℕ)) (from to : ℕ) (steps steps' : List ℕ) : Type 0 where
  pub len : length steps' ≡ length steps
  pub each : (k : ℕ) → from ≤ k → k < to → Back sizes steps' (3 * k) (place_at places (length sizes) k)
  pub before : (j : ℕ) → j < 3 * from → get_or steps' j 0 ≡ get_or steps j 0
