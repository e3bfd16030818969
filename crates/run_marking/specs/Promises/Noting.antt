-- What the loops do: the cells that a changed cell opens are noted in the marks.
use Rattle.std.specs.Prelude.{◌≡◌, cond, List, [], ◌∷◌, ◌++◌, ℕ, zero, suc, ◌+◌, ◌-◌, ◌*◌, ◌/◌, ◌%◌, ◌<◌, ◌≤◌, min, length, get_or, set, ℤ, ltb, if◌then◌else◌}
use Rattle.value.specs.Limits.{most_dims, most_cells}
use Rattle.value.specs.Promises.Buffers.{place_words}
use Rattle.automaton.specs.Listed.{list_of}
use Rattle.automaton.specs.Shape.{product, coordinates, Bound, width}
use Rattle.automaton.specs.Promises.ShapeLaws.{Positive}
use Rattle.automaton.specs.Grid.{cell_of, differ}
use Rattle.run_meaning.specs.Promises.Fitting.{bound_at, Near}
use Rattle.run_meaning.specs.declared.Bounds.{Bounds}
use Rattle.run_place_marks.specs.Promises.Placing.{cell_from}

-- the marks with the cell c noted: 2 is added to a mark that is 0 or 1, and 2 or 3 is kept
abbrev pub note_cell : List ℕ → ℕ → List ℕ
note_cell marks c = set marks c (get_or marks c 0 % 2 + 2)

-- the marks with each cell of a list noted
unfoldable pub note_all : List ℕ → List ℕ → List ℕ
note_all [] marks = marks
note_all (c ∷ cs) marks = note_all cs (note_cell marks c)

-- the lists f 0, .., f (k - 1), one behind the other
unfoldable pub noted_rows : (ℕ → List ℕ) → ℕ → List ℕ
noted_rows f zero = []
noted_rows f (suc k) = noted_rows f k ++ f k

-- the e-th cell of a line: base + j, for the e-th coordinate j from a first one on, wrapped
abbrev pub noted_line : ℕ → ℕ → ℕ → ℕ → List ℕ
noted_line base n first e = (base + (first + e) % n) ∷ []

-- the e-th of some lines: that of the cells with j in the dimension before, for the e-th coordinate j from a first one on, wrapped
abbrev pub noted_lines : ℕ → ℕ → ℕ → ℕ → ℕ → ℕ → ℕ → List ℕ
noted_lines base n first m start width e = noted_rows (noted_line ((base * n + (first + e) % n) * m) m start) width

-- the cells of a box: in each dimension the coordinates from a first one on, as many as a count, wrapped.
-- `base` is the number that the coordinates of the dimensions before give.
unfoldable pub box_cells : List ℕ → (ℕ → ℕ) → (ℕ → ℕ) → ℕ → List ℕ
box_cells [] first count base = base ∷ []
box_cells (n ∷ ns) first count base = noted_rows (λ e. box_cells ns (λ k. first (suc k)) (λ k. count (suc k)) (base * n + (first 0 + e) % n)) (count 0)

-- the first coordinate that a change at the coordinate i opens, by the size: i - ahead, wrapped
abbrev pub opened_from : ℕ → Bound → ℕ → ℕ
opened_from n b i = (i + (n - b.ahead)) % n

-- how many coordinates a change opens, by the size
abbrev pub opened_count : ℕ → Bound → ℕ
opened_count n b = min n (width b)

-- the cells that a change of the cell x opens, by the bound of each dimension
unfoldable pub cells_opened : List ℕ → (ℕ → Bound) → ℕ → List ℕ
cells_opened ns bound x =
    box_cells ns (λ k. opened_from (get_or ns k 0) (bound k) (get_or (coordinates ns x) k 0)) (λ k. opened_count (get_or ns k 0) (bound k)) 0

-- those by so many steps back, each three numbers
unfoldable pub cells_back : List ℕ → List ℕ → ℕ → ℕ → List ℕ
cells_back ns steps listed x = list_of (λ k. cell_from ns (coordinates ns x) steps (3 * k)) listed

-- by the steps back, or where more than 256 are listed by the box
unfoldable pub cells_by : List ℕ → Bounds → List ℕ → ℕ → ℕ → List ℕ
cells_by ns bounds steps listed x = if ltb listed 257 then cells_back ns steps listed x else cells_opened ns (bound_at bounds) x

-- the cells that the cell x opens: none, if it did not change
unfoldable pub opened_by : (ℕ → List ℕ) → ℕ → List ℤ → List ℤ → ℕ → List ℕ
opened_by cells fields old new x = cond (differ (cell_of fields old x) (cell_of fields new x)) (cells x) []

-- what is asked of a box, by the number of cells
pub record Boxed (ns firsts counts : List ℕ) (base cells : ℕ) : Type 0 where
  pub some_dims : 0 < length ns
  pub dims : length ns ≤ most_dims
  pub positive : Positive ns
  pub firsts_fit : length ns ≤ length firsts
  pub counts_fit : length ns ≤ length counts
  pub inside : (k : ℕ) → k < length ns → get_or firsts k 0 < get_or ns k 0
  pub room : (base + 1) * product ns ≤ cells
  pub few : cells ≤ most_cells

-- a change opens no more coordinates of a dimension than there are
pub record CountsWithin (ns counts : List ℕ) : Type 0 where
  pub each : (k : ℕ) → k < length ns → get_or counts k 0 ≤ get_or ns k 0

-- what is asked of the sizes and of the box
pub record Prepared (sizes : List ℕ) (bounds : Bounds) : Type 0 where
  pub dims : length sizes ≤ most_dims
  pub some_dims : 0 < length sizes
  pub positive : Positive sizes
  pub cells : product sizes ≤ most_cells
  -- no index is larger in size than its dimension
  pub near : Near sizes bounds

-- what is asked of the steps back
pub record Led (ns steps : List ℕ) (listed : ℕ) : Type 0 where
  pub size : length steps ≡ place_words
  pub inside : listed < 257 → (k : ℕ) → k < listed → (d : ℕ) → d < length ns → get_or steps (3 * k + d) 0 < get_or ns d 0

-- each coordinate is below its size
pub record NotedBelow (ns at : List ℕ) : Type 0 where
  pub each : (k : ℕ) → k < length ns → get_or at k 0 < get_or ns k 0

-- the first coordinates that a change at given coordinates opens
pub record Firsts (ns : List ℕ) (bounds : Bounds) (at firsts : List ℕ) : Type 0 where
  pub len : length firsts ≡ most_dims
  pub each : (k : ℕ) → k < length ns → get_or firsts k 0 ≡ opened_from (get_or ns k 0) (bound_at bounds k) (get_or at k 0)

-- how many coordinates a change opens
pub record NotedCounts (ns : List ℕ) (bounds : Bounds) (counts : List ℕ) : Type 0 where
  pub len : length counts ≡ most_dims
  pub each : (k : ℕ) → k < length ns → get_or counts k 0 ≡ opened_count (get_or ns k 0) (bound_at bounds k)

-- no cell from a cell on to before r has an odd mark
pub record NextOdd (marks : List ℕ) (from r : ℕ) : Type 0 where
  pub low : from ≤ r
  pub end : r ≤ length marks
  pub passed : (k : ℕ) → from ≤ k → k < r → get_or marks k 0 % 2 ≡ 0

-- every mark is halved
pub record Halved (marks marks' : List ℕ) : Type 0 where
  pub len : length marks' ≡ length marks
  pub each : (k : ℕ) → k < length marks → get_or marks' k 0 ≡ get_or marks k 0 / 2
