-- Row counts: a grid by its rows, one cell more of a row, one row more, and counts by two tests that agree.
use Prim.Native.Nat.{ℕ, zero, suc, ◌+◌, ◌*◌, ◌/◌, ◌≤◌, ◌<◌}
use native.Mathlib.Nat.{mul-le-mul_right, mul-div_cancel}
use native.Mathlib.Numerals.{add-one}
use native.Mathlib.Omega.{arith}
use mathlib.Core.Path.{◌≡◌, refl, sym, ap, ◌∙◌, subst}
use mathlib.Core.Logic.{◌⊎◌, inl, inr}
use mathlib.Core.Bool.{Bool}
use mathlib.Core.List.{List, [], ◌∷◌}
use lib.ListN.{length, get_or}
use lib.IntN.{ℤ, pos}
use Rattle.value.specs.Number.{eq_z}
use Rattle.automaton.specs.Promises.ListedLaws.{list_of_ext, get_or_list_of, last_or_below, Made, made_done}
use Rattle.automaton.specs.Step.{how_many}
use Rattle.automaton.specs.Shape.{product}
use Rattle.automaton.specs.Promises.ShapeLaws.{Positive}
use Rattle.automaton.proofs.ShapeLaws.{product_pos}
use Rattle.automaton.specs.Grid.{cell_of}
use Rattle.automaton.proofs.Theorems.GridLaws.{cell_room}
use Rattle.automaton.proofs.Theorems.Quiet.{how_many_ext, how_many_le, bit_le}
use Rattle.automaton.specs.Rows.{has_zero, counts_by, row_counts}
use Rattle.automaton.proofs.Theorems.RowLaws.{bit}
use Rattle.run_marked_cells.proofs.PartLaws.{entry_before}
use Rattle.run_row_counts.specs.Promises.Counting.{row_size, zero_bit, Divisible, RowCountable, Countable}

-- ---- a grid by its rows

pub by_rows : (sizes : List ℕ) → 0 < length sizes → product sizes ≡ get_or sizes 0 0 * row_size sizes
by_rows [] l = absurd (omega arith)
by_rows (n ∷ ns) l = refl

pub counts_are : (sizes : List ℕ) (fields field : ℕ) (g : List ℤ) → 0 < length sizes
    → row_counts sizes fields field g ≡ counts_by (has_zero fields field g) (get_or sizes 0 0) (row_size sizes)
counts_are [] fields field g l = absurd (omega arith)
counts_are (n ∷ ns) fields field g l = refl

pub some_in_each : (sizes : List ℕ) → 0 < length sizes → Positive sizes → (0 < get_or sizes 0 0) × (0 < row_size sizes)
some_in_each [] l h = absurd (omega arith)
some_in_each (n ∷ ns) l h = (h.0, product_pos ns h.1)

-- n rows of q cells
pub record Rowed (n q fields field entries rows : ℕ) : Type 0 where
  pub some_rows : 0 < n
  pub some_cells : 0 < q
  pub few : n * q ≤ 1048576
  pub entries_are : n * q * fields ≡ entries
  pub a_field : field < fields
  pub rows_are : rows ≡ n

pub rowed : {sizes : List ℕ} {fields field entries rows : ℕ} → Countable sizes fields field entries rows → Rowed (get_or sizes 0 0) (row_size sizes) fields field entries rows
rowed {sizes} {fields} {entries} h =
    let e = by_rows sizes h.some_dims in
    let some = some_in_each sizes h.some_dims h.positive in
    record {
      some_rows = some.0;
      some_cells = some.1;
      few = subst (λ (x : ℕ). x ≤ 1048576) e h.few;
      entries_are = subst (λ (x : ℕ). x * fields ≡ entries) e h.entries_are;
      a_field = h.a_field;
      rows_are = h.rows_are;
    }

pub divisible : {sizes : List ℕ} {fields field entries rows : ℕ} → Countable sizes fields field entries rows → Divisible sizes (entries / fields)
divisible {sizes} {fields} h = record {
  some_dims = h.some_dims;
  positive = h.positive;
  cells_are = ap (λ (x : ℕ). x / fields) (sym h.entries_are) ∙ mul-div_cancel (product sizes) {n = fields} (let l = h.a_field in omega arith);
}

pub some_rows_divide : {sizes : List ℕ} {cells : ℕ} → Divisible sizes cells → 0 < get_or sizes 0 0
some_rows_divide {sizes} h = (some_in_each sizes h.some_dims h.positive).0

pub row_cells_are : {sizes : List ℕ} {cells : ℕ} → Divisible sizes cells → cells / get_or sizes 0 0 ≡ row_size sizes
row_cells_are {sizes} h =
    ap (λ (x : ℕ). x / get_or sizes 0 0) (h.cells_are ∙ by_rows sizes h.some_dims ∙ comm)
    ∙ mul-div_cancel (row_size sizes) {n = get_or sizes 0 0} (some_rows_divide h)
  where
    comm : get_or sizes 0 0 * row_size sizes ≡ row_size sizes * get_or sizes 0 0
    comm = omega arith

module _ {n q fields field entries rows : ℕ} (h : Rowed n q fields field entries rows) where
  -- a row's cells are cells of the grid
  pub row_room : (row : ℕ) → row < n → row * q + q ≤ n * q
  row_room row l = omega (arith, mul-le-mul_right {m = suc row} {n = n} q l)

  pub row_few : q ≤ 1048576
  row_few = let l = h.few in omega (arith, row_room 0 h.some_rows)

  -- a cell's fields are entries of the grid
  pub entry_room : (cell : ℕ) → cell < n * q → cell * fields + field < entries
  entry_room cell l = omega (arith, cell_room cell (n * q) fields entries l h.entries_are, h.a_field)

  pub row_countable : {row from cells : ℕ} → row < n → from ≡ row * q → cells ≡ q → RowCountable entries from cells fields field
  row_countable {row} l first all =
      let e = h.entries_are in
      rw (first, all)
      record {
        within = omega (arith, mul-le-mul_right {m = row * q + q} {n = n * q} fields (row_room row l));
        some_cells = h.some_cells;
        few = row_few;
        a_field = h.a_field;
      }

-- ---- one cell more

-- the fields of a cell of the row are entries of the grid
pub cell_in_row : {entries from cells fields field : ℕ} → RowCountable entries from cells fields field → (cell : ℕ) → cell < cells → (from + cell) * fields + fields ≤ entries
cell_in_row {from} {cells} {fields} h cell l = let w = h.within in omega (arith, mul-le-mul_right {m = suc (from + cell)} {n = from + cells} fields (omega arith))

module _ (fields field from : ℕ) (g : List ℤ) where
  abbrev pub zeros_from : ℕ → ℕ
  zeros_from cells = how_many (λ j. has_zero fields field g (from + j)) cells

  pub none_counted : 0 ≡ zeros_from 0
  unfolding how_many
  none_counted = refl

  pub one_counted : (cell at count : ℕ) → at ≡ (from + cell) * fields + field → count ≡ zeros_from cell → count + zero_bit g at ≡ zeros_from (cell + 1)
  unfolding how_many has_zero
  one_counted cell at count e h = rw (add-one cell, e, h)

  pub counted_few : (cells : ℕ) → zeros_from cells ≤ cells
  counted_few cells = how_many_le _ cells

pub zero_few : (g : List ℤ) (at : ℕ) → zero_bit g at ≤ 1
zero_few g at = bit_le (eq_z (get_or g at (pos 0)) (pos 0))

-- ---- one test for another

pub bit_counted : (p : ℕ → Bool) (n c : ℕ) → c < n → bit (p c) ≤ how_many p n
unfolding how_many
bit_counted p zero c l = absurd (omega arith)
bit_counted p (suc n) c l = by (last_or_below l) (bit_counted p n c)
  where
    by : (c ≡ n) ⊎ (c < n) → (c < n → bit (p c) ≤ how_many p n) → bit (p c) ≤ how_many p n + bit (p n)
    by (inl e) below = omega (arith, ap (λ (x : ℕ). bit (p x)) e)
    by (inr l) below = omega (arith, below l)

pub counts_ext : (p p' : ℕ → Bool) (n q : ℕ) → ((x : ℕ) → x < n * q → p x ≡ p' x) → counts_by p n q ≡ counts_by p' n q
unfolding counts_by
counts_ext p p' n q h = list_of_ext _ _ n (λ r lr. how_many_ext _ _ q (λ j lj. h (r * q + j) (entry_before q r n j lr lj)))

-- cells with the same fields pass the same test
pub has_same : (fields field : ℕ) (a b : List ℤ) (c : ℕ) → field < fields → cell_of fields a c ≡ cell_of fields b c → has_zero fields field a c ≡ has_zero fields field b c
unfolding has_zero cell_of
has_same fields field a b c l e = ap (λ (z : ℤ). eq_z z (pos 0)) (sym (at a) ∙ ap (λ (s : List ℤ). get_or s field (pos 0)) e ∙ at b)
  where
    at : (g : List ℤ) → get_or (cell_of fields g c) field (pos 0) ≡ get_or g (c * fields + field) (pos 0)
    at g = get_or_list_of (λ k. get_or g (c * fields + k) (pos 0)) fields field (pos 0) l

-- ---- all rows

module _ (fields field q : ℕ) (g : List ℤ) where
  -- the count of a row
  abbrev pub row_count : ℕ → ℕ
  row_count row = zeros_from fields field (row * q) g q

  pub all_counted : {n row : ℕ} {counts : List ℕ} → Made row_count 0 n counts row → n ≤ row → row ≤ n → counts ≡ counts_by (has_zero fields field g) n q
  unfolding counts_by
  all_counted {n} {row} {counts} h l m = let e : row ≡ n = omega arith in made_done row_count 0 n counts (rw e at h)
