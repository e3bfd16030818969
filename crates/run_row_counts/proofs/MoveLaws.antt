-- Row counts that follow a step, marked cell by marked cell.
use Prim.Native.Nat.{ℕ, ◌+◌, ◌-◌, ◌*◌, ◌/◌, ◌%◌, ◌≤◌, ◌<◌}
use native.Mathlib.Nat.{div-add-mod', mod-lt, div-lt_iff_lt-mul, div-eq_of_lt-le, div-mul-le_self}
use native.Mathlib.Omega.{arith}
use mathlib.Core.Path.{◌≡◌, refl, sym, ap, ap₂, ◌∙◌}
use mathlib.Core.Logic.{◌⊎◌, inl, inr}
use mathlib.Core.Bool.{Bool, true, false, cond}
use mathlib.Core.List.{List}
use lib.ListN.{length, get_or, set}
use lib.Dec.{eqb}
use lib.IntN.{ℤ}
use borrow.Author.Tests.{eq-eqb, ne_eqb}
use Rattle.automaton.specs.Promises.ListedLaws.{length_list_of}
use Rattle.automaton.specs.Step.{how_many, marked}
use Rattle.automaton.proofs.Theorems.Quiet.{how_many_le}
use Rattle.automaton.specs.Rows.{has_zero, counts_by, row_counts}
use Rattle.automaton.proofs.Theorems.RowLaws.{bit, count_at, counts_one}
use Rattle.run_marked_cells.specs.Promises.Marked.{NextMarked}
use Rattle.run_marked_cells.proofs.ScanLaws.{below_or}
use Rattle.run_row_counts.specs.Promises.Counting.{row_size, zero_bit, Divisible, NotBefore, CellCountable, Movable}
use Rattle.run_row_counts.proofs.CountLaws.{counts_are, by_rows, Rowed, rowed, entry_room, row_few, bit_counted, counts_ext, has_same}

-- ---- the row of a cell

pub same_row : {row cells cell : ℕ} → NotBefore row cells cell → cell < row * cells + cells → row ≡ cell / cells
same_row {row} {cells} h l = let o = h.onward in sym (div-eq_of_lt-le cells o (omega arith))

pub row_begins : (cells cell : ℕ) {row : ℕ} → row ≡ cell / cells → row * cells ≤ cell
row_begins cells cell e = rw e (div-mul-le_self cell cells)

-- ---- the counts on the way

-- the counts are those of the new grid below the cell i, and of the grid before the step from there on
pub record MovedBelow (n q fields field : ℕ) (before grid : List ℤ) (i : ℕ) (counts : List ℕ) : Type 0 where
  pub test : ℕ → Bool
  pub done : (x : ℕ) → x < n * q → x < i → test x ≡ has_zero fields field grid x
  pub rest : (x : ℕ) → x < n * q → i ≤ x → test x ≡ has_zero fields field before x
  pub is : counts ≡ counts_by test n q

module _ {marks sizes : List ℕ} {fields field : ℕ} {old grid : List ℤ} {counts₀ : List ℕ} (m : Movable marks sizes fields field old grid counts₀) where
  abbrev n : ℕ
  n = get_or sizes 0 0

  abbrev q : ℕ
  q = row_size sizes

  abbrev pub MovedTo : ℕ → List ℕ → Type 0
  MovedTo i counts = MovedBelow n q fields field m.before grid i counts

  some_dims : 0 < length sizes
  some_dims = m.countable.some_dims

  shape : Rowed n q fields field (length grid) (length counts₀)
  shape = rowed m.countable

  pub marks_divide : Divisible sizes (length marks)
  marks_divide = record { some_dims = some_dims; positive = m.countable.positive; cells_are = m.marks_fit }

  -- a cell that can have a mark is one of the grid's
  inside : {i : ℕ} → i < length marks → i < n * q
  inside l = let e = m.marks_fit in omega (arith, by_rows sizes some_dims)

  pub entry_inside : {i : ℕ} → i < length marks → i * fields + field < length grid
  entry_inside l = entry_room shape _ (inside l)

  pub not_before : {row cells cell : ℕ} → row * cells ≤ cell → cells ≡ q → cell < length marks → NotBefore row cells cell
  not_before o e l =
      let some = shape.some_cells in
      let few = shape.few in
      record { some_cells = omega arith; few = omega (arith, row_few shape); small = omega (arith, inside l); onward = o }

  -- a cell has the fields before the step, if it is not marked; else `old` has them
  kept_test : {i : ℕ} → i < n * q → marked marks i ≡ false → has_zero fields field grid i ≡ has_zero fields field m.before i
  kept_test {i} l clear = has_same fields field grid m.before i m.countable.a_field (m.kept i (omega (arith, by_rows sizes some_dims)) clear)

  had_test : {i : ℕ} → i < n * q → marked marks i ≡ true → has_zero fields field old i ≡ has_zero fields field m.before i
  had_test {i} l mark = has_same fields field old m.before i m.countable.a_field (m.had i (omega (arith, by_rows sizes some_dims)) mark)

  pub moved_length : {i : ℕ} {counts : List ℕ} → MovedTo i counts → length counts ≡ length counts₀
  unfolding counts_by
  moved_length h = ap length h.is ∙ length_list_of _ n ∙ sym m.countable.rows_are

  pub moved_start : MovedTo 0 counts₀
  moved_start = record {
    test = has_zero fields field m.before;
    done = λ x l b. absurd (omega arith);
    rest = λ x l b. refl;
    is = m.counted ∙ counts_are sizes fields field m.before some_dims;
  }

  -- cells that are not marked are passed over
  pub moved_skip : {i r : ℕ} {counts : List ℕ} → MovedTo i counts → NextMarked marks i r → MovedTo r counts
  moved_skip {i} {r} h next = record {
    test = h.test;
    done = λ x l b. by x l b (below_or x i);
    rest = λ x l b. let o = next.onward in h.rest x l (omega arith);
    is = h.is;
  }
    where
      by : (x : ℕ) → x < n * q → x < r → (x < i) ⊎ (i ≤ x) → h.test x ≡ has_zero fields field grid x
      by x l b (inl a) = h.done x l a
      by x l b (inr a) = h.rest x l a ∙ sym (kept_test l (next.skipped x a b))

  -- a marked cell, in its row
  module _ {i row : ℕ} {counts : List ℕ} (h : MovedTo i counts) (l : i < length marks) (mark : marked marks i ≡ true) (own : row ≡ i / q) where
    row_in : row < n
    row_in = rw own ((div-lt_iff_lt-mul shape.some_cells).1 (inside l))

    place_in : i % q < q
    place_in = mod-lt i shape.some_cells

    whole : row * q + i % q ≡ i
    whole = ap (λ (x : ℕ). x * q + i % q) own ∙ div-add-mod' i q

    was : h.test (row * q + i % q) ≡ has_zero fields field old i
    was = ap h.test whole ∙ h.rest i (inside l) (omega arith) ∙ sym (had_test (inside l) mark)

    count_is : get_or counts row 0 ≡ how_many (λ j. h.test (row * q + j)) q
    count_is = ap (λ (cs : List ℕ). get_or cs row 0) h.is ∙ count_at h.test n q row row_in

    pub cell_countable : CellCountable old grid (i * fields + field) row counts
    unfolding has_zero
    cell_countable =
        let count = count_is in
        record {
          alike = m.old_fits;
          an_entry = entry_inside l;
          a_row = omega (arith, moved_length h, m.countable.rows_are, row_in);
          few = omega (arith, how_many_le (λ j. h.test (row * q + j)) q, row_few shape);
          has = omega (arith, ap bit was, bit_counted (λ j. h.test (row * q + j)) q (i % q) place_in);
        }

    -- the test with the cell moved
    next_test : ℕ → Bool
    next_test x = cond (eqb x i) (has_zero fields field grid i) (h.test x)

    is : next_test (row * q + i % q) ≡ has_zero fields field grid i
    unfolding next_test
    is = rw (whole, eq-eqb i i refl)

    elsewhere : (x : ℕ) → (x ≡ i → ⊥) → next_test x ≡ h.test x
    unfolding next_test
    elsewhere x d = rw (ne_eqb x i d)

    -- its row's count is moved
    pub moved_cell : {counts' : List ℕ} → counts' ≡ set counts row (get_or counts row 0 + zero_bit grid (i * fields + field) - zero_bit old (i * fields + field))
        → MovedTo (i + 1) counts'
    unfolding has_zero
    moved_cell e = record {
      test = next_test;
      done = λ x b c. by x b c (below_or x i);
      rest = λ x b c. elsewhere x (λ d. omega arith) ∙ h.rest x b (omega arith);
      is = e ∙ ap₂ (λ (new past : Bool). set counts row (get_or counts row 0 + bit new - bit past)) (sym is) (sym was)
          ∙ ap (λ (cs : List ℕ). set cs row (get_or cs row 0 + bit (next_test (row * q + i % q)) - bit (h.test (row * q + i % q)))) h.is
          ∙ sym (counts_one h.test next_test n q row (i % q) row_in place_in (λ x d. elsewhere x (λ s. d (s ∙ sym whole))));
    }
      where
        by : (x : ℕ) → x < n * q → x < i + 1 → (x < i) ⊎ (i ≤ x) → next_test x ≡ has_zero fields field grid x
        by x b c (inl a) = elsewhere x (λ d. omega arith) ∙ h.done x b a
        by x b c (inr a) = let s : x ≡ i = omega arith in ap next_test (s ∙ sym whole) ∙ is ∙ ap (has_zero fields field grid) (sym s)

  pub moved_all : {i : ℕ} {counts : List ℕ} → MovedTo i counts → length marks ≤ i → counts ≡ row_counts sizes fields field grid
  moved_all h l =
      let e = m.marks_fit in
      h.is ∙ counts_ext h.test (has_zero fields field grid) n q (λ x b. h.done x b (omega (arith, by_rows sizes some_dims)))
      ∙ sym (counts_are sizes fields field grid some_dims)
