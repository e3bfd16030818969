-- The laws of the cells that changed cells open. Together with the marks before they give the marks of the open cells.
use Prim.Native.Nat.{ℕ, zero, suc, ◌+◌, ◌*◌, ◌/◌, ◌%◌, ◌≤◌, ◌<◌}
use native.Mathlib.Nat.{mod-lt, mul-le-mul}
use native.Mathlib.Omega.{arith}
use mathlib.Core.Path.{◌≡◌, refl, sym, ap, ◌∙◌, subst}
use mathlib.Core.Bool.{Bool, true, false, cond, ◌||◌, or-true, or-false, true≢false}
use mathlib.Core.List.{List, [], ◌∷◌, Memᴰ}
use lib.ListN.{length, get_or}
use lib.Seq.{ext_get_or}
use lib.IntN.{ℤ}
use borrow.Author.Tests.{lt-ltb, le-ltb}
use Rattle.automaton.specs.Listed.{list_of}
use Rattle.automaton.specs.Promises.ListedLaws.{length_list_of, get_or_list_of, list_of_ext}
use Rattle.automaton.specs.Step.{non_zero, marked, marks_of}
use Rattle.automaton.proofs.Theorems.Quiet.{any_of_false, any_of_true}
use Rattle.automaton.specs.Shape.{product, cell_number, neighbour, reach_of}
use Rattle.automaton.specs.Promises.ShapeLaws.{Positive}
use Rattle.automaton.proofs.ShapeLaws.{coordinates_inside, inside_at, neighbour_lt}
use Rattle.automaton.specs.Grid.{cell_of, differ}
use Rattle.automaton.proofs.Theorems.GridLaws.{cell_room, differ_self}
use Rattle.run_meaning.specs.Promises.Fitting.{bound_at}
use Rattle.run_meaning.proofs.Theorems.Digits.{size_positive}
use Rattle.run_meaning.specs.declared.Bounds.{Bounds}
use Rattle.run_place_marks.specs.Promises.Placing.{cell_from, StepPlaced, note_places, StepCoordinates}
use Rattle.run_place_marks.proofs.BackLaws.{placed}
use Rattle.run_marked_cells.proofs.ScanLaws.{non_zero_true}
use Rattle.run_marking.specs.Promises.Opened.{opened, Markable, MarksReady, Ways, Marks, MarksChanged}
use Rattle.run_marking.specs.Promises.Noting.{note_cell, note_all, noted_rows, box_cells, opened_from, cells_opened, cells_back, cells_by, opened_by, Boxed, Prepared, Led, NotedBelow, Firsts, NotedCounts, NextOdd, Halved}
use Rattle.run_marking.proofs.NotingLaws.{length_note_all, note_all_append, note_out, note_in, note_parity, mem_rows, rows_skip}
use Rattle.run_marking.proofs.BoxLaws.{entry, box_same}

-- ---- one cell, by the box

pub below_of : (ns : List ℕ) (x : ℕ) {at : List ℕ} → Positive ns → x < product ns → StepCoordinates ns x at → NotedBelow ns at
below_of ns x positive l c =
    record { each = λ k h. subst (λ (i : ℕ). i < get_or ns k 0) (sym (c.each k h)) (inside_at ns _ (coordinates_inside ns x positive l) k h) }

module _ (ns : List ℕ) (bounds : Bounds) (s : Prepared ns bounds) (x : ℕ) {at firsts counts : List ℕ} (h : StepCoordinates ns x at) (f : Firsts ns bounds at firsts) (c : NotedCounts ns bounds counts) where
  pub boxed_whole : (cells : ℕ) → cells ≡ product ns → Boxed ns firsts counts 0 cells
  boxed_whole cells e = record {
    some_dims = s.some_dims;
    dims = s.dims;
    positive = s.positive;
    firsts_fit = omega (arith, s.dims, f.len);
    counts_fit = omega (arith, s.dims, c.len);
    inside = λ k l. rw (f.each k l) (mod-lt _ (size_positive ns s.positive k l));
    room = omega arith;
    few = omega (arith, s.cells);
  }

  pub box_done : (marks marks' : List ℕ) → marks' ≡ note_all (box_cells ns (entry firsts) (entry counts) 0) marks
      → marks' ≡ note_all (cells_opened ns (bound_at bounds) x) marks
  unfolding cells_opened
  box_done marks marks' q =
      q ∙ ap (λ (cs : List ℕ). note_all cs marks)
      (box_same ns _ _ _ _ (λ k l. f.each k l ∙ ap (opened_from (get_or ns k 0) (bound_at bounds k)) (h.each k l)) c.each 0)

-- ---- one cell, by the steps back

pub led_placed : (ns : List ℕ) (bounds : Bounds) (x : ℕ) {at steps : List ℕ} {listed : ℕ} → Prepared ns bounds → x < product ns → StepCoordinates ns x at → Led ns steps listed → listed < 257
    → (k : ℕ) → k < listed → StepPlaced ns at steps (3 * k)
led_placed ns bounds x {at} {steps} s l c led few k lk = placed ns s.dims s.positive s.cells x l at steps k (omega arith) led.size c.each (led.inside few k lk)

notes_are : (ns at steps : List ℕ) (n : ℕ) (marks : List ℕ) → note_places ns at steps n marks ≡ note_all (list_of (λ k. cell_from ns at steps (3 * k)) n) marks
unfolding note_places note_all list_of
notes_are ns at steps zero marks = refl
notes_are ns at steps (suc n) marks =
    ap (λ (m : List ℕ). note_cell m (cell_from ns at steps (3 * n))) (notes_are ns at steps n marks)
    ∙ sym (note_all_append (list_of (λ k. cell_from ns at steps (3 * k)) n) (cell_from ns at steps (3 * n) ∷ []) marks)

pub list_done : (ns : List ℕ) (x : ℕ) {at : List ℕ} (steps : List ℕ) (listed : ℕ) (marks marks' : List ℕ) → StepCoordinates ns x at → marks' ≡ note_places ns at steps listed marks
    → marks' ≡ note_all (cells_back ns steps listed x) marks
unfolding cells_back cell_from
list_done ns x {at} steps listed marks marks' c q =
    q ∙ notes_are ns at steps listed marks
    ∙ ap (λ (cs : List ℕ). note_all cs marks)
    (list_of_ext _ _ listed (λ k l. ap (cell_number ns) (list_of_ext _ _ (length ns) (λ d h. ap (λ (i : ℕ). (i + get_or steps (3 * k + d) 0) % get_or ns d 0) (c.each d h)))))

-- ---- one cell, either way

module _ (ns : List ℕ) (bounds : Bounds) (steps : List ℕ) (listed x : ℕ) where
  pub by_list : listed < 257 → cells_by ns bounds steps listed x ≡ cells_back ns steps listed x
  unfolding cells_by
  by_list l = rw (lt-ltb listed 257 l)

  pub by_box : 257 ≤ listed → cells_by ns bounds steps listed x ≡ cells_opened ns (bound_at bounds) x
  unfolding cells_by
  by_box l = rw (le-ltb listed 257 l)

-- the fields of a cell lie within the grids
pub fields_fit : (c p f o g : ℕ) → c < p → p ≤ 1048576 → f ≤ 8 → o ≡ p * f → g ≡ p * f → (c * f + f ≤ o) × (o ≤ 8388608) × (g ≡ o)
fields_fit c p f o g l h k eo eg = (cell_room c p f o l (sym eo), omega (arith, mul-le-mul h k), eg ∙ sym eo)

module _ (cells : ℕ → List ℕ) (fields : ℕ) (old grid : List ℤ) (c : ℕ) (marks : List ℕ) {b : Bool}
    (e : b ≡ differ (cell_of fields old c) (cell_of fields grid c)) where
  pub opens_some : (marks' : List ℕ) → b ≡ true → marks' ≡ note_all (cells c) marks → marks' ≡ note_all (opened_by cells fields old grid c) marks
  unfolding opened_by
  opens_some marks' t q = q ∙ ap (λ (d : Bool). note_all (cond d (cells c) []) marks) (sym t ∙ e)

  pub opens_none : b ≡ false → marks ≡ note_all (opened_by cells fields old grid c) marks
  unfolding opened_by note_all
  opens_none t = ap (λ (d : Bool). note_all (cond d (cells c) []) marks) (sym t ∙ e)

-- ---- all cells

-- the cells below c are done: the cells that they open are noted
pub record Opening (cells : ℕ → List ℕ) (fields : ℕ) (old grid : List ℤ) (marks₀ marks : List ℕ) (c : ℕ) : Type 0 where
  pub len : length marks ≡ length marks₀
  pub turn : c ≤ length marks₀
  pub says : marks ≡ note_all (noted_rows (opened_by cells fields old grid) c) marks₀

module _ (ns : List ℕ) (bounds : Bounds) (steps : List ℕ) (listed fields : ℕ) (old grid : List ℤ) (marks₀ : List ℕ) (s : Markable ns bounds steps listed fields old grid marks₀) where
  abbrev Cells : ℕ → List ℕ
  Cells = cells_by ns bounds steps listed

  abbrev By : ℕ → List ℕ
  By = opened_by Cells fields old grid

  abbrev Moved : ℕ → Bool
  Moved x = differ (cell_of fields old x) (cell_of fields grid x)

  pub shaped : Prepared ns bounds
  shaped = s.prepared

  pub opening_start : Opening Cells fields old grid marks₀ marks₀ 0
  unfolding noted_rows note_all
  opening_start = record { len = refl; turn = omega arith; says = refl }

  pub opening_more : (marks marks' : List ℕ) (c : ℕ) → Opening Cells fields old grid marks₀ marks c → c < length marks₀ → marks' ≡ note_all (By c) marks
      → Opening Cells fields old grid marks₀ marks' (c + 1)
  unfolding noted_rows
  opening_more marks marks' c o l q =
      let e : suc c ≡ c + 1 = omega arith in
      record {
        len = ap length q ∙ length_note_all (By c) marks ∙ o.len;
        turn = omega arith;
        says = q ∙ ap (note_all (By c)) o.says ∙ sym (note_all_append (noted_rows By c) (By c) marks₀) ∙ ap (λ (k : ℕ). note_all (noted_rows By k) marks₀) e;
      }

  -- cells that open none are passed over
  opening_past : (marks : List ℕ) (a r : ℕ) → Opening Cells fields old grid marks₀ marks a → a ≤ r → r ≤ length marks₀ → ((k : ℕ) → a ≤ k → k < r → By k ≡ [])
      → Opening Cells fields old grid marks₀ marks r
  opening_past marks a r o l m none = record { len = o.len; turn = m; says = o.says ∙ ap (λ (cs : List ℕ). note_all cs marks₀) (sym (rows_skip By a r l none)) }

  -- a cell that did not change opens none
  same_none : (k : ℕ) → cell_of fields old k ≡ cell_of fields grid k → By k ≡ []
  unfolding opened_by
  same_none k e = ap (λ (t : Bool). cond t (Cells k) []) (ap (λ (a : List ℤ). differ a (cell_of fields grid k)) e ∙ differ_self (cell_of fields grid k))

  module _ (dss : List (List ℤ)) (w : Ways ns bounds steps listed dss) where
    opened_mem : (c x : ℕ) → c < product ns → x < product ns → Memᴰ x (reach_of ns dss c) → Moved x ≡ true → Memᴰ c (By x)
    unfolding opened_by
    opened_mem c x lc lx m t = rw t ((w.leads c x lc lx).0 m)

    mem_opened : (c x : ℕ) → c < product ns → x < product ns → Memᴰ c (By x) → Memᴰ x (reach_of ns dss c) × (Moved x ≡ true)
    unfolding opened_by
    mem_opened c x lc lx m = go (Moved x) refl m
      where
        go : (t : Bool) → Moved x ≡ t → Memᴰ c (cond t (Cells x) []) → Memᴰ x (reach_of ns dss c) × (Moved x ≡ true)
        go true e q = ((w.leads c x lc lx).1 q, e)
        go false e q = absurd (mathlib.Core.List.Memᴰ.not-nil q)

    in_reach : (c x : ℕ) → c < product ns → Memᴰ x (reach_of ns dss c) → x < product ns
    unfolding reach_of
    in_reach c x lc m =
        let r = mathlib.Core.List.Memᴰ.of_map (neighbour ns c) dss m in
        subst (λ (y : ℕ). y < product ns) r.2 (neighbour_lt ns s.prepared.positive c r.0 lc (w.alike r.0 r.1))

    -- the marks behind the last cell
    noted : (marks : List ℕ) (c : ℕ) → Opening Cells fields old grid marks₀ marks c → length marks₀ ≤ c → (k : ℕ) → k < product ns
        → get_or marks k 0 ≡ cond (opened ns dss fields old grid k) (get_or marks₀ k 0 % 2 + 2) (get_or marks₀ k 0)
    noted marks c o l k lk = by (opened ns dss fields old grid k) refl
      where
        end : c ≡ product ns
        end = omega (arith, o.turn, s.marks_fit)

        says : get_or marks k 0 ≡ get_or (note_all (noted_rows By (product ns)) marks₀) k 0
        says = ap (λ (z : List ℕ). get_or z k 0) (o.says ∙ ap (λ (y : ℕ). note_all (noted_rows By y) marks₀) end)

        by : (t : Bool) → opened ns dss fields old grid k ≡ t → get_or marks k 0 ≡ cond t (get_or marks₀ k 0 % 2 + 2) (get_or marks₀ k 0)
        by true e =
            let r = any_of_true Moved (reach_of ns dss k) e in
            let lx = in_reach k r.0 lk r.1 in
            let m = (mem_rows By k (product ns)).1 (r.0, lx, opened_mem k r.0 lk lx r.1 r.2) in
            says ∙ note_in (noted_rows By (product ns)) k marks₀ (omega (arith, s.marks_fit)) m
        by false e =
            let out : Memᴰ k (noted_rows By (product ns)) → ⊥ =
            λ m. let r = (mem_rows By k (product ns)).0 m in
            let p = mem_opened k r.0 lk r.1 r.2 in
            absurd (true≢false (sym p.1 ∙ any_of_false Moved (reach_of ns dss k) e r.0 p.0))
            in
            says ∙ note_out (noted_rows By (product ns)) k marks₀ out

    flagged_open : (marks marks' : List ℕ) (c : ℕ) → Opening Cells fields old grid marks₀ marks c → length marks₀ ≤ c → marks' ≡ marks_of (marked marks) (length marks)
        → marks' ≡ marks_of (λ k. marked marks₀ k || opened ns dss fields old grid k) (product ns)
    unfolding marks_of marked
    flagged_open marks marks' c o l e =
        e ∙ ap (marks_of (marked marks)) (o.len ∙ s.marks_fit)
        ∙ list_of_ext _ _ (product ns) (λ k lk. ap (λ (m : ℕ). cond (non_zero m) 1 0) (noted marks c o l k lk) ∙ ap (λ (b : Bool). cond b 1 0) (either (opened ns dss fields old grid k) (get_or marks₀ k 0)))
      where
        either : (t : Bool) (m : ℕ) → non_zero (cond t (m % 2 + 2) m) ≡ (non_zero m || t)
        either true m = non_zero_true (m % 2 + 2) (λ e. let z = e in omega arith) ∙ sym (or-true (non_zero m))
        either false m = sym (or-false (non_zero m))

  pub changed_done : (marks marks' : List ℕ) (c : ℕ) → Opening Cells fields old grid marks₀ marks c → length marks₀ ≤ c → marks' ≡ marks_of (marked marks) (length marks)
      → MarksChanged ns bounds steps listed fields old grid marks₀ marks'
  changed_done marks marks' c o l e = record { says = λ dss w. flagged_open dss w marks marks' c o l e }

-- ---- the marks of a step

module _ (ns : List ℕ) (bounds : Bounds) (steps : List ℕ) (listed fields : ℕ) (old grid : List ℤ) (marks₀ : List ℕ) (s : MarksReady ns bounds steps listed fields old grid marks₀) where
  -- a cell with an even mark opens none
  still_none : (k : ℕ) → k < length marks₀ → get_or marks₀ k 0 % 2 ≡ 0 → opened_by (cells_by ns bounds steps listed) fields old grid k ≡ []
  still_none k l e =
      let lk : k < product ns = omega (arith, s.markable.marks_fit) in
      let z : get_or marks₀ k 0 ≡ 0 = omega (arith, s.plain k lk) in
      same_none ns bounds steps listed fields old grid marks₀ s.markable k (s.still k lk z)

  pub opening_skip : (marks : List ℕ) (a r : ℕ) → Opening (cells_by ns bounds steps listed) fields old grid marks₀ marks a → NextOdd marks a r
      → Opening (cells_by ns bounds steps listed) fields old grid marks₀ marks r
  opening_skip marks a r o n = opening_past ns bounds steps listed fields old grid marks₀ s.markable marks a r o n.low (omega (arith, n.end, o.len)) none
    where
      none : (k : ℕ) → a ≤ k → k < r → opened_by (cells_by ns bounds steps listed) fields old grid k ≡ []
      none k p q =
          let l : k < length marks₀ = omega (arith, n.end, o.len) in
          let e : get_or marks k 0 % 2 ≡ get_or marks₀ k 0 % 2 = ap (λ (m : List ℕ). get_or m k 0 % 2) o.says ∙ note_parity (noted_rows (opened_by (cells_by ns bounds steps listed) fields old grid) a) k marks₀ l in
          still_none k l (sym e ∙ n.passed k p q)

  halved_open : (dss : List (List ℤ)) → Ways ns bounds steps listed dss → (marks marks' : List ℕ) (c : ℕ) → Opening (cells_by ns bounds steps listed) fields old grid marks₀ marks c → length marks₀ ≤ c
      → Halved marks marks' → marks' ≡ marks_of (opened ns dss fields old grid) (product ns)
  unfolding marks_of
  halved_open dss w marks marks' c o l h =
      ext_get_or 0 marks' _ (size ∙ sym (length_list_of _ (product ns)))
      (λ k q. let lk : k < product ns = omega (arith, size) in
      h.each k (omega (arith, h.len)) ∙ at k lk (opened ns dss fields old grid k) (noted ns bounds steps listed fields old grid marks₀ s.markable dss w marks c o l k lk)
      ∙ sym (get_or_list_of (λ y. cond (opened ns dss fields old grid y) 1 0) (product ns) k 0 lk))
    where
      size : length marks' ≡ product ns
      size = h.len ∙ o.len ∙ s.markable.marks_fit

      at : (k : ℕ) → k < product ns → (t : Bool) → get_or marks k 0 ≡ cond t (get_or marks₀ k 0 % 2 + 2) (get_or marks₀ k 0) → get_or marks k 0 / 2 ≡ cond t 1 0
      at k lk true v = omega arith
      at k lk false v = omega (arith, s.plain k lk)

  pub opening_done : (marks marks' : List ℕ) (c : ℕ) → Opening (cells_by ns bounds steps listed) fields old grid marks₀ marks c → length marks₀ ≤ c → Halved marks marks'
      → Marks ns bounds steps listed fields old grid marks'
  opening_done marks marks' c o l h = record { says = λ dss w. halved_open dss w marks marks' c o l h }
