-- One band of a grid: what it gives from the rows that it is lent is what its cells give in the grid.
use Prim.Native.Nat.{ℕ, suc, ◌+◌, ◌-◌, ◌*◌, ◌≤◌, ◌<◌}
use native.Mathlib.Omega.{arith}
use native.Mathlib.Nat.{le_refl, le_trans, mul-le-mul_right, mul-le-mul_left, add-mul, add_assoc}
use mathlib.Core.Path.{◌≡◌, refl, sym, ap, ◌∙◌, subst}
use mathlib.Core.List.{List, [], ◌∷◌, ◌++◌, Memᴰ}
use lib.ListN.{length, get_or, take, drop, get_or-append}
use lib.IntN.{ℤ, pos}
use Rattle.automaton.specs.Promises.ListedLaws.{length_list_of, list_of_ext}
use Rattle.automaton.specs.Step as automaton
use Rattle.automaton.specs.Step.{Outcome, result, fault, Fault, no_fault, fault_of, state_or, first_fault}
use Rattle.automaton.proofs.Theorems.Quiet.{first_fault_none}
use Rattle.automaton.specs.Shape.{product, Bound}
use Rattle.automaton.specs.Promises.ShapeLaws.{Positive}
use Rattle.automaton.proofs.ShapeLaws.{product_pos}
use Rattle.automaton.specs.Grid.{cell_of, grid_of}
use Rattle.automaton.proofs.Theorems.GridLaws.{Bounded, cell_of_grid_of, cell_length}
use Rattle.automaton.specs.Bands.{Band, rows_in, rows_with, next_rows, part_step, band_step}
use Rattle.automaton.specs.Promises.BandSteps.{rows_lent}
use Rattle.automaton.proofs.Theorems.BandLaws.{Edged, band_step_same, band_is}
use Rattle.program.specs.Syntax.{Program}
use Rattle.program.specs.declared.Rule.{Rule}
use Rattle.cell_meaning.specs.Evaluation.{evaluate}
use Rattle.run_meaning.specs.Reach.{reach}
use Rattle.run_meaning.proofs.Theorems.Locality.{evaluate_bounded}
use Rattle.run_meaning.proofs.Theorems.Covering.{reach_covers}
use Rattle.run_meaning.specs.Promises.Fitting.{held_fields}
use Rattle.band_meaning.proofs.Theorems.EdgeTheorems.{edged}
use Rattle.run_marked_cells.proofs.PartLaws.{entry_before, paste_below, paste_inside}
use Rattle.run_step.specs.declared.Step.{Step}
use Rattle.run_step.specs.Promises.Turns.{given}
use Rattle.run_step.specs.Promises.Rows.{RowsReady, RowsStepped}
use Rattle.band_step.specs.Promises.Lending.{Lending, with_rows}
use Rattle.band_step.specs.Promises.Bandwise.{Bordered, Grounds, BandFits, BandEvaluated}

-- ---- lists

-- a cell of the front of a list
cell_front : (fields c : ℕ) (xs ys : List ℤ) → c * fields + fields ≤ length xs → cell_of fields (xs ++ ys) c ≡ cell_of fields xs c
unfolding cell_of
cell_front fields c xs ys l = list_of_ext _ _ fields (λ k m. get_or-append xs ys (pos 0) (c * fields + k) (omega arith))

-- a list in which a part is put in place of another
abbrev pub put : (from k : ℕ) → List ℤ → List ℤ → List ℤ
put from k xs ys = take from xs ++ (ys ++ drop k (drop from xs))

-- a cell of a part that is put into a list
cell_inside : (fields from cells i : ℕ) (xs ys : List ℤ) → from * fields + cells * fields ≤ length xs → length ys ≡ cells * fields → i < cells
    → cell_of fields (put (from * fields) (cells * fields) xs ys) (from + i) ≡ cell_of fields ys i
unfolding cell_of
cell_inside fields from cells i xs ys room size l =
    list_of_ext _ _ fields (λ k m.
    ap (λ (x : ℕ). get_or (put (from * fields) (cells * fields) xs ys) x (pos 0)) (ap (λ (x : ℕ). x + k) (add-mul from i fields) ∙ add_assoc (from * fields) (i * fields) k)
    ∙ paste_inside (from * fields) (cells * fields) xs ys room size (i * fields + k) (entry_before fields i cells k l m))

-- a cell before it
cell_before : (fields from cells c : ℕ) (xs ys : List ℤ) → from * fields + cells * fields ≤ length xs → length ys ≡ cells * fields → c < from
    → cell_of fields (put (from * fields) (cells * fields) xs ys) c ≡ cell_of fields xs c
unfolding cell_of
cell_before fields from cells c xs ys room size l =
    list_of_ext _ _ fields (λ k m. paste_below (from * fields) (cells * fields) xs ys room size (c * fields + k) (entry_before fields c from k l m))

-- an outcome without a fault
state_of : {State : Type 0} (c : ℕ) (old : State) (o : Outcome State) → fault_of c o ≡ no_fault → o ≡ result (state_or old o)
state_of c old (result a) e = refl
state_of c old (fault k p) e = absurd (let z : ◌≡◌ {A = ℕ} 0 1 = cc in omega arith)

lent_long : (ns : List ℕ) (fields n count back first : ℕ) (g : List ℤ) → length (rows_lent ns fields n count back first g) ≡ count * product ns * fields
unfolding rows_lent grid_of
lent_long ns fields n count back first g = length_list_of _ (count * product ns * fields)

-- ---- a program

module _ {words : List ℕ} {rule : Rule} {border : Bound} {p : Program} (h : Bordered words rule border p) where
  bounded : Bounded rule.fields p.timed (reach p) (evaluate p)
  bounded = subst (λ (f : ℕ). Bounded f p.timed (reach p) (evaluate p)) (held_fields p h.holds) (evaluate_bounded p (reach p) (reach_covers p) h.flagged)

  within : (n : ℕ) (ns : List ℕ) → length (n ∷ ns) ≡ p.dims → (ds : List ℤ) → Memᴰ ds (reach p) → Edged border ns ds
  within n ns e ds m = subst (λ (b : Bound). Edged b ns ds) h.border_is (edged p n ns e ds m)

  module _ (n : ℕ) (ns : List ℕ) (dims : length (n ∷ ns) ≡ p.dims) (positive : Positive ns) (b : Band) (grid room : List ℤ) (time : ℕ) where
    -- what the band's cells give in the grid
    abbrev in_grid : ℕ → Outcome (List ℤ)
    in_grid i = given p rule.fields (n ∷ ns) grid time (b.first * product ns + i)

    -- the room's front is what is lent
    lent_same : (c : ℕ) → c < rows_with border b * product ns
        → cell_of rule.fields (with_rows (n ∷ ns) rule.fields b.first border.back (rows_with border b) grid room) c
        ≡ cell_of rule.fields (rows_lent ns rule.fields n (rows_with border b) border.back b.first grid) c
    lent_same c l =
        cell_front rule.fields c (rows_lent ns rule.fields n (rows_with border b) border.back b.first grid) _
        (omega (arith, mul-le-mul_right {m = suc c} {n = rows_with border b * product ns} rule.fields l, lent_long ns rule.fields n (rows_with border b) border.back b.first grid))

    -- One band gives, from a room that is filled with what it is lent, what its cells give in the grid.
    band_in_grid : (held : ℕ) → rows_with border b ≤ held
        → band_step ns rule.fields (evaluate p) held border.back (rows_in b) (with_rows (n ∷ ns) rule.fields b.first border.back (rows_with border b) grid room) time
        ≡ part_step rule.fields in_grid (rows_in b * product ns)
    band_in_grid held l =
        band_step_same ns positive rule.fields border p.timed (reach p) (evaluate p) bounded (within n ns dims) (rows_in b) held (rows_with border b) l (le_refl (rows_with border b)) _ _ lent_same time
        ∙ band_is n ns positive rule.fields p.timed (reach p) (evaluate p) bounded border (within n ns dims) grid time b

    -- its next fields, where it has no fault
    next_at : (next : List ℤ) → first_fault in_grid (rows_in b * product ns) ≡ no_fault → next ≡ (part_step rule.fields in_grid (rows_in b * product ns)).grid
        → (i : ℕ) → i < rows_in b * product ns → in_grid i ≡ result (cell_of rule.fields next i)
    unfolding part_step
    next_at next none is i l =
        let m = rows_in b * product ns in
        let s : ℕ → List ℤ = λ j. state_or [] (in_grid j) in
        let here : in_grid i ≡ result (s i) = state_of i [] (in_grid i) (first_fault_none in_grid m none i l) in
        let long : length (s i) ≡ rule.fields = bounded.sized _ time (s i) (λ ds. cell_length rule.fields grid _) here in
        here ∙ ap (λ (x : List ℤ). result x)
        (sym (ap (λ (x : List ℤ). cell_of rule.fields x i) (is ∙ ap (next_rows rule.fields m in_grid) none) ∙ cell_of_grid_of rule.fields m s i long l))

-- ---- the call

-- from the room's step to the grid's cells
band_at : (words : List ℕ) (rule : Rule) (n : ℕ) (ns : List ℕ) (held : ℕ) (border : Bound) (b : Band) (grid scratch room : List ℤ) (time count : ℕ) (r : Step) (next : List ℤ)
    → length (n ∷ ns) ≡ rule.dims → Positive ns → rows_with border b ≤ held → (b.first * product ns) * rule.fields + (rows_in b * product ns) * rule.fields ≤ length scratch
    → length next ≡ rows_in b * product ns * rule.fields
    → RowsStepped words rule (held ∷ ns) border.back (rows_in b) (with_rows (n ∷ ns) rule.fields b.first border.back (rows_with border b) grid room) time count r next
    → BandEvaluated (Bordered words rule border) rule (n ∷ ns) (b.first * product ns) (rows_in b * product ns) grid scratch time count r
    (put (b.first * product ns * rule.fields) (rows_in b * product ns * rule.fields) scratch next)
unfolding part_step
band_at words rule n ns held border b grid scratch room time count r next dims positive enough fits size s = record {
  fault = λ p h. s.fault p h.holds ∙ ap (λ (x : automaton.Step (List ℤ)). x.fault) (same p h);
  count_is = s.evaluated;
  counted = s.counted;
  next = λ none p h i l.
      next_at h n ns (dims_of p h) positive b grid room time next (sym (s.fault p h.holds ∙ ap (λ (x : automaton.Step (List ℤ)). x.fault) (same p h)) ∙ none)
      (s.next_is none p h.holds ∙ ap (λ (x : automaton.Step (List ℤ)). x.grid) (same p h)) i l
      ∙ ap (λ (x : List ℤ). result x) (sym (cell_inside rule.fields (b.first * product ns) (rows_in b * product ns) i scratch next fits size l));
  kept = λ c l. cell_before rule.fields (b.first * product ns) (rows_in b * product ns) c scratch next fits size l;
}
  where
    dims_of : (p : Program) → Bordered words rule border p → length (n ∷ ns) ≡ p.dims
    dims_of p h = dims ∙ sym h.holds.dims

    same : (p : Program) (h : Bordered words rule border p)
        → band_step ns rule.fields (evaluate p) held border.back (rows_in b) (with_rows (n ∷ ns) rule.fields b.first border.back (rows_with border b) grid room) time
        ≡ part_step rule.fields (in_grid h n ns (dims_of p h) positive b grid room time) (rows_in b * product ns)
    same p h = band_in_grid h n ns (dims_of p h) positive b grid room time held enough

-- cells by rows
pub by_rows : (ss : List ℕ) → 0 < length ss → product ss ≡ get_or ss 0 0 * product (drop 1 ss)
by_rows [] l = absurd (omega arith)
by_rows (n ∷ ns) l = refl

pub rest_positive : (ss : List ℕ) → Positive ss → Positive (drop 1 ss)
rest_positive [] h = tt
rest_positive (n ∷ ns) h = h.1

module _ {leaves words : List ℕ} {rule : Rule} {sizes shape : List ℕ} {row : ℕ} {border : Bound} {entries lent-scratch lent time : ℕ} (g : Grounds leaves words rule sizes shape row border entries lent-scratch lent time) where
  pub grid_rows : product sizes ≡ get_or sizes 0 0 * row
  grid_rows = by_rows sizes g.some_dims ∙ ap (λ (x : ℕ). get_or sizes 0 0 * x) (sym g.row_is)

  room_rows : product shape ≡ get_or shape 0 0 * row
  room_rows = by_rows shape g.room_dims ∙ ap (λ (x : ℕ). get_or shape 0 0 * x) (ap product g.alike ∙ sym g.row_is)

  some_cells : 0 < row
  some_cells = subst (λ (x : ℕ). 0 < x) (sym g.row_is) (product_pos (drop 1 sizes) (rest_positive sizes g.shaped.positive))

  -- the cells of so many rows of the grid
  pub rows_few : {k : ℕ} → k ≤ get_or sizes 0 0 → k * row ≤ 1048576
  rows_few {k} l = omega (arith, mul-le-mul_right {m = k} {n = get_or sizes 0 0} row l, grid_rows, g.shaped.cells)

  pub row_small : {k : ℕ} → k ≤ get_or sizes 0 0 → k ≤ 1048576
  row_small {k} l = omega (arith, rows_few l, mul-le-mul_left k some_cells)

  module _ {first last count : ℕ} (f : BandFits sizes shape row border first last count) {own : ℕ} (own_is : own ≡ suc last - first) where
    last_inside : first + own ≤ get_or sizes 0 0
    last_inside = let a = f.order in let b = f.inside in omega arith

    pub held_rows : border.back + own + border.ahead ≤ get_or shape 0 0
    held_rows = subst (λ (x : ℕ). border.back + x + border.ahead ≤ get_or shape 0 0) (sym own_is) f.held

    pub held_small : border.back + own + border.ahead ≤ 4194304
    held_small = omega (arith, held_rows, room_rows, g.roomed.cells, mul-le-mul_left (get_or shape 0 0) some_cells)

    -- the band's part of scratch
    pub part_inside : first * row * rule.fields + own * row * rule.fields ≤ lent-scratch
    part_inside =
        let fits : (first + own) * row ≤ product sizes = subst (λ (x : ℕ). (first + own) * row ≤ x) (sym grid_rows) (mul-le-mul_right row last_inside) in
        let all : (first + own) * row * rule.fields ≤ lent-scratch = le_trans (mul-le-mul_right rule.fields fits) (omega (arith, g.shaped.entries, g.scratch_fits)) in
        subst (λ (x : ℕ). x ≤ lent-scratch) (ap (λ (x : ℕ). x * rule.fields) (add-mul first own row) ∙ add-mul (first * row) (own * row) rule.fields) all

    pub asks_lending : Lending sizes row rule.fields entries first border.back (border.back + own + border.ahead) lent
    asks_lending = record {
      some_dims = g.some_dims;
      row_is = g.row_is;
      entries_are = g.shaped.entries;
      a_row = let a = f.order in let b = f.inside in omega arith;
      near = g.near;
      room_fits =
          subst (λ (x : ℕ). (border.back + own + border.ahead) * row * rule.fields ≤ x) (ap (λ (x : ℕ). x * rule.fields) (sym room_rows) ∙ g.roomed.entries)
          (mul-le-mul_right rule.fields (mul-le-mul_right row held_rows));
    }

    pub asks_rows : {room : List ℤ} {k : ℕ} → length room ≡ lent → own * row * rule.fields ≡ k → RowsReady leaves words rule shape row border.back own room k time count
    asks_rows {room} {k} long part = record {
      rule_fits = g.rule_fits;
      roomed = let r = g.roomed in record { dims = r.dims; positive = r.positive; cells = r.cells; entries = r.entries ∙ sym long };
      some_dims = g.room_dims;
      row_is = g.row_is ∙ ap product (sym g.alike);
      inside = omega (arith, held_rows);
      next_fits = part;
      small = g.small;
      countable = subst (λ (x : ℕ). count + x * row ≤ 18446744073709551615) (sym own_is) f.countable;
      noted = g.noted;
    }

    -- what the call of a band comes to
    pub band_evaluated : (grid room : List ℤ) {scratch room' next : List ℤ} {k : ℕ} {r : Step} → length scratch ≡ lent-scratch
        → room' ≡ with_rows sizes rule.fields first border.back (border.back + own + border.ahead) grid room
        → RowsStepped words rule shape border.back own room' time count r next → length next ≡ own * row * rule.fields → k ≡ own * row * rule.fields
        → BandEvaluated (Bordered words rule border) rule sizes (first * row) ((suc last - first) * row) grid scratch time count r (put (first * row * rule.fields) k scratch next)
    band_evaluated grid room {scratch} {room'} {next} {k} {r} size filled s long whole =
        by sizes shape g.some_dims g.room_dims g.row_is g.alike g.shaped.dims g.shaped.positive f.held (subst (λ (x : ℕ). RowStep shape x room') own_is s)
        (filled ∙ ap (λ (x : ℕ). with_rows sizes rule.fields first border.back (border.back + x + border.ahead) grid room) own_is)
        (subst (λ (x : ℕ). first * row * rule.fields + x * row * rule.fields ≤ length scratch) own_is (subst (λ (x : ℕ). first * row * rule.fields + own * row * rule.fields ≤ x) (sym size) part_inside))
        (long ∙ ap (λ (x : ℕ). x * row * rule.fields) own_is) (whole ∙ ap (λ (x : ℕ). x * row * rule.fields) own_is)
      where
        RowStep : List ℕ → ℕ → List ℤ → Type 0
        RowStep ss x rm = RowsStepped words rule ss border.back x rm time count r next

        by : (ss ts : List ℕ) → 0 < length ss → 0 < length ts → row ≡ product (drop 1 ss) → drop 1 ts ≡ drop 1 ss → length ss ≡ rule.dims → Positive ss
            → border.back + (suc last - first) + border.ahead ≤ get_or ts 0 0 → RowStep ts (suc last - first) room'
            → room' ≡ with_rows ss rule.fields first border.back (border.back + (suc last - first) + border.ahead) grid room
            → first * row * rule.fields + (suc last - first) * row * rule.fields ≤ length scratch → length next ≡ (suc last - first) * row * rule.fields → k ≡ (suc last - first) * row * rule.fields
            → BandEvaluated (Bordered words rule border) rule ss (first * row) ((suc last - first) * row) grid scratch time count r (put (first * row * rule.fields) k scratch next)
        by [] ts l m e alike dims positive held st fill fits nl kl = absurd (omega arith)
        by (n ∷ ns) [] l m e alike dims positive held st fill fits nl kl = absurd (omega arith)
        by (n ∷ ns) (h ∷ ms) l m e alike dims positive held st fill fits nl kl =
            rw (e, kl, e)
            (band_at words rule n ns h border (record { first = first; last = last }) grid scratch room time count r next dims positive.1 held (rw e at fits) (rw e at nl)
            (subst (λ (x : List ℤ). RowStep (h ∷ ns) (suc last - first) x) fill (subst (λ (x : List ℕ). RowStep (h ∷ x) (suc last - first) room') alike st)))
