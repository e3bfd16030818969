-- A step under an accepted plan is the step of the whole grid; and the planner's plan is accepted, exactly if there is one, and has the longest bands in turn.
use Prim.Native.Nat.{ℕ, zero, suc, ◌+◌, ◌-◌, ◌*◌, ◌/◌, ◌%◌, ◌<◌, ◌≤◌, min}
use native.Mathlib.Nat.{le_trans, add-zero, zero-add, add-suc, add_assoc, mul-le-mul_right, mul-add-div_right, mul-add-mod_self_right, div-eq_of_lt, mod-eq_of_lt, div-lt_iff_lt-mul, mod-lt, div-add-mod', zero-mul, add-mul}
use native.Mathlib.Omega.{arith}
use mathlib.Core.Path.{◌≡◌, refl, sym, ap, ap₂, ◌∙◌, subst, fun_ext}
use mathlib.Core.Logic.{◌⊎◌, inl, inr}
use mathlib.Core.Bool.{Bool, true, false, ◌&&◌, cond}
use mathlib.Core.List.{List, [], ◌∷◌, ◌++◌, append-nil, append_assoc, Memᴰ}
use lib.ListN.{length, get_or}
use lib.Dec.{eqb, leb, ltb}
use borrow.Author.Tests.{ltb-true, ltb-false, lt-ltb, le-ltb, leb-true, le-leb, eqb-true, eqb-false, eq-eqb}
use lib.IntN.{ℤ, pos, negsuc, sub_ℕ, ◌+ℤ◌, +ℤ_assoc}
use Rattle.value.specs.Number.{mod_z}
use Rattle.value.specs.Worked.{wrap_of}
use Rattle.value.proofs.Theorems.Laws.{and_both}
use Rattle.automaton.specs.Listed.{list_of}
use Rattle.automaton.specs.Promises.ListedLaws.{list_of_ext}
use Rattle.automaton.specs.Step.{Outcome, result, fault, Fault, no_fault, fault_at, fault_of, state_or, or_else, first_fault, Step, grid_after, up_to, step_of}
use Rattle.automaton.specs.Shape.{product, cell_number, coordinates, shift, neighbour, Bound}
use Rattle.automaton.specs.Promises.ShapeLaws.{Positive, Alike, Within}
use Rattle.automaton.proofs.ShapeLaws.{product_pos, coordinates_inside, number_lt, shift_inside}
use Rattle.automaton.proofs.Theorems.Quiet.{first_fault_ext, first_fault_none}
use Rattle.automaton.specs.Grid.{cell_of, grid_of, CellRule, automaton}
use Rattle.automaton.proofs.Theorems.GridLaws.{Bounded, cell_of_grid_of, some_field, cell_length}
use Rattle.automaton.specs.Bands.{Band, rows_in, rows_with, runs_on, accepts, plannable, longest, plan_of, reached, next_rows, part_step, band_outcome, band_step}
use Rattle.automaton.specs.Promises.BandSteps.{rows_lent, combined, combine, band_of, bands_of, kept_at, step_under}

-- ---- integers

-- an index within a bound leads from row back + i to row k of the rows that are lent
abbrev row_at : ℕ → ℤ → ℕ
row_at r (pos d) = r + d
row_at r (negsuc d) = r - suc d

-- the row k lies k - back rows behind the band's first: it is the row of index d from the band's row i
from_first : (back i : ℕ) (d : ℤ) (edge : Bound) → edge.back ≡ back → Within edge d → sub_ℕ (row_at (back + i) d) back ≡ pos i +ℤ d
from_first back i (pos d) edge e w = rw (le-ltb (back + i + d) back (omega arith)) (ap pos (omega arith))
from_first back i (negsuc d) edge e w = by (ltb i (suc d)) refl
  where
    by : (t : Bool) → ltb i (suc d) ≡ t → sub_ℕ (back + i - suc d) back ≡ sub_ℕ i (suc d)
    by true q = let l = ltb-true i (suc d) q in
        rw (q, lt-ltb (back + i - suc d) back (omega arith)) (ap negsuc (omega arith))
    by false q = let l = ltb-false i (suc d) q in
        rw (q, le-ltb (back + i - suc d) back (omega arith)) (ap pos (omega arith))

-- within the rows that are lent, nothing is wrapped
no_wrap : (back i count : ℕ) (d : ℤ) (edge : Bound) → edge.back ≡ back → Within edge d → row_at (back + i) d < count → wrap_of (back + i) d count ≡ row_at (back + i) d
no_wrap back i count (pos d) edge e w l = mod-eq_of_lt l
no_wrap back i count (negsuc d) edge e w l = rw (le-ltb (back + i) (suc d) (omega arith)) (mod-eq_of_lt l)

row_inside : (back i rows : ℕ) (d : ℤ) (edge : Bound) → edge.back ≡ back → Within edge d → i < rows → row_at (back + i) d < back + rows + edge.ahead
row_inside back i rows (pos d) edge e w l = omega arith
row_inside back i rows (negsuc d) edge e w l = omega arith

grid_same : (fields m : ℕ) (s s' : ℕ → List ℤ) → ((i : ℕ) → i < m → s i ≡ s' i) → grid_of fields m s ≡ grid_of fields m s'
unfolding grid_of
grid_same fields m s s' h =
    list_of_ext _ _ (m * fields) (λ e l. ap (λ (a : List ℤ). get_or a (e % fields) (pos 0)) (h (e / fields) ((div-lt_iff_lt-mul (some_field m fields e l)).1 l)))

part_ext : (fields : ℕ) (f f' : ℕ → Outcome (List ℤ)) (m : ℕ) → ((i : ℕ) → i < m → f i ≡ f' i) → part_step fields f m ≡ part_step fields f' m
unfolding part_step
part_ext fields f f' m h =
    ap₂ (λ (a : Fault) (r : Fault → List ℤ). record { fault = a; grid = r a; count = reached m a }) (first_fault_ext f f' m h) (fun_ext rows)
  where
    rows : (a : Fault) → next_rows fields m f a ≡ next_rows fields m f' a
    rows no_fault = grid_same fields m _ _ (λ i l. ap (state_or []) (h i l))
    rows (fault_at c k p) = refl

-- An index of the reach: within the bound in the first dimension, and one for each other.
abbrev pub Edged : Bound → List ℕ → List ℤ → Type 0
Edged edge ns [] = ⊥
Edged edge ns (d ∷ ds) = Within edge d × Alike ns ds

module _ (ns : List ℕ) (positive : Positive ns) where
  row_of : (r j : ℕ) → j < product ns → (r * product ns + j) / product ns ≡ r
  row_of r j l = mul-add-div_right (product_pos ns positive) r j ∙ ap (λ (x : ℕ). r + x) (div-eq_of_lt l) ∙ add-zero r

  rest_of : (r j : ℕ) → j < product ns → (r * product ns + j) % product ns ≡ j
  rest_of r j l = mul-add-mod_self_right r (product ns) j ∙ mod-eq_of_lt l

  -- a neighbour's row, and its place in the row
  neighbour_row : (n r j : ℕ) (d : ℤ) (ds : List ℤ) → j < product ns → neighbour (n ∷ ns) (r * product ns + j) (d ∷ ds) ≡ wrap_of r d n * product ns + neighbour ns j ds
  unfolding neighbour
  neighbour_row n r j d ds l =
      ap₂ (λ (x y : ℕ). wrap_of x d n * product ns + cell_number ns (shift ns (coordinates ns y) ds)) (row_of r j l) (rest_of r j l)

  in_row : (j : ℕ) (ds : List ℤ) → j < product ns → Alike ns ds → neighbour ns j ds < product ns
  unfolding neighbour
  in_row j ds l a = number_lt ns _ (shift_inside ns _ ds (coordinates_inside ns j positive l) a)

  -- Only the rows that are lent are read: what a longer room holds behind them plays no part.
  module _ (fields : ℕ) (edge : Bound) (timed : Bool) (dss : List (List ℤ)) (rule : CellRule) (bounded : Bounded fields timed dss rule) (edged : (ds : List ℤ) → Memᴰ ds dss → Edged edge ns ds)
      (rows count count' : ℕ) (enough : edge.back + rows + edge.ahead ≤ count) (enough' : edge.back + rows + edge.ahead ≤ count') (room room' : List ℤ)
      (same : (c : ℕ) → c < (edge.back + rows + edge.ahead) * product ns → cell_of fields room c ≡ cell_of fields room' c) where
    room_look : (i j : ℕ) (ds : List ℤ) → i < rows → j < product ns → Edged edge ns ds
        → cell_of fields room (neighbour (count ∷ ns) ((edge.back + i) * product ns + j) ds) ≡ cell_of fields room' (neighbour (count' ∷ ns) ((edge.back + i) * product ns + j) ds)
    room_look i j [] li lj h = absurd h
    room_look i j (d ∷ ds) li lj h =
        let inside : row_at (edge.back + i) d < edge.back + rows + edge.ahead = row_inside edge.back i rows d edge refl h.0 li in
        let there : (m : ℕ) → edge.back + rows + edge.ahead ≤ m
        → neighbour (m ∷ ns) ((edge.back + i) * product ns + j) (d ∷ ds) ≡ row_at (edge.back + i) d * product ns + neighbour ns j ds =
        λ m l. neighbour_row m (edge.back + i) j d ds lj ∙ ap (λ (x : ℕ). x * product ns + neighbour ns j ds) (no_wrap edge.back i m d edge refl h.0 (le_trans inside l))
        in
        ap (cell_of fields room) (there count enough)
        ∙ same (row_at (edge.back + i) d * product ns + neighbour ns j ds) (omega (arith, mul-le-mul_right (product ns) inside, in_row j ds lj h.1))
        ∙ ap (cell_of fields room') (sym (there count' enough'))

    pub band_step_same : (t : ℕ) → band_step ns fields rule count edge.back rows room t ≡ band_step ns fields rule count' edge.back rows room' t
    unfolding band_step band_outcome
    band_step_same t = part_ext fields _ _ (rows * product ns) (λ e l.
        let i = e / product ns in
        let j = e % product ns in
        let z = product_pos ns positive in
        let whole : e / product ns * product ns + e % product ns ≡ e = div-add-mod' e (product ns) in
        let cell : edge.back * product ns + e ≡ (edge.back + i) * product ns + j = omega (arith, whole) in
        bounded.local _ _ t t (λ _. refl) (λ ds m.
        ap (λ (x : ℕ). cell_of fields room (neighbour (count ∷ ns) x ds)) cell
        ∙ room_look i j ds ((div-lt_iff_lt-mul z).1 l) (mod-lt e z) (edged ds m)
        ∙ ap (λ (x : ℕ). cell_of fields room' (neighbour (count' ∷ ns) x ds)) (sym cell)))

  module _ (fields : ℕ) (n : ℕ) (edge : Bound) (g : List ℤ) where
    -- the cell of a row that is lent
    lent_cell : (count first k j : ℕ) → k < count → j < product ns
        → cell_of fields (rows_lent ns fields n count edge.back first g) (k * product ns + j)
        ≡ cell_of fields g (wrap_of first (sub_ℕ k edge.back) n * product ns + j)
    unfolding rows_lent
    lent_cell count first k j lk lj =
        cell_of_grid_of fields (count * product ns) _ (k * product ns + j) (cell_length fields g _) (omega (arith, mul-le-mul_right (product ns) lk))
        ∙ ap₂ (λ (x y : ℕ). cell_of fields g (wrap_of first (sub_ℕ x edge.back) n * product ns + y)) (row_of k j lj) (rest_of k j lj)

    -- A cell of a band reads from the rows that are lent what it reads in the grid.
    same_look : (first rows i j : ℕ) (ds : List ℤ) → i < rows → j < product ns → Edged edge ns ds
        → cell_of fields (rows_lent ns fields n (edge.back + rows + edge.ahead) edge.back first g) (neighbour ((edge.back + rows + edge.ahead) ∷ ns) ((edge.back + i) * product ns + j) ds)
        ≡ cell_of fields g (neighbour (n ∷ ns) ((first + i) * product ns + j) ds)
    same_look first rows i j [] li lj h = absurd h
    same_look first rows i j (d ∷ ds) li lj h =
        let count = edge.back + rows + edge.ahead in
        let inside : row_at (edge.back + i) d < count = row_inside edge.back i rows d edge refl h.0 li in
        let room = rows_lent ns fields n count edge.back first g in
        ap (cell_of fields room) (neighbour_row count (edge.back + i) j d ds lj ∙ ap (λ (x : ℕ). x * product ns + neighbour ns j ds) (no_wrap edge.back i count d edge refl h.0 inside))
        ∙ lent_cell count first (row_at (edge.back + i) d) (neighbour ns j ds) inside (in_row j ds lj h.1)
        ∙ ap (λ (z : ℤ). cell_of fields g (mod_z (pos first +ℤ z) n * product ns + neighbour ns j ds)) (from_first edge.back i d edge refl h.0)
        ∙ ap (λ (z : ℤ). cell_of fields g (mod_z z n * product ns + neighbour ns j ds)) (sym (+ℤ_assoc (pos first) (pos i) d))
        ∙ ap (cell_of fields g) (sym (neighbour_row n (first + i) j d ds lj))

    -- So it gives what it gives in the grid.
    module _ (timed : Bool) (dss : List (List ℤ)) (rule : CellRule) (bounded : Bounded fields timed dss rule) (edged : (ds : List ℤ) → Memᴰ ds dss → Edged edge ns ds) where
      pub band_outcome_is : (first rows t e : ℕ) → e < rows * product ns
          → band_outcome ns fields rule (edge.back + rows + edge.ahead) edge.back (rows_lent ns fields n (edge.back + rows + edge.ahead) edge.back first g) t e
          ≡ rule (λ ds. cell_of fields g (neighbour (n ∷ ns) (first * product ns + e) ds)) t
      unfolding band_outcome
      band_outcome_is first rows t e l =
          let i = e / product ns in
          let j = e % product ns in
          let z = product_pos ns positive in
          let whole : e / product ns * product ns + e % product ns ≡ e = div-add-mod' e (product ns) in
          let li : e / product ns < rows = (div-lt_iff_lt-mul z).1 l in
          let lj : e % product ns < product ns = mod-lt e z in
          let room_cell : (r : ℕ) → r * product ns + e ≡ (r + i) * product ns + j = λ r. omega (arith, whole) in
          bounded.local _ _ t t (λ _. refl)
          (λ ds m. ap (λ (x : ℕ). cell_of fields (rows_lent ns fields n (edge.back + rows + edge.ahead) edge.back first g) (neighbour ((edge.back + rows + edge.ahead) ∷ ns) x ds)) (room_cell edge.back)
          ∙ same_look first rows i j ds li lj (edged ds m)
          ∙ ap (λ (x : ℕ). cell_of fields g (neighbour (n ∷ ns) x ds)) (sym (room_cell first)))

-- ---- cells in parts

-- a fault counted from the cell a on
abbrev moved : ℕ → Fault → Fault
moved a no_fault = no_fault
moved a (fault_at c k p) = fault_at (a + c) k p

or_else_assoc : (a b c : Fault) → or_else (or_else a b) c ≡ or_else a (or_else b c)
or_else_assoc no_fault b c = refl
or_else_assoc (fault_at x y z) b c = refl

moved_or : (m : ℕ) (a b : Fault) → moved m (or_else a b) ≡ or_else (moved m a) (moved m b)
moved_or m no_fault b = refl
moved_or m (fault_at x y z) b = refl

moved_of : {State : Type 0} (m c : ℕ) (o : Outcome State) → moved m (fault_of c o) ≡ fault_of (m + c) o
moved_of m c (result a) = refl
moved_of m c (fault k p) = refl

or_none : (a : Fault) → or_else a no_fault ≡ a
or_none no_fault = refl
or_none (fault_at x y z) = refl

first_fault_split : {State : Type 0} (f : ℕ → Outcome State) (m k : ℕ) → first_fault f (m + k) ≡ or_else (first_fault f m) (moved m (first_fault (λ i. f (m + i)) k))
unfolding first_fault
first_fault_split f m zero = ap (first_fault f) (add-zero m) ∙ sym (or_none (first_fault f m))
first_fault_split f m (suc k) =
    ap (first_fault f) (add-suc m k)
    ∙ ap (λ (a : Fault). or_else a (fault_of (m + k) (f (m + k)))) (first_fault_split f m k)
    ∙ or_else_assoc (first_fault f m) (moved m (first_fault (λ i. f (m + i)) k)) (fault_of (m + k) (f (m + k)))
    ∙ ap (or_else (first_fault f m)) (ap (or_else (moved m (first_fault (λ i. f (m + i)) k))) (sym (moved_of m k (f (m + k)))) ∙ sym (moved_or m (first_fault (λ i. f (m + i)) k) (fault_of k (f (m + k)))))

list_split : {A : Type 0} (f : ℕ → A) (m k : ℕ) → list_of f (m + k) ≡ list_of f m ++ list_of (λ i. f (m + i)) k
unfolding list_of
list_split f m zero = ap (list_of f) (add-zero m) ∙ sym (append-nil (list_of f m))
list_split f m (suc k) = ap (list_of f) (add-suc m k) ∙ ap (λ (l : List _). l ++ (f (m + k) ∷ [])) (list_split f m k) ∙ append_assoc (list_of f m) (list_of (λ i. f (m + i)) k) (f (m + k) ∷ [])

grid_split : (fields m k : ℕ) (s : ℕ → List ℤ) → grid_of fields (m + k) s ≡ grid_of fields m s ++ grid_of fields k (λ i. s (m + i))
unfolding grid_of
grid_split fields m k s =
    ap (list_of (λ e. get_or (s (e / fields)) (e % fields) (pos 0))) (omega arith) ∙ list_split _ (m * fields) (k * fields)
    ∙ ap (λ (l : List ℤ). list_of (λ e. get_or (s (e / fields)) (e % fields) (pos 0)) (m * fields) ++ l)
    (list_of_ext _ _ (k * fields) (λ e l.
    let z = some_field k fields e l in
    ap₂ (λ (x y : ℕ). get_or (s x) y (pos 0)) (mul-add-div_right z m e) (mul-add-mod_self_right m fields e)))

part_split : (fields : ℕ) (f : ℕ → Outcome (List ℤ)) (m k : ℕ) → part_step fields f (m + k) ≡ combine m (part_step fields f m) (part_step fields (λ i. f (m + i)) k)
unfolding part_step
part_split fields f m k = go (first_fault f m) (first_fault (λ i. f (m + i)) k) (first_fault_split f m k)
  where
    go : (a b : Fault) → first_fault f (m + k) ≡ or_else a (moved m b)
        → record { fault = first_fault f (m + k); grid = next_rows fields (m + k) f (first_fault f (m + k)); count = reached (m + k) (first_fault f (m + k)) }
        ≡ combined m a b (record { fault = a; grid = next_rows fields m f a; count = reached m a })
        (record { fault = b; grid = next_rows fields k (λ i. f (m + i)) b; count = reached k b })
    go no_fault no_fault e = rw e (λ i. record { fault = no_fault; grid = grid_split fields m k (λ c. state_or [] (f c)) i; count = m + k })
    go no_fault (fault_at x y z) e = rw e (λ i. record { fault = fault_at (m + x) y z; grid = []; count = sym (add-suc m x) i })
    go (fault_at x y z) no_fault e = rw e
    go (fault_at x y z) (fault_at x' y' z') e = rw e

-- ---- a step under a plan

and4 : (a b c d : Bool) → (a && (b && (c && d))) ≡ true → (a ≡ true) × (b ≡ true) × (c ≡ true) × (d ≡ true)
and4 a b c d e =
    let x = and_both a (b && (c && d)) e in
    let y = and_both b (c && d) x.1 in
    let z = and_both c d y.1 in
    (x.0, y.0, z.0, z.1)

runs_to : (n : ℕ) (edge : Bound) (held from : ℕ) (bs : List Band) → runs_on n edge held from bs ≡ true → from ≤ n
unfolding runs_on
runs_to n edge held from [] e = let q = eqb-true from n e in omega arith
runs_to n edge held from (b ∷ bs) e =
    let c = and4 (eqb b.first from) (leb b.first b.last) (leb (rows_with edge b) held) (runs_on n edge held (suc b.last) bs) e in
    let l = runs_to n edge held (suc b.last) bs c.3 in
    omega (arith, eqb-true b.first from c.0, leb-true b.first b.last c.1)

-- with no fault a cell's old state plays no part
state_same : (c : ℕ) (o : Outcome (List ℤ)) (x y : List ℤ) → fault_of c o ≡ no_fault → state_or x o ≡ state_or y o
state_same c (result a) x y e = refl
state_same c (fault k p) x y e = absurd (let z : ◌≡◌ {A = ℕ} 0 1 = cc in omega arith)

module _ (n : ℕ) (ns : List ℕ) (positive : Positive ns) (fields : ℕ) (timed : Bool) (dss : List (List ℤ)) (rule : CellRule) (bounded : Bounded fields timed dss rule) (edge : Bound)
    (edged : (ds : List ℤ) → Memᴰ ds dss → Edged edge ns ds) where
  -- what the cells from a row on give in the grid
  abbrev grid_cell : List ℤ → ℕ → ℕ → Outcome (List ℤ)
  grid_cell g t c = rule (λ ds. cell_of fields g (neighbour (n ∷ ns) c ds)) t

  -- One band gives what its cells give in the grid.
  pub band_is : (g : List ℤ) (t : ℕ) (b : Band) → band_of ns fields rule n edge g t b ≡ part_step fields (λ i. grid_cell g t (b.first * product ns + i)) (rows_in b * product ns)
  unfolding band_step
  band_is g t b = part_ext fields _ _ (rows_in b * product ns) (band_outcome_is ns positive fields n edge g timed dss rule bounded edged b.first (rows_in b) t)

  part_none : (f : ℕ → Outcome (List ℤ)) → part_step fields f 0 ≡ record { fault = no_fault; grid = []; count = 0 }
  unfolding part_step first_fault grid_of list_of
  part_none f = ap (λ (l : List ℤ). record { fault = no_fault; grid = l; count = 0 }) (ap (list_of (λ e. get_or (state_or [] (f (e / fields))) (e % fields) (pos 0))) (zero-mul fields))

  bands_are : (g : List ℤ) (t held : ℕ) (bs : List Band) (from : ℕ) → runs_on n edge held from bs ≡ true
      → bands_of ns fields rule n edge g t bs ≡ part_step fields (λ i. grid_cell g t (from * product ns + i)) ((n - from) * product ns)
  unfolding runs_on bands_of
  bands_are g t held [] from e =
      sym (ap (part_step fields (λ i. grid_cell g t (from * product ns + i))) (ap (λ (x : ℕ). x * product ns) none ∙ zero-mul (product ns)) ∙ part_none _)
    where
      none : n - from ≡ 0
      none = omega (arith, eqb-true from n e)
  bands_are g t held (b ∷ bs) from e =
      let c = and4 (eqb b.first from) (leb b.first b.last) (leb (rows_with edge b) held) (runs_on n edge held (suc b.last) bs) e in
      let at : b.first ≡ from = eqb-true b.first from c.0 in
      let some : b.first ≤ b.last = leb-true b.first b.last c.1 in
      let fits : suc b.last ≤ n = runs_to n edge held (suc b.last) bs c.3 in
      let m = rows_in b * product ns in
      let k = (n - suc b.last) * product ns in
      let f : ℕ → Outcome (List ℤ) = λ i. grid_cell g t (from * product ns + i) in
      let total : m + k ≡ (n - from) * product ns = sym (add-mul (rows_in b) (n - suc b.last) (product ns)) ∙ ap (λ (x : ℕ). x * product ns) (omega arith) in
      let behind : from * product ns + m ≡ suc b.last * product ns = sym (add-mul from (rows_in b) (product ns)) ∙ ap (λ (x : ℕ). x * product ns) (omega arith) in
      ap₂ (combine m)
      (band_is g t b ∙ ap (λ (x : ℕ). part_step fields (λ i. grid_cell g t (x * product ns + i)) m) at)
      (bands_are g t held bs (suc b.last) c.3 ∙ part_ext fields _ _ k (λ i l. ap (grid_cell g t) (ap (λ (x : ℕ). x + i) (sym behind) ∙ add_assoc (from * product ns) m i)))
      ∙ sym (part_split fields f m k) ∙ ap (part_step fields f) total

  -- all cells of the grid
  whole_step : List ℤ → Step (List ℤ) → Step (List ℤ)
  whole_step g r = record { fault = r.fault; grid = kept_at r.fault g r.grid; count = r.count }

  part_all : (g : List ℤ) (t : ℕ) → whole_step g (part_step fields (grid_cell g t) (n * product ns)) ≡ step_of (automaton (n ∷ ns) fields timed dss rule) g t
  unfolding part_step step_of automaton whole_step
  part_all g t = go (first_fault (grid_cell g t) (n * product ns)) refl
    where
      go : (a : Fault) → first_fault (grid_cell g t) (n * product ns) ≡ a
          → ◌≡◌ {A = Step (List ℤ)}
          (record { fault = a; grid = kept_at a g (next_rows fields (n * product ns) (grid_cell g t) a); count = reached (n * product ns) a })
          (record { fault = a; grid = grid_after (automaton (n ∷ ns) fields timed dss rule) a g (grid_cell g t); count = up_to (automaton (n ∷ ns) fields timed dss rule) a })
      go no_fault e = λ i. record {
        fault = no_fault;
        grid = grid_same fields (n * product ns) _ _ (λ c l. state_same c (grid_cell g t c) [] (cell_of fields g c) (first_fault_none (grid_cell g t) (n * product ns) e c l)) i;
        count = n * product ns;
      }
      go (fault_at c k p) e = refl

  -- Under any accepted plan a step is the step of the whole grid.
  pub step_under_is : (held : ℕ) (plan : List Band) → accepts n edge held plan ≡ true → (g : List ℤ) (t : ℕ)
      → step_under ns fields rule n edge plan g t ≡ step_of (automaton (n ∷ ns) fields timed dss rule) g t
  unfolding accepts step_under whole_step
  step_under_is held plan e g t =
      ap (whole_step g)
      (bands_are g t held plan 0 e
      ∙ ap (part_step fields (λ i. grid_cell g t (0 * product ns + i))) (ap (λ (x : ℕ). x * product ns) whole)
      ∙ part_ext fields _ _ (n * product ns) (λ i l. ap (grid_cell g t) (ap (λ (x : ℕ). x + i) (zero-mul (product ns)) ∙ zero-add i)))
      ∙ part_all g t
    where
      whole : n - 0 ≡ n
      whole = omega arith

-- ---- plans

-- one row with its border rows is held, where a plan for some rows is accepted
some_rows : (n : ℕ) (edge : Bound) (held from : ℕ) (bs : List Band) → from < n → runs_on n edge held from bs ≡ true → edge.back + edge.ahead < held
unfolding runs_on
some_rows n edge held from [] l e = absurd (let q = eqb-true from n e in omega arith)
some_rows n edge held from (b ∷ bs) l e =
    let c = and4 (eqb b.first from) (leb b.first b.last) (leb (rows_with edge b) held) (runs_on n edge held (suc b.last) bs) e in
    omega (arith, leb-true b.first b.last c.1, leb-true (rows_with edge b) held c.2)

-- There is an accepted plan only where the planner finds one.
pub plan_needs : (n : ℕ) (edge : Bound) (held : ℕ) (plan : List Band) → 0 < n → accepts n edge held plan ≡ true → plannable edge held ≡ true
unfolding accepts plannable
plan_needs n edge held plan l e = lt-ltb _ held (some_rows n edge held 0 plan l e)

cond_true : {A : Type 0} (b : Bool) (x y : A) → b ≡ true → cond b x y ≡ x
cond_true b x y e = ap (λ (t : Bool). cond t x y) e

cond_false : {A : Type 0} (b : Bool) (x y : A) → b ≡ false → cond b x y ≡ y
cond_false b x y e = ap (λ (t : Bool). cond t x y) e

longest_end : (k n most from : ℕ) → n ≤ from → longest k n most from ≡ []
unfolding longest
longest_end zero n most from l = refl
longest_end (suc k) n most from l = cond_false (ltb from n) _ _ (le-ltb from n l)

module _ (n : ℕ) (edge : Bound) (held : ℕ) (some : edge.back + edge.ahead < held) where
  -- the planner's band from a row on, and the row behind it
  abbrev band_from : ℕ → Band
  band_from from = record { first = from; last = min (from + (held - (edge.back + edge.ahead))) n - 1 }

  abbrev behind_band : ℕ → ℕ
  behind_band from = min (from + (held - (edge.back + edge.ahead))) n

  longest_more : (k from : ℕ) → from < n → longest (suc k) n (held - (edge.back + edge.ahead)) from ≡ band_from from ∷ longest k n (held - (edge.back + edge.ahead)) (behind_band from)
  unfolding longest
  longest_more k from l = cond_true (ltb from n) _ _ (lt-ltb from n l)

  and_all : (a b c d : Bool) → a ≡ true → b ≡ true → c ≡ true → d ≡ true → (a && (b && (c && d))) ≡ true
  and_all a b c d p q r s = rw (p, q, r, s)

  longest_runs : (k from : ℕ) → from ≤ n → n ≤ from + k → runs_on n edge held from (longest k n (held - (edge.back + edge.ahead)) from) ≡ true
  unfolding runs_on
  longest_runs zero from l r = ap (runs_on n edge held from) (longest_end 0 n _ from (omega arith)) ∙ eq-eqb from n (omega arith)
  longest_runs (suc k) from l r = by (ltb from n) refl (longest_runs k (behind_band from))
    where
      by : (t : Bool) → ltb from n ≡ t
          → (behind_band from ≤ n → n ≤ behind_band from + k → runs_on n edge held (behind_band from) (longest k n (held - (edge.back + edge.ahead)) (behind_band from)) ≡ true)
          → runs_on n edge held from (longest (suc k) n (held - (edge.back + edge.ahead)) from) ≡ true
      by true e rest =
          let more : from < n = ltb-true from n e in
          let past : suc (behind_band from - 1) ≡ behind_band from = omega arith in
          ap (runs_on n edge held from) (longest_more k from more)
          ∙ and_all _ _ _ _ (eq-eqb from from refl) (le-leb from (behind_band from - 1) (omega arith)) (le-leb _ held (omega arith))
          (ap (λ (x : ℕ). runs_on n edge held x (longest k n (held - (edge.back + edge.ahead)) (behind_band from))) past ∙ rest (omega arith) (omega arith))
      by false e rest =
          let past : n ≤ from = ltb-false from n e in
          ap (runs_on n edge held from) (longest_end (suc k) n _ from past) ∙ eq-eqb from n (omega arith)

-- Where one row with its border rows can be held, the planner's plan is accepted.
pub plan_accepted : (n : ℕ) (edge : Bound) (held : ℕ) → plannable edge held ≡ true → accepts n edge held (plan_of n edge held) ≡ true
unfolding accepts plan_of plannable
plan_accepted n edge held e = longest_runs n edge held (ltb-true _ held e) n 0 (omega arith) (omega arith)

-- It has no more bands than there are rows.
pub plan_short : (k n most from : ℕ) → length (longest k n most from) ≤ k
unfolding longest
plan_short zero n most from = omega arith
plan_short (suc k) n most from = by (ltb from n) (plan_short k n most (min (from + most) n))
  where
    by : (t : Bool) → length (longest k n most (min (from + most) n)) ≤ k
        → length (cond t (record { first = from; last = min (from + most) n - 1 } ∷ longest k n most (min (from + most) n)) []) ≤ suc k
    by true h = omega arith
    by false h = omega arith

-- The bands of one plan are, in turn, as long as those of another: they are the same, up to one that is longer.
abbrev pub AsLong : List Band → List Band → Type 0
AsLong [] [] = Unit {0}
AsLong [] (b ∷ bs) = ⊥
AsLong (a ∷ as') [] = ⊥
AsLong (a ∷ as') (b ∷ bs) = (b.last < a.last) ⊎ ((b ≡ a) × AsLong as' bs)

longest_as : (n : ℕ) (edge : Bound) (held k from : ℕ) (bs : List Band) → n ≤ from + k → runs_on n edge held from bs ≡ true
    → AsLong (longest k n (held - (edge.back + edge.ahead)) from) bs
unfolding runs_on
longest_as n edge held k from [] r e = rw (longest_end k n (held - (edge.back + edge.ahead)) from (let q = eqb-true from n e in omega arith)) tt
longest_as n edge held zero from (b ∷ bs) r e = absurd (
    let c = and4 (eqb b.first from) (leb b.first b.last) (leb (rows_with edge b) held) (runs_on n edge held (suc b.last) bs) e in
    omega (arith, eqb-true b.first from c.0, leb-true b.first b.last c.1, runs_to n edge held (suc b.last) bs c.3))
longest_as n edge held (suc k) from (b ∷ bs) r e =
    let c = and4 (eqb b.first from) (leb b.first b.last) (leb (rows_with edge b) held) (runs_on n edge held (suc b.last) bs) e in
    let at : b.first ≡ from = eqb-true b.first from c.0 in
    let some : b.first ≤ b.last = leb-true b.first b.last c.1 in
    let fits : rows_with edge b ≤ held = leb-true (rows_with edge b) held c.2 in
    let inside : suc b.last ≤ n = runs_to n edge held (suc b.last) bs c.3 in
    let held_row : edge.back + edge.ahead < held = omega arith in
    rw (longest_more n edge held held_row k from (omega arith))
    (by (eqb b.last (past - 1)) refl at (omega arith) (omega arith) (longest_as n edge held k (suc b.last) bs (omega arith) c.3))
  where
    past : ℕ
    past = min (from + (held - (edge.back + edge.ahead))) n

    by : (t : Bool) → eqb b.last (past - 1) ≡ t → b.first ≡ from → b.last ≤ past - 1 → suc (past - 1) ≡ past
        → AsLong (longest k n (held - (edge.back + edge.ahead)) (suc b.last)) bs
        → (b.last < past - 1) ⊎ ((b ≡ record { first = from; last = past - 1 }) × AsLong (longest k n (held - (edge.back + edge.ahead)) past) bs)
    by true q at l s rest =
        let same = eqb-true b.last (past - 1) q in
        inr ((λ i. record { first = at i; last = same i }), subst (λ (x : ℕ). AsLong (longest k n (held - (edge.back + edge.ahead)) x) bs) (ap suc same ∙ s) rest)
    by false q at l s rest = inl (let other = eqb-false b.last (past - 1) q in omega arith)

-- No accepted plan has, in turn, longer bands than the planner's.
pub plan_longest : (n : ℕ) (edge : Bound) (held : ℕ) (plan : List Band) → accepts n edge held plan ≡ true → AsLong (plan_of n edge held) plan
unfolding accepts plan_of
plan_longest n edge held plan e = longest_as n edge held n 0 plan (omega arith) e
