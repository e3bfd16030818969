-- The coordinates of a cell, written or counted up from the last dimension to the first.
use Prim.Native.Nat.{ℕ, zero, suc, ◌+◌, ◌-◌, ◌*◌, ◌/◌, ◌%◌, ◌≤◌, ◌<◌}
use native.Mathlib.Nat.{div-add-mod', mod-lt, mul-le-mul_right, le_of_suc-le-suc, not-suc-le-zero}
use native.Mathlib.Omega.{arith}
use mathlib.Core.Path.{◌≡◌, refl, sym, ap, ap₂, ◌∙◌}
use mathlib.Core.List.{List, [], ◌∷◌}
use lib.ListN.{length, get_or, set, drop, length-set}
use lib.Seq.{drop-cons, drop-length, drop-set-lt, get_or-set_same}
use Rattle.automaton.specs.Shape.{product, cell_number, coordinates}
use Rattle.automaton.specs.Promises.ShapeLaws.{Positive, Inside}
use Rattle.automaton.proofs.ShapeLaws.{inside_length, inside_at, coordinates_inside, number_coordinates, coordinates_number}
use Rattle.run_marked_cells.specs.Promises.Marked.{PointSet, Moving}

-- ---- written

pub positive_at : (sizes : List ℕ) (k : ℕ) → Positive sizes → k < length sizes → 0 < get_or sizes k 0
positive_at [] k h l = absurd (not-suc-le-zero l)
positive_at (n ∷ ns) zero h l = h.0
positive_at (n ∷ ns) (suc k) h l = positive_at ns k h.1 (le_of_suc-le-suc l)

-- the coordinates from dimension k on are written; `rest` is what they leave of the cell's number
pub record Walked (sizes : List ℕ) (cell k rest : ℕ) (point : List ℕ) : Type 0 where
  pub within : k ≤ length sizes
  pub size : length point ≡ length sizes
  pub inside : Inside (drop k sizes) (drop k point)
  pub sum : rest * product (drop k sizes) + cell_number (drop k sizes) (drop k point) ≡ cell

module _ (sizes : List ℕ) (cell : ℕ) where
  pub walk_start : (point : List ℕ) → length point ≡ length sizes → Walked sizes cell (length sizes) cell point
  walk_start point e =
      let none : drop (length sizes) sizes ≡ [] = drop-length sizes in
      let none' : drop (length sizes) point ≡ [] = ap (λ (n : ℕ). drop n point) (sym e) ∙ drop-length point in
      record {
        within = omega arith;
        size = e;
        inside = rw (none, none') tt;
        sum = rw none (omega arith);
      }

  pub walk_more : (k rest : ℕ) (point : List ℕ) → Walked sizes cell k rest point → 0 < k → Positive sizes
      → Walked sizes cell (k - 1) (rest / get_or sizes (k - 1) 0) (set point (k - 1) (rest % get_or sizes (k - 1) 0))
  walk_more k rest point h l positive = record {
    within = omega arith;
    size = length-set point j v ∙ h.size;
    inside = rw (first, first') (mod-lt rest some, h.inside);
    sum = rw (first, first') (total (product (drop k sizes)) (cell_number (drop k sizes) (drop k point)) h.sum);
  }
    where
      j : ℕ
      j = k - 1

      n : ℕ
      n = get_or sizes j 0

      v : ℕ
      v = rest % n

      lj : j < length sizes
      lj = let w = h.within in omega arith

      some : 0 < n
      some = positive_at sizes j positive lj

      sj : suc j ≡ k
      sj = omega arith

      first : drop j sizes ≡ n ∷ drop k sizes
      first = drop-cons sizes j 0 lj ∙ ap (λ (i : ℕ). n ∷ drop i sizes) sj

      lp : j < length point
      lp = let e = h.size in let w = lj in omega arith

      first' : drop j (set point j v) ≡ v ∷ drop k point
      first' =
          drop-cons (set point j v) j 0 (let e = length-set point j v in let w = lp in omega arith)
          ∙ ap₂ (λ (x : ℕ) (xs : List ℕ). x ∷ xs) (get_or-set_same point j v 0 lp) (drop-set-lt (suc j) point j v (omega arith) ∙ ap (λ (i : ℕ). drop i point) sj)

      total : (P q : ℕ) → rest * P + q ≡ cell → rest / n * (n * P) + (v * P + q) ≡ cell
      total P q e = omega (arith, ap (λ (x : ℕ). x * P) (div-add-mod' rest n))

  pub walk_end : (k rest : ℕ) (point : List ℕ) → Walked sizes cell k rest point → k ≤ 0 → PointSet sizes cell point
  walk_end k rest point h l inside =
      let z : k ≡ 0 = omega arith in
      let all : rest * product sizes + cell_number sizes point ≡ cell = rw z at h.sum in
      let none : rest ≡ 0 = no_rest rest (omega arith) in
      let same : cell_number sizes point ≡ cell = omega (arith, ap (λ (x : ℕ). x * product sizes) none) in
      let there : Inside sizes point = rw z at h.inside in
      sym (coordinates_number sizes point there) ∙ ap (coordinates sizes) same
    where
      no_rest : (r : ℕ) → r * product sizes < product sizes → r ≡ 0
      no_rest zero m = refl
      no_rest (suc r) m = absurd (omega (arith, mul-le-mul_right {m = 1} {n = suc r} (product sizes) (omega arith)))

-- ---- counted up

inside_set : (ns is : List ℕ) (k v : ℕ) → Inside ns is → v < get_or ns k 0 → Inside ns (set is k v)
inside_set [] [] k v h l = tt
inside_set (n ∷ ns) (i ∷ is) zero v h l = (l, h.1)
inside_set (n ∷ ns) (i ∷ is) (suc k) v h l = (h.0, inside_set ns is k v h.1 l)
inside_set [] (i ∷ is) k v h l = elim h [ ]
inside_set (n ∷ ns) [] k v h l = elim h [ ]

-- the cell's number changes by as much as one coordinate weighs
number_set : (ns is : List ℕ) (k v : ℕ) → Inside ns is → k < length ns
    → cell_number ns (set is k v) + get_or is k 0 * product (drop (suc k) ns) ≡ cell_number ns is + v * product (drop (suc k) ns)
number_set [] [] k v h l = absurd (not-suc-le-zero l)
number_set (n ∷ ns) (i ∷ is) zero v h l = omega arith
number_set (n ∷ ns) (i ∷ is) (suc k) v h l = omega (arith, number_set ns is k v h.1 (le_of_suc-le-suc l))
number_set [] (i ∷ is) k v h l = elim h [ ]
number_set (n ∷ ns) [] k v h l = elim h [ ]

-- the dimensions from k on start again at 0; one is still to be added to the one before
pub record Carried (sizes first : List ℕ) (k : ℕ) (point : List ℕ) : Type 0 where
  pub within : k ≤ length sizes
  pub dims : length first ≡ length sizes
  pub size : length point ≡ length first
  pub inside : Inside sizes point
  pub sum : cell_number sizes point + product (drop k sizes) ≡ cell_number sizes first + 1

module _ (sizes first : List ℕ) where
  pub carry_start : Inside sizes first → Carried sizes first (length sizes) first
  carry_start h = record {
    within = omega arith;
    dims = inside_length sizes first h;
    size = refl;
    inside = h;
    sum = rw (drop-length sizes) refl;
  }

  module _ (k : ℕ) (point : List ℕ) (h : Carried sizes first k point) (l : 0 < k) where
    below : k - 1 < length sizes
    below = let w = h.within in omega arith

    up_again : suc (k - 1) ≡ k
    up_again = omega arith

    -- a full dimension is worth one of the one before it
    weight : product (drop (k - 1) sizes) ≡ get_or sizes (k - 1) 0 * product (drop k sizes)
    weight = ap product (drop-cons sizes (k - 1) 0 below) ∙ ap (λ (i : ℕ). get_or sizes (k - 1) 0 * product (drop i sizes)) up_again

    changed : (v : ℕ) → cell_number sizes (set point (k - 1) v) + get_or point (k - 1) 0 * product (drop k sizes) ≡ cell_number sizes point + v * product (drop k sizes)
    changed v = rw up_again at (number_set sizes point (k - 1) v h.inside below)

    pub carry_below : get_or point (k - 1) 0 < get_or sizes (k - 1) 0
    carry_below = inside_at sizes point h.inside (k - 1) below

    -- a full dimension starts again
    pub carry_more : get_or sizes (k - 1) 0 ≤ get_or point (k - 1) 0 + 1 → Carried sizes first (k - 1) (set point (k - 1) 0)
    carry_more m =
        let b = carry_below in
        let full : get_or sizes (k - 1) 0 ≡ get_or point (k - 1) 0 + 1 = omega arith in
        let w : product (drop (k - 1) sizes) ≡ (get_or point (k - 1) 0 + 1) * product (drop k sizes) = weight ∙ ap (λ (n : ℕ). n * product (drop k sizes)) full in
        record {
          within = let w = h.within in omega arith;
          dims = h.dims;
          size = length-set point (k - 1) 0 ∙ h.size;
          inside = inside_set sizes point (k - 1) 0 h.inside (omega arith);
          sum = omega (arith, changed 0, h.sum);
        }

    -- one that is not full goes up by one
    pub carry_stop : get_or point (k - 1) 0 + 1 < get_or sizes (k - 1) 0 → PointSet sizes (cell_number sizes first + 1) (set point (k - 1) (get_or point (k - 1) 0 + 1))
    carry_stop m i =
        let up = get_or point (k - 1) 0 + 1 in
        let e : cell_number sizes (set point (k - 1) up) ≡ cell_number sizes first + 1 = omega (arith, changed up, h.sum) in
        sym (coordinates_number sizes _ (inside_set sizes point (k - 1) up h.inside m)) ∙ ap (coordinates sizes) e

  -- behind the last cell there is none
  pub carry_end : (k : ℕ) (point : List ℕ) → Carried sizes first k point → k ≤ 0 → PointSet sizes (cell_number sizes first + 1) point
  carry_end k point h l i =
      let z : k ≡ 0 = omega arith in
      let all : cell_number sizes point + product sizes ≡ cell_number sizes first + 1 = rw z at h.sum in
      absurd (omega arith)

-- ---- gone on

module _ {sizes : List ℕ} {cell after : ℕ} {point : List ℕ} (m : Moving sizes cell after point) where
  pub move_inside : Inside sizes point
  move_inside = rw m.own (coordinates_inside sizes cell m.placing.positive m.inside)

  pub move_next : {point' : List ℕ} → after ≡ cell + 1 → PointSet sizes (cell_number sizes point + 1) point' → PointSet sizes after point'
  move_next e h =
      let n : cell_number sizes point ≡ cell = ap (cell_number sizes) m.own ∙ number_coordinates sizes cell m.placing.positive m.inside in
      let a : cell_number sizes point + 1 ≡ after = omega arith in
      rw a at h
