-- The border rows of a program are enough: a step under an accepted plan is the step of the whole grid. And they are no more than its reach needs.
use Prim.Native.Nat.{ℕ, zero, suc, ◌≤◌}
use native.Mathlib.Omega.{arith}
use mathlib.Core.Path.{◌≡◌, refl, sym, ap₂, ◌∙◌, subst}
use mathlib.Core.Logic.{◌⊎◌, inl, inr}
use mathlib.Core.Bool.{true}
use mathlib.Core.List.Memᴰ
use mathlib.Core.List.{List, [], ◌∷◌, Memᴰ}
use mathlib.Core.Option.{Option, none, some}
use lib.ListN.{length, replicate, length-replicate}
use lib.IntN.{ℤ, pos, negsuc}
use Rattle.automaton.specs.Step.{step_of}
use Rattle.automaton.specs.Shape.{Bound, box_indices}
use Rattle.automaton.specs.Promises.ShapeLaws.{Positive, Alike, Within, AllWithin, zeros}
use Rattle.automaton.proofs.ShapeLaws.{alike_length, mem_box, box_alike, zeros_within}
use Rattle.automaton.specs.Bands.{Band, accepts}
use Rattle.automaton.specs.Promises.BandSteps.{step_under}
use Rattle.automaton.proofs.Theorems.BandLaws.{Edged, step_under_is}
use Rattle.program.specs.Syntax.{range, Program}
use Rattle.cell_meaning.specs.Evaluation.{evaluate}
use Rattle.cell_meaning.specs.Places.{places}
use Rattle.run_meaning.specs.Reach.{below, above, widen, box, reach_from, reach, running}
use Rattle.run_meaning.proofs.Theorems.Locality.{Flagged, evaluate_bounded}
use Rattle.run_meaning.proofs.Theorems.Covering.{box_length, reach_covers}
use Rattle.run_meaning.proofs.Theorems.PlacesLaws.{places_within}
use Rattle.band_meaning.specs.Edge.{first_index, edge_of, edge}

-- ---- index vectors

-- an index by how far it lies below 0 and above it
within_of : (b : Bound) (z : ℤ) → below z ≤ b.back → above z ≤ b.ahead → Within b z
within_of b (pos n) l u = u
within_of b (negsuc n) l u = l

below_of : (b : Bound) (z : ℤ) → Within b z → below z ≤ b.back
below_of b (pos n) w = omega arith
below_of b (negsuc n) w = w

above_of : (b : Bound) (z : ℤ) → Within b z → above z ≤ b.ahead
above_of b (pos n) w = w
above_of b (negsuc n) w = omega arith

-- Every index vector is within the edge in the first dimension.
pub edge_holds : (dss : List (List ℤ)) (ds : List ℤ) → Memᴰ ds dss → Within (edge_of dss) (first_index ds)
unfolding edge_of
edge_holds [] ds m = absurd (Memᴰ.not-nil m)
edge_holds (es ∷ dss) ds m = by (Memᴰ.cases_cons m) (edge_holds dss ds)
  where
    by : (ds ≡ es) ⊎ Memᴰ ds dss → (Memᴰ ds dss → Within (edge_of dss) (first_index ds))
        → Within (widen (edge_of dss) (range (first_index es) (first_index es))) (first_index ds)
    by (inl e) rest = rw e (within_of _ (first_index es) (omega arith) (omega arith))
    by (inr h) rest =
        let l = below_of (edge_of dss) (first_index ds) (rest h) in
        let u = above_of (edge_of dss) (first_index ds) (rest h) in
        within_of _ (first_index ds) (omega arith) (omega arith)

-- No smaller bound has them all: its ends are the lowest and the highest index, 0 included.
pub edge_least : (dss : List (List ℤ)) (b : Bound) → ((ds : List ℤ) → Memᴰ ds dss → Within b (first_index ds))
    → ((edge_of dss).back ≤ b.back) × ((edge_of dss).ahead ≤ b.ahead)
unfolding edge_of
edge_least [] b h = (omega arith, omega arith)
edge_least (ds ∷ dss) b h =
    let rest = edge_least dss b (λ es m. h es (Memᴰ.tail m)) in
    let here = h ds (Memᴰ.head refl) in
    (omega (arith, rest.0, below_of b (first_index ds) here), omega (arith, rest.1, above_of b (first_index ds) here))

-- ---- a box

-- a bound as an index
abbrev lowest_of : ℕ → ℤ
lowest_of zero = pos 0
lowest_of (suc n) = negsuc n

lowest_within : (b : Bound) → Within b (lowest_of b.back)
lowest_within b = by b.back refl
  where
    by : (n : ℕ) → b.back ≡ n → Within b (lowest_of n)
    by zero e = omega arith
    by (suc n) e = omega arith

below_lowest : (n : ℕ) → below (lowest_of n) ≡ n
below_lowest zero = refl
below_lowest (suc n) = refl

module _ (b : Bound) (bs : List Bound) where
  -- 0 in each other dimension
  abbrev others : List ℤ
  others = zeros {A = ℕ} (replicate (length bs) 0)

  within_box : (d : ℤ) → Within b d → Memᴰ (d ∷ others) (box_indices (b ∷ bs))
  within_box d w = (mem_box (b ∷ bs) (d ∷ others)).1 (w, zeros_within (replicate (length bs) 0) bs (alike_length {A = ℕ} (replicate (length bs) 0) bs (sym (length-replicate {A = ℕ} (length bs) 0))))

  first_within : (ds : List ℤ) → AllWithin (b ∷ bs) ds → Within b (first_index ds)
  first_within [] w = absurd w
  first_within (d ∷ ds) w = w.0

  -- The edge of a box is its bound in the first dimension.
  pub edge_box : edge_of (box_indices (b ∷ bs)) ≡ b
  edge_box =
      let e = edge_of (box_indices (b ∷ bs)) in
      let most = edge_least (box_indices (b ∷ bs)) b (λ ds m. first_within ds ((mem_box (b ∷ bs) ds).0 m)) in
      let low = below_of e (lowest_of b.back) (edge_holds (box_indices (b ∷ bs)) (lowest_of b.back ∷ others) (within_box (lowest_of b.back) (lowest_within b))) in
      let high = above_of e (pos b.ahead) (edge_holds (box_indices (b ∷ bs)) (pos b.ahead ∷ others) (within_box (pos b.ahead) (omega arith))) in
      ap₂ (λ (x y : ℕ). record { back = x; ahead = y }) (omega (arith, most.0, low, below_lowest b.back)) (omega (arith, most.1, high))

-- ---- a program

module _ (p : Program) where
  -- the reach lies in the box
  in_box : (ds : List ℤ) → Memᴰ ds (reach p) → Memᴰ ds (box_indices (box p))
  unfolding reach
  in_box ds = by (places p) refl
    where
      by : (o : Option (List (List ℤ))) → places p ≡ o → Memᴰ ds (reach_from (box p) o) → Memᴰ ds (box_indices (box p))
      by none e m = m
      by (some ps) e m = (mem_box (box p) ds).1 (places_within p ps e ds m)

  -- Every index of the reach is within the border rows in the first dimension, and has one index for each other.
  pub edged : (n : ℕ) (ns : List ℕ) → length (n ∷ ns) ≡ p.dims → (ds : List ℤ) → Memᴰ ds (reach p) → Edged (edge p) ns ds
  unfolding edge
  edged n ns e ds m =
      by ds (box_alike (n ∷ ns) (box p) (alike_length (n ∷ ns) (box p) (box_length p ∙ sym e)) ds (in_box ds m)) (edge_holds (reach p) ds m)
    where
      by : (ds : List ℤ) → Alike (n ∷ ns) ds → Within (edge_of (reach p)) (first_index ds) → Edged (edge_of (reach p)) ns ds
      by [] a w = absurd a
      by (d ∷ ds) a w = (w, a)

  -- The border rows are no more than the box has in the first dimension.
  pub edge_in_box : (b : Bound) (bs : List Bound) → box p ≡ b ∷ bs → ((edge p).back ≤ b.back) × ((edge p).ahead ≤ b.ahead)
  unfolding edge
  edge_in_box b bs e =
      edge_least (reach p) b (λ ds m. first_within b bs ds ((mem_box (b ∷ bs) ds).0 (subst (λ (cs : List Bound). Memᴰ ds (box_indices cs)) e (in_box ds m))))

  -- Under any accepted plan a step leaves the grid and gives the fault and count that the step of the whole grid does.
  pub step_under_program : Flagged p → (n : ℕ) (ns : List ℕ) → Positive ns → length (n ∷ ns) ≡ p.dims → (held : ℕ) (plan : List Band) → accepts n (edge p) held plan ≡ true
      → (g : List ℤ) (t : ℕ) → step_under ns (length p.fields) (evaluate p) n (edge p) plan g t ≡ step_of (running p (n ∷ ns)) g t
  unfolding running
  step_under_program flagged n ns positive e held plan a g t =
      step_under_is n ns positive (length p.fields) p.timed (reach p) (evaluate p) (evaluate_bounded p (reach p) (reach_covers p) flagged) (edge p) (edged n ns e) held plan a g t
