-- The border rows of a reach, place by place or by its box.
use Prim.Native.Nat.{ℕ, zero, suc, max, ◌+◌, ◌<◌, ◌≤◌}
use native.Mathlib.Numerals.{add-one}
use native.Mathlib.Omega.{arith}
use mathlib.Core.Path.{◌≡◌, refl, sym, ap, ap₂, ◌∙◌}
use mathlib.Core.Bool.{Bool}
use mathlib.Core.List.{List, [], ◌∷◌, ◌++◌}
use mathlib.Core.Option.{none, some}
use lib.ListN.{get_or}
use lib.IntN.{ℤ, pos}
use borrow.Author.Tests.{lt-ltb, le-ltb}
use Rattle.value.specs.Limits.{most_places}
use Rattle.std.specs.Prelude.{if◌then◌else◌}
use Rattle.value.specs.Worked.{decode_of}
use Rattle.automaton.specs.Listed.{list_of}
use Rattle.automaton.specs.Promises.ListedLaws.{get_or_list_of}
use Rattle.automaton.specs.Shape.{Bound, box_indices}
use Rattle.program.specs.Syntax.{range}
use Rattle.run_meaning.specs.declared.Reach.{Reach}
use Rattle.run_meaning.specs.Reach.{below, above, widen, reach_from}
use Rattle.run_meaning.specs.Promises.Fitting.{bound_at, bounds_of, place_at, places_of}
use Rattle.band_meaning.specs.Edge.{first_index, edge_of}
use Rattle.band_meaning.proofs.Theorems.EdgeTheorems.{edge_box}
use Rattle.band_planner.specs.declared.borders.Border.{Border}
use Rattle.band_meaning.specs.Bounds.{bound}
use Rattle.band_planner.specs.Promises.Borders.{border_of, WidensBorder, ListedBorder, BordersOf}

-- one index more
pub widens : {b : Border} {word : ℕ} {r : Border} → r.before ≡ max b.before (below (decode_of word)) → r.behind ≡ max b.behind (above (decode_of word))
    → WidensBorder b word r
widens e f = record { is = ap₂ bound e f }

-- ---- places

-- one index vector more, behind the others
edge_more : (dss : List (List ℤ)) (ds : List ℤ) → edge_of (dss ++ (ds ∷ [])) ≡ widen (edge_of dss) (range (first_index ds) (first_index ds))
unfolding edge_of
edge_more [] ds = refl
edge_more (es ∷ dss) ds = rw (edge_more dss ds) (ap₂ (λ (x y : ℕ). record { back = x; ahead = y }) (omega arith) (omega arith))

first_is : (ds : List ℤ) → first_index ds ≡ get_or ds 0 (pos 0)
first_is [] = refl
first_is (d ∷ ds) = refl

-- the first index of a place is that of its first word
place_first : (places : List (List ℕ)) (dims k : ℕ) → 0 < dims → first_index (place_at places dims k) ≡ decode_of (get_or (get_or places k []) 0 0)
place_first places dims k l = first_is (place_at places dims k) ∙ get_or_list_of (λ d. decode_of (get_or (get_or places k []) d 0)) dims 0 (pos 0) l

pub no_places : (places : List (List ℕ)) (dims : ℕ) → bound 0 0 ≡ edge_of (list_of (place_at places dims) 0)
unfolding list_of edge_of
no_places places dims = refl

pub place_more : (places : List (List ℕ)) (k : ℕ) {b r : Border} → ((dims : ℕ) → 0 < dims → border_of b ≡ edge_of (list_of (place_at places dims) k)) → WidensBorder b (get_or (get_or places k []) 0 0) r
    → (dims : ℕ) → 0 < dims → border_of r ≡ edge_of (list_of (place_at places dims) (k + 1))
unfolding list_of
place_more places k h w dims l =
    w.is ∙ ap₂ (λ (x : Bound) (z : ℤ). widen x (range z z)) (h dims l) (sym (place_first places dims k l)) ∙ sym (edge_more (list_of (place_at places dims) k) (place_at places dims k))
    ∙ ap (λ (n : ℕ). edge_of (list_of (place_at places dims) n)) (sym (add-one k))

pub all_places : {places : List (List ℕ)} {count k : ℕ} {r : Border} → ((dims : ℕ) → 0 < dims → border_of r ≡ edge_of (list_of (place_at places dims) k)) → k ≡ count → ListedBorder places count r
all_places {places} h e = record { is = λ dims l. h dims l ∙ ap (λ (n : ℕ). edge_of (list_of (place_at places dims) n)) e }

-- ---- a reach

-- too many places: the box
module _ (reach : Reach) where
  pub first_bound : (dims : ℕ) → (bs : List Bound) × (list_of (bound_at reach.bounds) (suc dims) ≡ bound_at reach.bounds 0 ∷ bs)
  unfolding list_of
  first_bound zero = ([], refl)
  first_bound (suc dims) = let x = first_bound dims in (x.0 ++ (bound_at reach.bounds (suc dims) ∷ []), ap (λ (l : List Bound). l ++ (bound_at reach.bounds (suc dims) ∷ [])) x.1)

  pub box_border : 256 < reach.count → BordersOf reach (record { before = (bound_at reach.bounds 0).back; behind = (bound_at reach.bounds 0).ahead })
  box_border l = record { is = by }
    where
      by : (dims : ℕ) → 0 < dims → bound_at reach.bounds 0 ≡ edge_of (reach_from (bounds_of reach.bounds dims) (places_of reach dims))
      by zero z = absurd (omega arith)
      by (suc dims) z =
          let x = first_bound dims in
          sym (ap (λ (t : Bool). edge_of (reach_from (bounds_of reach.bounds (suc dims)) (if t then none else some (list_of (place_at reach.places (suc dims)) reach.count)))) (lt-ltb most_places reach.count l)
          ∙ ap (λ (bs : List Bound). edge_of (box_indices bs)) x.1 ∙ edge_box (bound_at reach.bounds 0) x.0)

  pub list_border : reach.count ≤ 256 → {r : Border} → ListedBorder reach.places reach.count r → BordersOf reach r
  list_border l x = record {
    is = λ dims z.
        x.is dims z
        ∙ ap (λ (t : Bool). edge_of (reach_from (bounds_of reach.bounds dims) (if t then none else some (list_of (place_at reach.places dims) reach.count)))) (sym (le-ltb most_places reach.count l));
  }
