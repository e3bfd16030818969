-- The laws of the two ways: both lead from a changed cell to the cells that have it in their reach.
use Prim.Native.Nat.{ℕ, zero, suc, ◌*◌, ◌<◌, ◌≤◌, min}
use native.Mathlib.Omega.{arith}
use mathlib.Core.Path.{◌≡◌, refl, sym, ap, ◌∙◌, subst}
use mathlib.Core.Logic.{◌↔◌}
use mathlib.Core.List.Memᴰ
use mathlib.Core.List.{List, [], ◌∷◌, map, Memᴰ}
use mathlib.Core.Option.{some}
use lib.IntN.{ℤ}
use lib.ListN.{length, get_or, length-map}
use borrow.Author.Tests.{lt-ltb, le-ltb}
use Rattle.automaton.specs.Listed.{list_of}
use Rattle.automaton.specs.Promises.ListedLaws.{length_list_of, get_or_list_of, of_mem_list_of}
use Rattle.automaton.specs.Shape.{product, Bound, width, box_indices, reach_of, neighbour, coordinates}
use Rattle.automaton.specs.Promises.ShapeLaws.{Alike}
use Rattle.automaton.proofs.ShapeLaws.{alike_length, reach_opens, box_alike}
use Rattle.run_meaning.specs.Reach.{own_only, reach_from}
use Rattle.run_meaning.specs.Promises.Fitting.{bound_at, bounds_of, place_at, places_of}
use Rattle.run_meaning.proofs.Theorems.Cutting.{Counting, counting_start, counting_more}
use Rattle.run_meaning.specs.declared.Bounds.{Bounds}
use Rattle.run_meaning.specs.declared.Reach.{Reach}
use Rattle.run_place_marks.specs.Promises.Placing.{Backs}
use Rattle.run_place_marks.proofs.BackLaws.{step_inside, steps_open}
use Rattle.run_marking.specs.Promises.Opened.{indices_of, Ways, WayOf}
use Rattle.run_marking.specs.Promises.Noting.{Prepared, cells_back, Led}
use Rattle.run_marking.proofs.BoxLaws.{opens_reach}
use Rattle.run_marking.proofs.OpenLaws.{by_list, by_box}

-- ---- how many index vectors the box has

module _ (bounds : Bounds) (dims : ℕ) where
  abbrev widths : List ℕ
  widths = map width (bounds_of bounds dims)

  widths_length : length widths ≡ dims
  widths_length = length-map (bounds_of bounds dims) width ∙ length_list_of (bound_at bounds) dims

  width_is : (k : ℕ) → k < dims → get_or widths k 0 ≡ width (bound_at bounds k)
  width_is k l = go (bounds_of bounds dims) k (omega (arith, length_list_of (bound_at bounds) dims)) ∙ ap width (get_or_list_of (bound_at bounds) dims k own_only l)
    where
      go : (bs : List Bound) (k : ℕ) → k < length bs → get_or (map width bs) k 0 ≡ width (get_or bs k own_only)
      go [] k l = absurd (omega arith)
      go (b ∷ bs) zero l = refl
      go (b ∷ bs) (suc k) l = go bs k (omega arith)

  pub box_start : Counting widths 1 dims
  box_start = counting_start widths dims (sym widths_length)

  pub box_more : (total d j : ℕ) {n m : ℕ} → Counting widths total d → d ≡ suc j → n ≡ min 257 (width (bound_at bounds j)) → m ≡ min 257 (n * total) → Counting widths m j
  box_more total d j c e en em = counting_more widths total d j c e (en ∙ ap (min 257) (sym (width_is j (omega (arith, c.low, widths_length))))) em

-- ---- the ways

-- the same index vectors give the same reach
reach_mem : (ns : List ℕ) (dss ess : List (List ℤ)) (c x : ℕ) → ((ds : List ℤ) → Memᴰ ds dss → Memᴰ ds ess) → Memᴰ x (reach_of ns dss c) → Memᴰ x (reach_of ns ess c)
unfolding reach_of
reach_mem ns dss ess c x h m =
    let r = Memᴰ.of_map (neighbour ns c) dss m in
    subst (λ (y : ℕ). Memᴰ y (map (neighbour ns c) ess)) r.2 (Memᴰ.map (neighbour ns c) (h r.0 r.1))

module _ (sizes : List ℕ) (bounds : Bounds) (p : Prepared sizes bounds) where
  abbrev bs : List Bound
  bs = bounds_of bounds (length sizes)

  like : Alike sizes bs
  like = alike_length sizes bs (length_list_of (bound_at bounds) (length sizes))

  -- by the box
  ways_box : (steps : List ℕ) (dss : List (List ℤ)) → ((ds : List ℤ) → Memᴰ ds dss ↔ Memᴰ ds (box_indices bs)) → Ways sizes bounds steps 257 dss
  ways_box steps dss same = record {
    alike = λ ds m. box_alike sizes bs like ds ((same ds).0 m);
    leads = λ c x lc lx.
        let o = opens_reach sizes bs (bound_at bounds) p.positive like (λ k l. get_or_list_of (bound_at bounds) (length sizes) k own_only l) (λ k l. (p.near k l).1) c x lc lx in
        let e = by_box sizes bounds steps 257 x (omega arith) in (
          λ m. subst (Memᴰ c) (sym e) (o.1 (reach_mem sizes dss (box_indices bs) c x (λ ds. (same ds).0) m)),
          λ m. reach_mem sizes (box_indices bs) dss c x (λ ds. (same ds).1) (o.0 (subst (Memᴰ c) e m)),
        );
  }

  -- by the places of a list
  ways_list : (steps : List ℕ) (places : List (List ℕ)) (count : ℕ) → count ≤ 256 → length steps ≡ 768 → {steps₀ : List ℕ} → Backs sizes places 0 count steps₀ steps
      → Ways sizes bounds steps count (list_of (place_at places (length sizes)) count)
  unfolding cells_back
  ways_list steps places count few size b = record {
    alike = alike;
    leads = λ c x lc lx.
        let o = reach_opens sizes p.positive dss alike c x lc lx in
        let e = by_list sizes bounds steps count x (omega arith) ∙ steps_open sizes p.dims p.positive p.cells x lx (coordinates sizes x) steps places count few size (λ d l. refl) b in
        (λ m. subst (Memᴰ c) (sym e) (o.0 m), λ m. o.1 (subst (Memᴰ c) e m));
  }
    where
      dss : List (List ℤ)
      dss = list_of (place_at places (length sizes)) count

      alike : (ds : List ℤ) → Memᴰ ds dss → Alike sizes ds
      alike ds m =
          let r = of_mem_list_of (place_at places (length sizes)) count ds m in
          subst (Alike sizes) (sym r.2) (alike_length sizes (place_at places (length sizes) r.0) (length_list_of _ (length sizes)))

-- ---- the way of a reach record

no_led : (sizes steps : List ℕ) → length steps ≡ 768 → Led sizes steps 257
no_led sizes steps e = record { size = e; inside = λ l. absurd (omega arith) }

module _ (sizes : List ℕ) (r : Reach) (p : Prepared sizes r.bounds) (steps : List ℕ) (size : length steps ≡ 768) where
  places_are : r.count ≤ 256 → places_of r (length sizes) ≡ some (list_of (place_at r.places (length sizes)) r.count)
  places_are l = rw (le-ltb 256 r.count l)

  indices_are : r.count ≤ 256 → indices_of r (length sizes) ≡ list_of (place_at r.places (length sizes)) r.count
  indices_are l = ap (reach_from (bounds_of r.bounds (length sizes))) (places_are l)

  pub way_past : 256 < r.count → WayOf sizes r steps 257
  way_past l =
      let e : indices_of r (length sizes) ≡ box_indices (bounds_of r.bounds (length sizes)) = rw (lt-ltb 256 r.count l) in
      record {
        led = no_led sizes steps size;
        ways = λ s. ways_box sizes r.bounds p steps (indices_of r (length sizes)) (λ ds. subst (λ (dss : List (List ℤ)). Memᴰ ds dss ↔ Memᴰ ds (box_indices (bounds_of r.bounds (length sizes)))) (sym e) (λ m. m, λ m. m));
      }

  pub way_full : r.count ≤ 256 → {n : ℕ} → n ≡ min 257 (product (map width (bounds_of r.bounds (length sizes)))) → r.count ≡ n → WayOf sizes r steps 257
  way_full l {n} en e = record {
    led = no_led sizes steps size;
    ways = λ s.
        ways_box sizes r.bounds p steps (indices_of r (length sizes))
        (λ ds. subst (λ (dss : List (List ℤ)). Memᴰ ds dss ↔ Memᴰ ds (box_indices (bounds_of r.bounds (length sizes)))) (sym (indices_are l))
        (s.full _ (places_are l) (length_list_of _ r.count ∙ omega (arith, en, e, l)) ds));
  }

  pub way_list : r.count ≤ 256 → {steps₀ : List ℕ} → Backs sizes r.places 0 r.count steps₀ steps → WayOf sizes r steps r.count
  way_list l b = record {
    led = record { size = size; inside = λ few k lk. step_inside sizes steps (3 * k) _ p.positive (b.each k (omega arith) lk) };
    ways = λ s. subst (Ways sizes r.bounds steps r.count) (sym (indices_are l)) (ways_list sizes r.bounds p steps r.places r.count l size b);
  }
