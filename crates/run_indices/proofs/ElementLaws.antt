-- The laws of the elements of a relative index.
use Prim.Native.Nat.{ℕ, suc, ◌+◌, ◌-◌, ◌*◌, ◌<◌, ◌≤◌}
use native.Mathlib.Omega.{arith}
use mathlib.Core.Path.{◌≡◌, refl, sym, ap, ap₂, ◌∙◌}
use mathlib.Core.Bool.{Bool, true, false, ◌&&◌}
use mathlib.Core.List.{List, [], ◌∷◌, append-nil}
use mathlib.Core.Option.{Option, none, some}
use lib.Dec.{eqb, ltb}
use lib.IntN.{ℤ, pos}
use lib.ListN.{get_or, get_or-eq_default}
use borrow.Author.Tests.{ltb-true, ltb-false}
use Rattle.value.specs.Limits.{most_places}
use Rattle.std.specs.Prelude.{if◌then◌else◌}
use Rattle.value.specs.Worked.{decode_of}
use Rattle.automaton.specs.Promises.ListedLaws.{length_list_of, get_or_list_of}
use Rattle.program.specs.Syntax.{Range, range, no_range, Index, fixed, moving}
use Rattle.cell_meaning.specs.Evaluation.{entry, offset}
use Rattle.cell_meaning.specs.Written.{Relative, values_of, place_of, written_in_index, written_of}
use Rattle.cell_meaning.specs.Promises.Stands.{rule_table, index_in, next_index, indices_in}
use Rattle.cell_meaning.specs.Links.{Table}
use Rattle.cell_meaning.specs.Places.{used_ranges, choice_count, vectors_of, add_places, add_relative, add_relatives}
use Rattle.run_meaning.specs.declared.Bounds.{Bounds}
use Rattle.run_meaning.specs.declared.Reach.{Reach}
use Rattle.program.specs.declared.Rule.{Rule}
use Rattle.run_meaning.specs.Promises.Fitting.{bounds_of, places_of}
use Rattle.run_places.specs.Promises.Vectors.{vector_values, ends, loops_of, index_places, relative_at, IndexReach}
use Rattle.run_places.specs.Promises.Widening.{joined, Widens}
use Rattle.run_indices.specs.declared.Count.{Count}
use Rattle.run_indices.specs.declared.Survey.{Survey}
use Rattle.run_indices.specs.Promises.Surveying.{Tally, tallied, tally, far_of, tally_of, found, survey_of, Counts}
use Rattle.run_indices.proofs.CountingLaws.{counts_tallied}

-- ---- the values of an element

-- by the words of its lowest and its highest value
pub element_ends : (lows highs : List ℕ) (depth : ℕ) (i : Index) (low high : ℕ) → decode_of low ≡ offset (vector_values lows depth) i → decode_of high ≡ offset (vector_values highs depth) i
    → ends low high ≡ values_of (loops_of lows highs depth) i
element_ends lows highs depth (fixed p z) low high a b = ap₂ range a b
element_ends lows highs depth (moving p d) low high a b = ap₂ range a b ∙ by (ltb d depth) refl
  where
    by : (t : Bool) → ltb d depth ≡ t → range (entry (vector_values lows depth) d) (entry (vector_values highs depth) d) ≡ get_or (loops_of lows highs depth) d no_range
    by true e =
        let l = ltb-true d depth e in
        ap₂ range (get_or_list_of (λ k. decode_of (get_or lows k 0)) depth d (pos 0) l) (get_or_list_of (λ k. decode_of (get_or highs k 0)) depth d (pos 0) l)
        ∙ sym (get_or_list_of (λ k. ends (get_or lows k 0) (get_or highs k 0)) depth d no_range l)
    by false e =
        let l = ltb-false d depth e in
        ap₂ range (get_or-eq_default (vector_values lows depth) (pos 0) {n = d} (omega (arith, length_list_of (λ k. decode_of (get_or lows k 0)) depth)))
        (get_or-eq_default (vector_values highs depth) (pos 0) {n = d} (omega (arith, length_list_of (λ k. decode_of (get_or highs k 0)) depth)))
        ∙ sym (get_or-eq_default (loops_of lows highs depth) no_range {n = d} (omega (arith, length_list_of (λ k. ends (get_or lows k 0) (get_or highs k 0)) depth)))

place_here : (t : Table) (at : ℕ) → place_of (index_in t at) ≡ t.place at
unfolding index_in
place_here t at = go (eqb (t.kind at) 1 && eqb (t.word2 at) 5)
  where
    go : (b : Bool) → place_of (if b then moving (t.place at) (t.word3 at) else fixed (t.place at) (decode_of (t.word3 at))) ≡ t.place at
    go true = refl
    go false = refl

-- ---- one element after the other

module _ (t : Table) (loops : List Range) (sizes : List ℕ) (dims : ℕ) where
  -- the first k are counted
  pub record Steps (s : Count) (at : ℕ) (now : Count) (here k : ℕ) : Type 0 where
    pub turn : k ≤ dims
    pub near : here ≤ at + 3 * k
    pub says : tally sizes (tally_of s dims) (written_in_index loops 0 (indices_in t dims at))
        ≡ tally sizes (tally_of now dims) (written_in_index loops k (indices_in t (dims - k) here))

  pub steps_start : (s : Count) (at : ℕ) → Steps s at s at 0
  steps_start s at =
      let e : dims ≡ dims - 0 = omega arith in
      record { turn = omega arith; near = omega arith; says = ap (λ (m : ℕ). tally sizes (tally_of s dims) (written_in_index loops 0 (indices_in t m at))) e }

  module _ {s : Count} {at : ℕ} {now : Count} {here k : ℕ} (so : Steps s at now here k) where
    pub steps_more : dims ≤ 3 → k < dims → {place low high : ℕ} {r : Count} {there : ℕ} → ends low high ≡ values_of loops (index_in t here) → place ≡ t.place here
        → Counts now (get_or sizes k 0) place k low high r → (there ≡ next_index t here) × (there ≤ here + 3) → Steps s at r there (k + 1)
    unfolding written_in_index indices_in tally
    steps_more few l {place} {low} {high} {r} {there} ev ep c e =
        let n = so.near in
        let m = e.1 in
        let d : dims - k ≡ suc (dims - suc k) = omega arith in
        let f : k + 1 ≡ suc k = omega arith in
        let p : place ≡ place_of (index_in t here) = ep ∙ sym (place_here t here) in
        let q : tally_of r dims ≡ tallied sizes (tally_of now dims) (record { place = place_of (index_in t here); dim = k; values = values_of loops (index_in t here) }) =
        counts_tallied sizes dims c l few ev ∙ ap (λ (x : ℕ). tallied sizes (tally_of now dims) (record { place = x; dim = k; values = values_of loops (index_in t here) })) p
        in
        record {
          turn = omega arith;
          near = omega arith;
          says = so.says ∙ rw (d, f, e.0, q);
        }

    pub steps_done : dims ≤ k → tally_of now dims ≡ tally sizes (tally_of s dims) (written_in_index loops 0 (indices_in t dims at))
    unfolding written_in_index indices_in tally
    steps_done l = let d : dims - k ≡ 0 = omega arith in sym (so.says ∙ rw d)

-- ---- a relative index

joined_relative : (dims : ℕ) (o : Option (List (List ℤ))) (r : Relative) → joined o (index_places dims r) ≡ add_relative dims o r
unfolding index_places add_relative
joined_relative dims o r = by (ltb most_places (choice_count (used_ranges r.loops r.elements)))
  where
    by : (b : Bool) → joined o (if b then none else some (vectors_of dims r)) ≡ (if b then none else add_places o (vectors_of dims r))
    by true = refl
    by false = refl

-- its elements are counted, and its places added
pub index_found : (words : List ℕ) (rule : Rule) (sizes : List ℕ) (loops : List Range) (at : ℕ) (s : Survey) (c : Count) {index wider : Reach}
    → tally_of c rule.dims ≡ tally sizes (tally_of (record { far = s.far; bounds = s.reach.bounds }) rule.dims) (written_in_index loops 0 (indices_in (rule_table words rule) rule.dims at))
    → IndexReach words rule loops at c.bounds index → Widens s.reach index rule.dims wider
    → survey_of (record { far = c.far; reach = wider }) rule.dims ≡ found sizes rule.dims (survey_of s rule.dims) (relative_at words rule loops at ∷ [])
unfolding written_of add_relatives
index_found words rule sizes loops at s c {index} {wider} e i w =
    ap₂ (λ (t : Tally) (o : Option (List (List ℤ))). record { tally = t; places = o })
    (ap (λ (b : Bounds). record { far = far_of c.far; bounds = bounds_of b rule.dims }) (w.bounded ∙ i.bounded) ∙ e
    ∙ ap (tally sizes (survey_of s rule.dims).tally) (sym (append-nil (written_in_index loops 0 (indices_in (rule_table words rule) rule.dims at)))))
    (w.places ∙ ap (joined (places_of s.reach rule.dims)) i.places ∙ joined_relative rule.dims (places_of s.reach rule.dims) (relative_at words rule loops at))
