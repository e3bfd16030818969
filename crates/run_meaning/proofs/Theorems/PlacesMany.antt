-- Where no list of places is given, there are more than 256.
use Prim.Native.Nat.{ℕ, zero, suc, ◌≤◌, ◌<◌}
use native.Mathlib.Omega.{arith}
use mathlib.Core.Path.{◌≡◌, refl, sym, ap, ap₂, ◌∙◌, subst}
use mathlib.Core.Logic.{◌⊎◌, inl, inr}
use mathlib.Core.Bool.{Bool, true, false, ◌||◌}
use mathlib.Core.List.Memᴰ
use mathlib.Core.List.{List, [], ◌∷◌, ◌++◌, map, Memᴰ}
use mathlib.Core.Option.{Option, none, some}
use lib.ListN.{length, get_or, length-append, get_or-eq_default}
use lib.Seq.{ext_get_or}
use lib.Dec.{eqb, leb, ltb}
use borrow.Author.Tests.{eqb-true, leb-true, ltb-true, ltb-false}
use lib.IntN.{ℤ, pos, negsuc, ◌+ℤ◌, ◌-ℤ◌, +ℤ_comm, +ℤ-neg_ℤ_cancel}
use Rattle.value.specs.Limits.{most_places}
use Rattle.value.proofs.Theorems.Laws.{never, and_both}
use Rattle.automaton.specs.Listed.{list_of}
use Rattle.automaton.specs.Promises.ListedLaws.{length_list_of, get_or_list_of, of_mem_list_of}
use Rattle.automaton.specs.Shape.{cell_number}
use Rattle.automaton.specs.Promises.ShapeLaws.{Inside}
use Rattle.automaton.proofs.ShapeLaws.{coordinates_inside, number_coordinates}
use Rattle.program.specs.Syntax.{Range, no_range, Index, fixed, moving, Program}
use Rattle.cell_meaning.specs.Evaluation.{entry, offsets, in_field}
use Rattle.cell_meaning.specs.Written.{Relative, relatives_in}
use Rattle.cell_meaning.specs.Places.{uses, used_range, used_ranges, span, values_at, choice_at, choice_count, vectors_of, has_place, add_place, add_places, add_relative, add_relatives, own_place, places}
use Rattle.run_meaning.proofs.Theorems.Locality.{All, InRanges, in_at}
use Rattle.run_meaning.proofs.Theorems.Covering.{added, if_few, in_length}
use Rattle.run_meaning.proofs.Theorems.PlacesLaws.{Distinct, distinct_more, not_place, positive_of, choice_in, Readable, taken_all}

-- ---- the index vectors of one relative index are pairwise different

-- an index vector tells the values of the variables that stand in it, if it has no more elements than there are dimensions
offsets_tell : (dims : ℕ) (vs ws : List ℤ) (is : List Index) → length is ≤ dims → offsets dims vs is ≡ offsets dims ws is → (k : ℕ) → uses k is ≡ true → entry vs k ≡ entry ws k
unfolding offsets
offsets_tell dims vs ws [] l e k u = never u
offsets_tell zero vs ws (i ∷ is) l e k u = absurd (omega arith)
offsets_tell (suc dims) vs ws (fixed p z ∷ is) l e k u =
    let t : offsets dims vs is ≡ offsets dims ws is = cc in offsets_tell dims vs ws is (omega arith) t k u
offsets_tell (suc dims) vs ws (moving p d ∷ is) l e k u = go (eqb d k) refl u (offsets_tell dims vs ws is (omega arith) tails k)
  where
    heads : entry vs d ≡ entry ws d
    heads = cc

    tails : offsets dims vs is ≡ offsets dims ws is
    tails = cc

    go : (t : Bool) → eqb d k ≡ t → (t || uses k is) ≡ true → (uses k is ≡ true → entry vs k ≡ entry ws k) → entry vs k ≡ entry ws k
    go true q u rest = subst (λ (n : ℕ). entry vs n ≡ entry ws n) (eqb-true d k q) heads
    go false q u rest = rest u

zero_alone : (z : ℤ) → in_field no_range z ≡ true → z ≡ pos 0
zero_alone (pos zero) e = refl
zero_alone (pos (suc n)) e = absurd (let l = leb-true (suc n) 0 (and_both (leb 0 (suc n)) (leb (suc n) 0) e).1 in omega arith)
zero_alone (negsuc n) e = never e

-- a variable that does not stand there has 0
unused_zero : (loops : List Range) (is : List Index) (vs : List ℤ) → InRanges (used_ranges loops is) vs → (k : ℕ) → uses k is ≡ false → entry vs k ≡ pos 0
unused_zero loops is vs h k u = zero_alone (entry vs k) (subst (λ (r : Range). in_field r (entry vs k) ≡ true) (by (ltb k (length loops)) refl) (in_at (used_ranges loops is) vs h k))
  where
    by : (t : Bool) → ltb k (length loops) ≡ t → get_or (used_ranges loops is) k no_range ≡ no_range
    by true e = get_or_list_of (used_range loops is) (length loops) k no_range (ltb-true k (length loops) e) ∙ rw u refl
    by false e =
        get_or-eq_default (used_ranges loops is) no_range {n = k} (omega (arith, length_list_of (used_range loops is) (length loops), ltb-false k (length loops) e))

values_same : (loops : List Range) (is : List Index) (vs ws : List ℤ) → InRanges (used_ranges loops is) vs → InRanges (used_ranges loops is) ws
    → ((k : ℕ) → uses k is ≡ true → entry vs k ≡ entry ws k) → vs ≡ ws
values_same loops is vs ws h g e =
    ext_get_or (pos 0) vs ws (in_length (used_ranges loops is) vs h ∙ sym (in_length (used_ranges loops is) ws g)) (λ k l. by k (uses k is) refl)
  where
    by : (k : ℕ) (t : Bool) → uses k is ≡ t → entry vs k ≡ entry ws k
    by k true u = e k u
    by k false u = unused_zero loops is vs h k u ∙ sym (unused_zero loops is ws g k u)

add_same : (z : ℤ) (k j : ℕ) → z +ℤ pos k ≡ z +ℤ pos j → k ≡ j
add_same z k j e = inside (sym (less k) ∙ ap (λ (x : ℤ). x -ℤ z) e ∙ less j)
  where
    less : (n : ℕ) → z +ℤ pos n -ℤ z ≡ pos n
    less n = ap (λ (x : ℤ). x -ℤ z) (+ℤ_comm z (pos n)) ∙ +ℤ-neg_ℤ_cancel (pos n) z

    inside : pos k ≡ pos j → k ≡ j
    inside q = cc

numbers_same : (rs : List Range) (ks js : List ℕ) → Inside (map span rs) ks → Inside (map span rs) js → values_at rs ks ≡ values_at rs js → ks ≡ js
numbers_same [] [] [] h g e = refl
numbers_same (r ∷ rs) (k ∷ ks) (j ∷ js) h g e =
    let first : r.low +ℤ pos k ≡ r.low +ℤ pos j = cc in
    let rest : values_at rs ks ≡ values_at rs js = cc in
    ap₂ (λ (x : ℕ) (xs : List ℕ). x ∷ xs) (add_same r.low k j first) (numbers_same rs ks js h.1 g.1 rest)
numbers_same [] [] (j ∷ js) h g e = elim g [ ]
numbers_same [] (k ∷ ks) js h g e = elim h [ ]
numbers_same (r ∷ rs) [] js h g e = elim h [ ]
numbers_same (r ∷ rs) (k ∷ ks) [] h g e = elim g [ ]

choices_differ : (rs : List Range) (e e' : ℕ) → e < choice_count rs → e' < choice_count rs → choice_at rs e ≡ choice_at rs e' → e ≡ e'
choices_differ rs e e' l l' q =
    let h = positive_of (map span rs) e l in
    sym (number_coordinates (map span rs) e h l)
    ∙ ap (cell_number (map span rs)) (numbers_same rs _ _ (coordinates_inside (map span rs) e h l) (coordinates_inside (map span rs) e' h l') q)
    ∙ number_coordinates (map span rs) e' h l'

distinct_list_of : {A : Type 0} (g : ℕ → A) (n : ℕ) → ((e e' : ℕ) → e < n → e' < n → g e ≡ g e' → e ≡ e') → Distinct (list_of g n)
unfolding list_of
distinct_list_of g zero h = tt
distinct_list_of g (suc n) h =
    distinct_more (list_of g n) (g n) (distinct_list_of g n (λ e e' l l' q. h e e' (omega arith) (omega arith) q))
    (λ m. let r = of_mem_list_of g n (g n) m in absurd (let q = h n r.0 (omega arith) (omega (arith, r.1)) r.2 in omega (arith, r.1, q)))

pub vectors_differ : (dims : ℕ) (r : Relative) → length r.elements ≤ dims → Distinct (vectors_of dims r)
unfolding vectors_of
vectors_differ dims r l =
    distinct_list_of _ (choice_count rs)
    (λ e e' k k' q. choices_differ rs e e' k k' (values_same r.loops r.elements _ _ (choice_in rs e k) (choice_in rs e' k') (offsets_tell dims _ _ r.elements l q)))
  where
    rs : List Range
    rs = used_ranges r.loops r.elements

-- ---- no list: too many

-- more than 256 different index vectors of which P holds
pub record Many (P : List ℤ → Type 0) : Type 0 where
  pub some_of : List (List ℤ)
  pub distinct : Distinct some_of
  pub many : most_places < length some_of
  pub each : (x : List ℤ) → Memᴰ x some_of → P x

module _ (P : List ℤ → Type 0) where
  -- what is known of a list, if there is one; else there are too many
  Known : Option (List (List ℤ)) → Type 0
  Known none = Many P
  Known (some ps) = Distinct ps × ((x : List ℤ) → Memᴰ x ps → P x)

  place_known : (o : Option (List (List ℤ))) (ds : List ℤ) → P ds → Known o → Known (add_place o ds)
  unfolding add_place Known
  place_known none ds q h = h
  place_known (some ps) ds q h = go (has_place ps ds) refl (leb most_places (length ps)) refl
    where
      both : (x : List ℤ) → Memᴰ x ps ⊎ Memᴰ x (ds ∷ []) → P x
      both x (inl m) = h.1 x m
      both x (inr m) = subst P (sym (Memᴰ.eq_of_singleton m)) q

      go : (t : Bool) → has_place ps ds ≡ t → (u : Bool) → leb most_places (length ps) ≡ u → Known (added ps ds t u)
      go true e u v = h
      go false e true v =
          record {
            some_of = ps ++ (ds ∷ []);
            distinct = distinct_more ps ds h.0 (not_place ps ds e);
            many = omega (arith, length-append ps (ds ∷ []), leb-true most_places (length ps) v);
            each = λ x m. both x (Memᴰ.append_cases ps m);
          }
      go false e false v = (distinct_more ps ds h.0 (not_place ps ds e), λ x m. both x (Memᴰ.append_cases ps m))

  places_known : (dss : List (List ℤ)) (o : Option (List (List ℤ))) → ((x : List ℤ) → Memᴰ x dss → P x) → Known o → Known (add_places o dss)
  unfolding add_places
  places_known [] o q h = h
  places_known (ds ∷ dss) o q h = places_known dss (add_place o ds) (λ x m. q x (Memᴰ.tail m)) (place_known o ds (q ds (Memᴰ.head refl)) h)

  relative_known : (dims : ℕ) (o : Option (List (List ℤ))) (r : Relative) → length r.elements ≤ dims → ((x : List ℤ) → Memᴰ x (vectors_of dims r) → P x) → Known o
      → Known (add_relative dims o r)
  unfolding add_relative Known vectors_of
  relative_known dims o r l q h = go (ltb most_places (choice_count (used_ranges r.loops r.elements))) refl
    where
      go : (t : Bool) → ltb most_places (choice_count (used_ranges r.loops r.elements)) ≡ t → Known (if_few dims o r t)
      go true e =
          record {
            some_of = vectors_of dims r;
            distinct = vectors_differ dims r l;
            many = subst (λ (n : ℕ). most_places < n) (sym (length_list_of _ (choice_count (used_ranges r.loops r.elements)))) (ltb-true most_places _ e);
            each = q;
          }
      go false e = places_known (vectors_of dims r) o q h

  relatives_known : (dims : ℕ) (rs : List Relative) (o : Option (List (List ℤ))) → All (λ r. length r.elements ≤ dims) rs
      → All (λ r. (x : List ℤ) → Memᴰ x (vectors_of dims r) → P x) rs → Known o → Known (add_relatives dims o rs)
  unfolding add_relatives
  relatives_known dims [] o l q h = h
  relatives_known dims (r ∷ rs) o l q h = relatives_known dims rs (add_relative dims o r) l.1 q.1 (relative_known dims o r l.0 q.0 h)

-- Where no list is given, more than 256 index vectors can be read. No index has more elements than there are dimensions
pub too_many : (p : Program) → All (λ r. length r.elements ≤ p.dims) (relatives_in p) → places p ≡ none → Many (Readable p)
unfolding places Known
too_many p l e =
    subst (Known (Readable p)) e
    (relatives_known (Readable p) p.dims (relatives_in p) (some (own_place p.dims ∷ [])) l (taken_all p.dims (relatives_in p) (Readable p) (λ x t. inr t))
    ((Memᴰ.not-nil, tt), λ x m. inl (Memᴰ.eq_of_singleton m)))
