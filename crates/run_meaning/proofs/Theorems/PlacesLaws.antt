-- The list of a program's places: it has exactly the index vectors that the relative indices can take, each once, at most 256 of them, and all in the box.
use Prim.Native.Nat.{ℕ, zero, suc, ◌*◌, ◌≤◌, ◌<◌}
use native.Mathlib.Omega.{arith}
use mathlib.Core.Path.{◌≡◌, refl, sym, ap, ◌∙◌, subst}
use mathlib.Core.Logic.{◌⊎◌, inl, inr, ◌↔◌}
use mathlib.Core.Bool.{Bool, true, false, not, ◌||◌}
use mathlib.Core.List.Memᴰ
use mathlib.Core.List.{List, [], ◌∷◌, ◌++◌, map, Memᴰ}
use mathlib.Core.Option.{Option, none, some}
use lib.ListN.{length, get_or, length-append, get_or-eq_default}
use lib.Dec.{eqb, leb, ltb}
use borrow.Author.Tests.{eq-eqb, leb-false, ltb-true, ltb-false, le-leb}
use lib.IntN.{ℤ, pos, negsuc}
use Rattle.automaton.proofs.Theorems.GridLaws.{differ_self}
use Rattle.value.proofs.Theorems.Truth.{or_second}
use Rattle.value.specs.Limits.{most_places}
use Rattle.value.proofs.Theorems.Laws.{never}
use Rattle.automaton.specs.Listed.{list_of}
use Rattle.automaton.specs.Promises.ListedLaws.{length_list_of, get_or_list_of, mem_list_of, of_mem_list_of}
use Rattle.automaton.specs.Shape.{product, coordinates, Bound, width, indices_at, box_indices}
use Rattle.automaton.specs.Promises.ShapeLaws.{Inside, Positive, AllWithin}
use Rattle.automaton.proofs.ShapeLaws.{coordinates_inside, mem_box}
use Rattle.automaton.specs.Grid.{differ}
use Rattle.program.specs.Syntax.{Range, no_range, Index, fixed, moving, Program}
use Rattle.cell_meaning.specs.Evaluation.{entry, offsets, in_field}
use Rattle.cell_meaning.specs.Written.{Relative, relatives_in, written_in_index, written_of, written_in}
use Rattle.cell_meaning.specs.Places.{uses, used_range, used_ranges, span, values_at, choice_at, choice_count, vectors_of, has_place, add_place, add_places, add_relative, add_relatives, own_place, places}
use Rattle.run_meaning.specs.Reach.{box}
use Rattle.run_meaning.proofs.Theorems.Locality.{All, all_left, all_right, InRanges, in_at, span_within}
use Rattle.run_meaning.proofs.Theorems.Covering.{Covered, Taken, In, offsets_within, widened_covers, box_length, relatives_kept, relative_added, added, if_few, chosen}

-- ---- each once, and few

-- no entry of a list is again behind it
abbrev pub Distinct : {A : Type 0} → List A → Type 0
Distinct [] = Unit {0}
Distinct (x ∷ xs) = (Memᴰ x xs → ⊥) × Distinct xs

pub distinct_more : {A : Type 0} (xs : List A) (x : A) → Distinct xs → (Memᴰ x xs → ⊥) → Distinct (xs ++ (x ∷ []))
distinct_more [] x h n = (Memᴰ.not-nil, tt)
distinct_more (y ∷ xs) x h n = (λ m. go (Memᴰ.append_cases xs m), distinct_more xs x h.1 (λ m. n (Memᴰ.tail m)))
  where
    go : Memᴰ y xs ⊎ Memᴰ y (x ∷ []) → ⊥
    go (inl m) = h.0 m
    go (inr m) = n (Memᴰ.head (sym (Memᴰ.eq_of_singleton m)))

-- what is not found is not in the list
pub not_place : (ps : List (List ℤ)) (ds : List ℤ) → has_place ps ds ≡ false → Memᴰ ds ps → ⊥
unfolding has_place
not_place [] ds e m = Memᴰ.not-nil m
not_place (p ∷ ps) ds e m = go (not (differ p ds)) refl (Memᴰ.cases_cons m) e (not_place ps ds)
  where
    go : (t : Bool) → not (differ p ds) ≡ t → (ds ≡ p) ⊎ Memᴰ ds ps → (t || has_place ps ds) ≡ false → (has_place ps ds ≡ false → Memᴰ ds ps → ⊥) → ⊥
    go true q m e rest = never (sym e)
    go false q (inl s) e rest = never (sym q ∙ ap (λ (x : List ℤ). not (differ p x)) s ∙ ap not (differ_self p))
    go false q (inr s) e rest = rest e s

-- a list of places, if there is one: each once, and at most 256
abbrev pub Good : Option (List (List ℤ)) → Type 0
Good none = Unit {0}
Good (some ps) = Distinct ps × (length ps ≤ most_places)

place_good : (o : Option (List (List ℤ))) (ds : List ℤ) → Good o → Good (add_place o ds)
unfolding add_place
place_good none ds h = tt
place_good (some ps) ds h = go (has_place ps ds) refl (leb most_places (length ps)) refl
  where
    go : (t : Bool) → has_place ps ds ≡ t → (u : Bool) → leb most_places (length ps) ≡ u → Good (added ps ds t u)
    go true e u q = h
    go false e true q = tt
    go false e false q = (distinct_more ps ds h.0 (not_place ps ds e), omega (arith, length-append ps (ds ∷ []), leb-false most_places (length ps) q))

places_good : (dss : List (List ℤ)) (o : Option (List (List ℤ))) → Good o → Good (add_places o dss)
unfolding add_places
places_good [] o h = h
places_good (ds ∷ dss) o h = places_good dss (add_place o ds) (place_good o ds h)

relative_good : (dims : ℕ) (o : Option (List (List ℤ))) (r : Relative) → Good o → Good (add_relative dims o r)
unfolding add_relative
relative_good dims o r h = go (ltb most_places (choice_count (used_ranges r.loops r.elements)))
  where
    go : (t : Bool) → Good (if_few dims o r t)
    go true = tt
    go false = places_good (vectors_of dims r) o h

relatives_good : (dims : ℕ) (rs : List Relative) (o : Option (List (List ℤ))) → Good o → Good (add_relatives dims o rs)
unfolding add_relatives
relatives_good dims [] o h = h
relatives_good dims (r ∷ rs) o h = relatives_good dims rs (add_relative dims o r) (relative_good dims o r h)

pub places_once : (p : Program) (ps : List (List ℤ)) → places p ≡ some ps → Distinct ps × (length ps ≤ most_places)
unfolding places
places_once p ps e = subst Good e (relatives_good p.dims (relatives_in p) (some (own_place p.dims ∷ [])) ((Memᴰ.not-nil, tt), omega arith))

-- ---- nothing else

-- P holds of every place listed, if there is a list
abbrev Only : (List ℤ → Type 0) → Option (List (List ℤ)) → Type 0
Only P none = Unit {0}
Only P (some ps) = (x : List ℤ) → Memᴰ x ps → P x

module _ (P : List ℤ → Type 0) where
  place_only : (o : Option (List (List ℤ))) (ds : List ℤ) → P ds → Only P o → Only P (add_place o ds)
  unfolding add_place
  place_only none ds q h = tt
  place_only (some ps) ds q h = go (has_place ps ds) (leb most_places (length ps))
    where
      both : (x : List ℤ) → Memᴰ x ps ⊎ Memᴰ x (ds ∷ []) → P x
      both x (inl m) = h x m
      both x (inr m) = subst P (sym (Memᴰ.eq_of_singleton m)) q

      go : (t u : Bool) → Only P (added ps ds t u)
      go true u = h
      go false true = tt
      go false false = λ x m. both x (Memᴰ.append_cases ps m)

  places_only : (dss : List (List ℤ)) (o : Option (List (List ℤ))) → ((x : List ℤ) → Memᴰ x dss → P x) → Only P o → Only P (add_places o dss)
  unfolding add_places
  places_only [] o q h = h
  places_only (ds ∷ dss) o q h = places_only dss (add_place o ds) (λ x m. q x (Memᴰ.tail m)) (place_only o ds (q ds (Memᴰ.head refl)) h)

  relative_only : (dims : ℕ) (o : Option (List (List ℤ))) (r : Relative) → ((x : List ℤ) → Memᴰ x (vectors_of dims r) → P x) → Only P o → Only P (add_relative dims o r)
  unfolding add_relative
  relative_only dims o r q h = go (ltb most_places (choice_count (used_ranges r.loops r.elements)))
    where
      go : (t : Bool) → Only P (if_few dims o r t)
      go true = tt
      go false = places_only (vectors_of dims r) o q h

  relatives_only : (dims : ℕ) (rs : List Relative) (o : Option (List (List ℤ))) → All (λ r. (x : List ℤ) → Memᴰ x (vectors_of dims r) → P x) rs → Only P o
      → Only P (add_relatives dims o rs)
  unfolding add_relatives
  relatives_only dims [] o q h = h
  relatives_only dims (r ∷ rs) o q h = relatives_only dims rs (add_relative dims o r) q.1 (relative_only dims o r q.0 h)

  pub places_have : (p : Program) (ps : List (List ℤ)) → places p ≡ some ps → P (own_place p.dims)
      → All (λ r. (x : List ℤ) → Memᴰ x (vectors_of p.dims r) → P x) (relatives_in p) → (x : List ℤ) → Memᴰ x ps → P x
  unfolding places
  places_have p ps e own q =
      subst (Only P) e (relatives_only p.dims (relatives_in p) (some (own_place p.dims ∷ [])) q (λ x m. subst P (sym (Memᴰ.eq_of_singleton m)) own))

-- ---- a box with as many index vectors as places has the same ones

record Removed {A : Type 0} (x : A) (ys : List A) : Type 0 where
  pub rest : List A
  pub len : length ys ≡ suc (length rest)
  pub split : (z : A) → Memᴰ z ys → (z ≡ x) ⊎ Memᴰ z rest

remove : {A : Type 0} (x : A) (ys : List A) → Memᴰ x ys → Removed x ys
remove x [] m = absurd (Memᴰ.not-nil m)
remove {A} x (y ∷ ys) m = go (Memᴰ.cases_cons m) (remove x ys)
  where
    go : (x ≡ y) ⊎ Memᴰ x ys → (Memᴰ x ys → Removed x ys) → Removed x (y ∷ ys)
    go (inl e) more = record { rest = ys; len = refl; split = λ z m. first z (Memᴰ.cases_cons m) }
      where
        first : (z : A) → (z ≡ y) ⊎ Memᴰ z ys → (z ≡ x) ⊎ Memᴰ z ys
        first z (inl q) = inl (q ∙ sym e)
        first z (inr q) = inr q
    go (inr m) more = let r = more m in record { rest = y ∷ r.rest; len = ap suc r.len; split = λ z m. first r z (Memᴰ.cases_cons m) }
      where
        first : (r : Removed x ys) (z : A) → (z ≡ y) ⊎ Memᴰ z ys → (z ≡ x) ⊎ Memᴰ z (y ∷ r.rest)
        first r z (inl q) = inr (Memᴰ.head q)
        first r z (inr q) = next (r.split z q)
          where
            next : (z ≡ x) ⊎ Memᴰ z r.rest → (z ≡ x) ⊎ Memᴰ z (y ∷ r.rest)
            next (inl w) = inl w
            next (inr w) = inr (Memᴰ.tail w)

-- distinct entries of a list that has no more entries than they are: all of them
pub all_there : {A : Type 0} (xs ys : List A) → Distinct xs → ((x : A) → Memᴰ x xs → Memᴰ x ys) → length ys ≤ length xs → (y : A) → Memᴰ y ys → Memᴰ y xs
all_there [] [] d s l y m = m
all_there [] (z ∷ ys) d s l y m = absurd (omega arith)
all_there {A} (x ∷ xs) ys d s l y m =
    let r = remove x ys (s x (Memᴰ.head refl)) in
    go r (r.split y m) (all_there xs r.rest d.1 (λ z q. still r z q (r.split z (s z (Memᴰ.tail q)))) (omega (arith, r.len)))
  where
    still : (r : Removed x ys) (z : A) → Memᴰ z xs → (z ≡ x) ⊎ Memᴰ z r.rest → Memᴰ z r.rest
    still r z q (inl e) = absurd (d.0 (Memᴰ.cast (sym e) q))
    still r z q (inr w) = w

    go : (r : Removed x ys) → (y ≡ x) ⊎ Memᴰ y r.rest → ((y : A) → Memᴰ y r.rest → Memᴰ y xs) → Memᴰ y (x ∷ xs)
    go r (inl e) more = Memᴰ.head e
    go r (inr w) more = Memᴰ.tail (more y w)

-- ---- what is listed of a relative index

pub positive_of : (ns : List ℕ) (e : ℕ) → e < product ns → Positive ns
positive_of [] e l = tt
positive_of (zero ∷ ns) e l = absurd (omega arith)
positive_of (suc n ∷ ns) e l = (omega arith, positive_of ns 0 (by (product ns) refl))
  where
    by : (m : ℕ) → product ns ≡ m → 0 < product ns
    by zero q = absurd (let z : e < suc n * 0 = subst (λ (m : ℕ). e < suc n * m) q l in omega arith)
    by (suc m) q = omega (arith, q)

values_in : (rs : List Range) (ks : List ℕ) → Inside (map span rs) ks → InRanges rs (values_at rs ks)
values_in [] [] h = tt
values_in (r ∷ rs) (k ∷ ks) h = (span_within r k h.0, values_in rs ks h.1)
values_in [] (k ∷ ks) h = elim h [ ]
values_in (r ∷ rs) [] h = elim h [ ]

pub choice_in : (rs : List Range) (e : ℕ) → e < choice_count rs → InRanges rs (choice_at rs e)
choice_in rs e l = values_in rs _ (coordinates_inside (map span rs) e (positive_of (map span rs) e l) l)

-- an index vector that a relative index can take, by values of the variables that stand in it, each in its range
pub record TakenBy (dims : ℕ) (r : Relative) (ds : List ℤ) : Type 0 where
  pub values : List ℤ
  pub inside : InRanges (used_ranges r.loops r.elements) values
  pub is : ds ≡ offsets dims values r.elements

pub vectors_exact : (dims : ℕ) (r : Relative) (ds : List ℤ) → Memᴰ ds (vectors_of dims r) ↔ TakenBy dims r ds
unfolding vectors_of
vectors_exact dims r ds = (there, back)
  where
    rs : List Range
    rs = used_ranges r.loops r.elements

    there : Memᴰ ds (list_of (λ e. offsets dims (choice_at rs e) r.elements) (choice_count rs)) → TakenBy dims r ds
    there m =
        let q = of_mem_list_of (λ e. offsets dims (choice_at rs e) r.elements) (choice_count rs) ds m in
        record { values = choice_at rs q.0; inside = choice_in rs q.0 q.1; is = q.2 }

    back : TakenBy dims r ds → Memᴰ ds (list_of (λ e. offsets dims (choice_at rs e) r.elements) (choice_count rs))
    back t =
        let c = chosen rs t.values t.inside in
        Memᴰ.cast (t.is ∙ sym (ap (λ (l : List ℤ). offsets dims l r.elements) c.2))
        (mem_list_of (λ e. offsets dims (choice_at rs e) r.elements) (choice_count rs) c.0 c.1)

-- ---- exactly the places

-- some relative index of a list can take an index vector
abbrev pub TakenIn : ℕ → List Relative → List ℤ → Type 0
TakenIn dims [] ds = ⊥
TakenIn dims (r ∷ rs) ds = TakenBy dims r ds ⊎ TakenIn dims rs ds

pub taken_all : (dims : ℕ) (rs : List Relative) (P : List ℤ → Type 0) → ((x : List ℤ) → TakenIn dims rs x → P x) → All (λ r. (x : List ℤ) → Memᴰ x (vectors_of dims r) → P x) rs
taken_all dims [] P h = tt
taken_all dims (r ∷ rs) P h = (λ x m. h x (inl ((vectors_exact dims r x).0 m)), taken_all dims rs P (λ x t. h x (inr t)))

taken_listed : (dims : ℕ) (rs : List Relative) (o : Option (List (List ℤ))) (x : List ℤ) → TakenIn dims rs x → In x (add_relatives dims o rs)
unfolding add_relatives
taken_listed dims (r ∷ rs) o x (inl t) = relatives_kept dims rs (add_relative dims o r) x (relative_added dims o r x ((vectors_exact dims r x).1 t))
taken_listed dims (r ∷ rs) o x (inr t) = taken_listed dims rs (add_relative dims o r) x t
taken_listed dims [] o x x3 = elim x3 [ ]

-- what a program can read: the own cell, and the index vectors that its relative indices can take
abbrev pub Readable : Program → List ℤ → Type 0
Readable p ds = (ds ≡ own_place p.dims) ⊎ TakenIn p.dims (relatives_in p) ds

-- the list has the own cell and the index vectors that the relative indices can take, and nothing else
pub places_exact : (p : Program) (ps : List (List ℤ)) → places p ≡ some ps → (ds : List ℤ)
    → Memᴰ ds ps ↔ Readable p ds
unfolding places
places_exact p ps e ds = (places_have (Readable p) p ps e (inl refl) (taken_all p.dims (relatives_in p) (Readable p) (λ x t. inr t)) ds, back)
  where
    back : Readable p ds → Memᴰ ds ps
    back (inl q) =
        subst (In ds) e (relatives_kept p.dims (relatives_in p) (some (own_place p.dims ∷ [])) ds (Memᴰ.head q))
    back (inr t) = subst (In ds) e (taken_listed p.dims (relatives_in p) (some (own_place p.dims ∷ [])) ds t)

-- ---- all in the box

-- the range of a variable that stands there
used_at : (loops : List Range) (is : List Index) (k : ℕ) → uses k is ≡ true → get_or (used_ranges loops is) k no_range ≡ get_or loops k no_range
used_at loops is k u = by (ltb k (length loops)) refl
  where
    by : (t : Bool) → ltb k (length loops) ≡ t → get_or (used_ranges loops is) k no_range ≡ get_or loops k no_range
    by true e = get_or_list_of (used_range loops is) (length loops) k no_range (ltb-true k (length loops) e) ∙ rw u refl
    by false e =
        let l = ltb-false k (length loops) e in
        get_or-eq_default (used_ranges loops is) no_range {n = k} (omega (arith, length_list_of (used_range loops is) (length loops)))
        ∙ sym (get_or-eq_default loops no_range {n = k} l)

le_self : (z : ℤ) → in_field (record { low = z; high = z }) z ≡ true
le_self (pos n) = simp (le-leb n n (omega arith))
le_self (negsuc n) = simp (le-leb n n (omega arith))

used_taken : (loops : List Range) (vs : List ℤ) (is : List Index) → ((k : ℕ) → uses k is ≡ true → in_field (get_or loops k no_range) (entry vs k) ≡ true) → Taken loops vs is
used_taken loops vs [] h = tt
used_taken loops vs (fixed p z ∷ is) h = (le_self z, used_taken loops vs is h)
used_taken loops vs (moving p d ∷ is) h =
    (h d (rw (eq-eqb d d refl) refl), used_taken loops vs is (λ k u. h k (or_second (eqb d k) u)))

taken_values : (loops : List Range) (vs : List ℤ) (is : List Index) → InRanges (used_ranges loops is) vs → Taken loops vs is
taken_values loops vs is h =
    used_taken loops vs is (λ k u. subst (λ (r : Range). in_field r (entry vs k) ≡ true) (used_at loops is k u) (in_at (used_ranges loops is) vs h k))

vectors_within : (bs : List Bound) (rs : List Relative) → All (Covered bs) (written_of rs) → All (λ r. (x : List ℤ) → Memᴰ x (vectors_of (length bs) r) → AllWithin bs x) rs
unfolding written_of
vectors_within bs [] h = tt
vectors_within bs (r ∷ rs) h =
    let w = written_in_index r.loops 0 r.elements in (
      λ x m.
          let t = (vectors_exact (length bs) r x).0 m in
          subst (AllWithin bs) (sym t.is) (offsets_within bs r.loops t.values r.elements (taken_values r.loops t.values r.elements t.inside) (all_left (Covered bs) w (written_of rs) h)),
      vectors_within bs rs (all_right (Covered bs) w (written_of rs) h),
    )

-- every place lies in the box, so that the lowest and the highest index in a dimension bound both kinds
pub places_within : (p : Program) (ps : List (List ℤ)) → places p ≡ some ps → (ds : List ℤ) → Memᴰ ds ps → AllWithin (box p) ds
unfolding box written_in written_in_index
places_within p ps e =
    places_have (AllWithin (box p)) p ps e
    (subst (λ (n : ℕ). AllWithin (box p) (own_place n)) (box_length p) (offsets_within (box p) [] [] [] tt tt))
    (subst (λ (n : ℕ). All (λ r. (x : List ℤ) → Memᴰ x (vectors_of n r) → AllWithin (box p) x) (relatives_in p)) (box_length p)
    (vectors_within (box p) (relatives_in p) (widened_covers _ (written_in p))))

-- a list with as many places as the box has index vectors is the box
pub places_box : (p : Program) (ps : List (List ℤ)) → places p ≡ some ps → length ps ≡ product (map width (box p)) → (ds : List ℤ) → Memᴰ ds ps ↔ Memᴰ ds (box_indices (box p))
unfolding box_indices
places_box p ps e n ds = (
  λ m. (mem_box (box p) ds).1 (places_within p ps e ds m),
  all_there ps (box_indices (box p)) (places_once p ps e).0 (λ x m. (mem_box (box p) x).1 (places_within p ps e x m)) (omega (arith, n, length_list_of (λ k. indices_at (box p) (coordinates (map width (box p)) k)) (product (map width (box p))))) ds,
)
