-- The laws of places that are put into a list, each once.
use Prim.Native.Nat.{ℕ, zero, suc, ◌+◌, ◌<◌, ◌≤◌}
use native.Mathlib.Nat.{not-suc-le-zero}
use native.Mathlib.Omega.{arith}
use mathlib.Core.Path.{◌≡◌, refl, sym, ap, ap₂, ◌∙◌}
use mathlib.Core.Logic.{◌⊎◌, inl, inr}
use mathlib.Core.Bool.{Bool, true, false, not, ◌||◌}
use mathlib.Core.List.{List, [], ◌∷◌, ◌++◌}
use mathlib.Core.Option.{Option, none, some}
use lib.IntN.{ℤ, pos}
use lib.ListN.{length, get_or, set, take}
use lib.Seq.{get_or-set_same, get_or-set_other, get_or-take, length-take-le}
use borrow.Author.Tests.{lt-ltb, le-ltb, le-leb, lt-leb}
use Rattle.value.proofs.Theorems.Truth.{or_true}
use Rattle.value.specs.Worked.{encode_of, decode_of}
use Rattle.value.proofs.Theorems.Laws.{encode_decode}
use Rattle.automaton.specs.Listed.{list_of}
use Rattle.automaton.specs.Promises.ListedLaws.{length_list_of, get_or_list_of, list_of_ext, last_or_below}
use Rattle.automaton.specs.Grid.{differ}
use Rattle.automaton.proofs.Theorems.GridLaws.{differ_false, differ_self}
use Rattle.cell_meaning.specs.Places.{has_place, add_place, add_places}
use Rattle.run_meaning.specs.declared.Reach.{Reach}
use Rattle.run_meaning.specs.Promises.Fitting.{place_at, place_list, places_of}
use Rattle.run_places.specs.Promises.Vectors.{vector_values}
use Rattle.run_places.specs.Promises.Widening.{joined, Widens}

-- ---- two places

module _ (a b : List ℕ) where
  -- the first d words are the same
  pub record Agreeing (d : ℕ) : Type 0 where
    pub each : (m : ℕ) → m < d → get_or a m 0 ≡ get_or b m 0

  pub agreeing_start : Agreeing 0
  agreeing_start = record { each = λ m l. absurd (not-suc-le-zero l) }

  pub agreeing_more : (d : ℕ) → Agreeing d → get_or a d 0 ≡ get_or b d 0 → Agreeing (d + 1)
  agreeing_more d s q = record { each = λ m h. at m (last_or_below (let w : m < suc d = omega arith in w)) }
    where
      at : (m : ℕ) → (m ≡ d) ⊎ (m < d) → get_or a m 0 ≡ get_or b m 0
      at m (inl e) = rw e q
      at m (inr e) = s.each m e

  module _ (dims : ℕ) where
    -- words are the same where they stand for the same numbers
    pub agreeing_not : (d : ℕ) → d < dims → get_or a d 0 < 4294967296 → get_or b d 0 < 4294967296 → (get_or a d 0 ≡ get_or b d 0 → ⊥)
        → false ≡ not (differ (vector_values a dims) (vector_values b dims))
    agreeing_not d l fa fb out = go (differ (vector_values a dims) (vector_values b dims)) refl
      where
        go : (u : Bool) → differ (vector_values a dims) (vector_values b dims) ≡ u → false ≡ not u
        go true e = refl
        go false e =
            let same : decode_of (get_or a d 0) ≡ decode_of (get_or b d 0) =
            sym (get_or_list_of (λ m. decode_of (get_or a m 0)) dims d (pos 0) l) ∙ ap (λ (p : List ℤ). get_or p d (pos 0)) (differ_false (vector_values a dims) (vector_values b dims) e)
            ∙ get_or_list_of (λ m. decode_of (get_or b m 0)) dims d (pos 0) l
            in
            absurd (out (sym (encode_decode (get_or a d 0) fa) ∙ ap encode_of same ∙ encode_decode (get_or b d 0) fb))

    pub agreeing_done : (d : ℕ) → Agreeing d → dims ≤ d → true ≡ not (differ (vector_values a dims) (vector_values b dims))
    agreeing_done d s l =
        let e : vector_values a dims ≡ vector_values b dims = list_of_ext _ _ dims (λ m h. ap decode_of (s.each m (omega arith))) in
        sym (ap not (ap (λ (p : List ℤ). differ p (vector_values b dims)) e ∙ differ_self (vector_values b dims)))

-- ---- a place among others

has_append : (ps : List (List ℤ)) (p ds : List ℤ) → has_place (ps ++ (p ∷ [])) ds ≡ (has_place ps ds || not (differ p ds))
unfolding has_place
has_append [] p ds = go (not (differ p ds))
  where
    go : (b : Bool) → (b || false) ≡ b
    go true = refl
    go false = refl
has_append (q ∷ ps) p ds = ap (λ (b : Bool). not (differ q ds) || b) (has_append ps p ds) ∙ assoc (not (differ q ds)) (has_place ps ds) (not (differ p ds))
  where
    assoc : (a b c : Bool) → (a || (b || c)) ≡ ((a || b) || c)
    assoc true b c = refl
    assoc false b c = refl

module _ (f : ℕ → List ℤ) (ds : List ℤ) where
  -- none of the first k places
  pub record Missing (k : ℕ) : Type 0 where
    pub says : has_place (list_of f k) ds ≡ false

  pub missing_start : Missing 0
  unfolding has_place list_of
  missing_start = record { says = refl }

  pub missing_more : (k : ℕ) {b : Bool} → Missing k → b ≡ not (differ (f k) ds) → b ≡ false → Missing (k + 1)
  unfolding list_of
  missing_more k {b} s eb q =
      let n : suc k ≡ k + 1 = omega arith in
      record { says = ap (λ (i : ℕ). has_place (list_of f i) ds) (sym n) ∙ has_append (list_of f k) (f k) ds ∙ ap₂ ◌||◌ s.says (sym eb ∙ q) }

  pub missing_found : (count k : ℕ) {b : Bool} → k < count → b ≡ not (differ (f k) ds) → b ≡ true → true ≡ has_place (list_of f count) ds
  unfolding list_of
  missing_found zero k l eb q = absurd (not-suc-le-zero l)
  missing_found (suc n) k {b} l eb q = sym (has_append (list_of f n) (f n) ds ∙ go (λ h. missing_found n k h eb q) (last_or_below l))
    where
      go : (k < n → true ≡ has_place (list_of f n) ds) → (k ≡ n) ⊎ (k < n)
          → (has_place (list_of f n) ds || not (differ (f n) ds)) ≡ true
      go before (inl e) = ap (λ (i : ℕ). has_place (list_of f n) ds || not (differ (f i) ds)) (sym e) ∙ ap (λ (c : Bool). has_place (list_of f n) ds || c) (sym eb ∙ q) ∙ or_true (has_place (list_of f n) ds)
      go before (inr h) = ap (λ (c : Bool). c || not (differ (f n) ds)) (sym (before h))

-- ---- one place more

-- the first places of a list
listed_taken : (places : List (List ℕ)) (dims count : ℕ) → count ≤ length places → list_of (place_at (take count places) dims) (length (take count places)) ≡ list_of (place_at places dims) count
listed_taken places dims count l =
    ap (list_of (place_at (take count places) dims)) (length-take-le count places l)
    ∙ list_of_ext _ _ count (λ k h. ap (λ (row : List ℕ). vector_values row dims) (get_or-take count places k [] h))

module _ (places : List (List ℕ)) (dims count : ℕ) (ds : List ℤ) where
  pub add_past : 256 < count → place_list places dims count ≡ add_place (place_list places dims count) ds
  unfolding add_place
  add_past l = rw (lt-ltb 256 count l)

  module _ (size : length places ≡ 256) (l : count ≤ 256) {t : Bool} (et : t ≡ has_place (list_of (place_at (take count places) dims) (length (take count places))) ds) where
    eb : t ≡ has_place (list_of (place_at places dims) count) ds
    eb = et ∙ ap (λ (dss : List (List ℤ)). has_place dss ds) (listed_taken places dims count (omega (arith, size)))

    pub add_known : t ≡ true → place_list places dims count ≡ add_place (place_list places dims count) ds
    unfolding add_place
    add_known q = rw (le-ltb 256 count l, ← eb, q)

    pub add_full : (places' : List (List ℕ)) → t ≡ false → 256 ≤ count → place_list places' dims 257 ≡ add_place (place_list places dims count) ds
    unfolding add_place
    add_full places' q h = rw (le-ltb 256 count l, ← eb, q, le-leb 256 (length (list_of (place_at places dims) count)) (omega (arith, length_list_of (place_at places dims) count)))

    pub add_new : (row : List ℕ) → t ≡ false → count < 256 → vector_values row dims ≡ ds → place_list (set places count row) dims (count + 1) ≡ add_place (place_list places dims count) ds
    unfolding add_place list_of
    add_new row q h e =
        let n : count + 1 ≡ suc count = omega arith in
        let new : list_of (place_at (set places count row) dims) (count + 1) ≡ list_of (place_at places dims) count ++ (ds ∷ []) =
        ap (list_of (place_at (set places count row) dims)) n
        ∙ ap₂ (λ (xs : List (List ℤ)) (x : List ℤ). xs ++ (x ∷ []))
        (list_of_ext _ _ count (λ k m. ap (λ (w : List ℕ). vector_values w dims) (get_or-set_other places count k row [] (λ p. absurd (let w = p in omega arith)))))
        (ap (λ (w : List ℕ). vector_values w dims) (get_or-set_same places count row [] (omega (arith, size))) ∙ e)
        in
        rw (le-ltb 256 count l, le-ltb 256 (count + 1) (omega arith), ← eb, q, lt-leb 256 (length (list_of (place_at places dims) count)) (omega (arith, length_list_of (place_at places dims) count)))
        (ap some new)

-- ---- the places of a list

add_append : (dss : List (List ℤ)) (o : Option (List (List ℤ))) (ds : List ℤ) → add_places o (dss ++ (ds ∷ [])) ≡ add_place (add_places o dss) ds
unfolding add_places
add_append [] o ds = refl
add_append (es ∷ dss) o ds = add_append dss (add_place o es) ds

module _ (dims : ℕ) (f : ℕ → List ℤ) (o : Option (List (List ℤ))) where
  pub record Adding (places : List (List ℕ)) (r e : ℕ) : Type 0 where
    pub says : place_list places dims r ≡ add_places o (list_of f e)

  pub adding_more : (places places' : List (List ℕ)) (r r' e : ℕ) → Adding places r e → place_list places' dims r' ≡ add_place (place_list places dims r) (f e) → Adding places' r' (e + 1)
  unfolding list_of
  adding_more places places' r r' e s q =
      let n : suc e ≡ e + 1 = omega arith in
      record { says = q ∙ ap (λ (x : Option (List (List ℤ))). add_place x (f e)) s.says ∙ sym (add_append (list_of f e) o (f e)) ∙ ap (λ (i : ℕ). add_places o (list_of f i)) n }

pub adding_start : (dims : ℕ) (f : ℕ → List ℤ) (places : List (List ℕ)) (r : ℕ) → Adding dims f (place_list places dims r) places r 0
unfolding list_of add_places
adding_start dims f places r = record { says = refl }

-- ---- a reach

pub widens_past : (reach index : Reach) (dims : ℕ) {places : List (List ℕ)} → 256 < index.count → Widens reach index dims (record { bounds = index.bounds; count = 257; places = places })
widens_past reach index dims l =
    let e : places_of index dims ≡ none = rw (lt-ltb 256 index.count l) in
    record { bounded = refl; places = sym (ap (joined (places_of reach dims)) e) }

pub widens_more : (reach index : Reach) (dims : ℕ) {places : List (List ℕ)} {count : ℕ} → index.count ≤ 256 → length index.places ≡ 256
    → place_list places dims count ≡ add_places (places_of reach dims) (list_of (place_at (take index.count index.places) dims) (length (take index.count index.places)))
    → Widens reach index dims (record { bounds = index.bounds; count = count; places = places })
widens_more reach index dims l size q =
    let e : places_of index dims ≡ some (list_of (place_at index.places dims) index.count) = rw (le-ltb 256 index.count l) in
    record { bounded = refl; places = q ∙ ap (add_places (places_of reach dims)) (listed_taken index.places dims index.count (omega (arith, size))) ∙ sym (ap (joined (places_of reach dims)) e) }
