-- The laws of cell numbers, coordinates and wrapped relative indices, each by one induction over the dimensions.
use Rattle.std.specs.Prelude.{ℕ, zero, suc, ◌+◌, ◌-◌, ◌*◌, ◌/◌, ◌%◌, ◌<◌, ◌≡◌, refl, ◌⊎◌, ◌↔◌, Bool, true, false, cond, ltb, length, get_or, ℤ, pos, negsuc}
use Rattle.std.proofs.Common.{le_refl, mod-lt, mod-eq_of_lt, suc-mul, add_assoc, add-zero, div-add-mod', div-lt_iff_lt-mul, mul-le-mul_right, arith, ap₂, ◌∙◌, inl, inr, ltb-true, ltb-false, lt-ltb, le-ltb}
use Rattle.std.proofs.Math.Nat.{mod_self, mod-add-mod, add-mod-mod, mod-add-div', add-mul-mod_self_right, suc-mod, zero-mod, mul-add-div_right, mul-add-mod_self_right, div-eq_of_lt}
use Rattle.std.proofs.Math.Path.{sym, ap}
use mathlib.Core.List.Memᴰ
use mathlib.Core.List.{List, [], ◌∷◌, map, Memᴰ}
use Rattle.automaton.specs.Listed.{list_of}
use Rattle.automaton.specs.Promises.ListedLaws.{mem_list_of, of_mem_list_of}
use Rattle.std.proofs.Math.IntN.{neg_ℤ, neg_ℤ-neg_ℤ}
use Rattle.value.specs.Number.{mod_z}
use Rattle.value.specs.Worked.{wrap_of}
use Rattle.value.proofs.Theorems.Laws.{wrap_below}
use Rattle.automaton.specs.Shape.{product, cell_number, coordinates, shift, neighbour, Bound, width, index_at, indices_at, box_indices, reach_of}
use Rattle.automaton.specs.Promises.Opening.{opens_of}
use Rattle.automaton.specs.Promises.ShapeLaws.{Inside, Positive, Alike, Within, AllWithin, zeros}

-- there are as many coordinates as sizes
pub inside_length : (ns is : List ℕ) → Inside ns is → length is ≡ length ns
inside_length [] [] h = refl
inside_length (n ∷ ns) (i ∷ is) h = ap suc (inside_length ns is h.1)
inside_length [] (i ∷ is) h = elim h [ ]
inside_length (n ∷ ns) [] h = elim h [ ]

-- each is below its size
pub inside_at : (ns is : List ℕ) → Inside ns is → (k : ℕ) → k < length ns → get_or is k 0 < get_or ns k 0
inside_at [] [] h k l = absurd (omega arith)
inside_at (n ∷ ns) (i ∷ is) h zero l = h.0
inside_at (n ∷ ns) (i ∷ is) h (suc k) l = inside_at ns is h.1 k (omega arith)
inside_at [] (i ∷ is) h k l = elim h [ ]
inside_at (n ∷ ns) [] h k l = elim h [ ]

pub alike_length : {A B : Type 0} (xs : List A) (ys : List B) → length ys ≡ length xs → Alike xs ys
alike_length [] [] e = tt
alike_length [] (y ∷ ys) e = absurd (omega arith)
alike_length (x ∷ xs) [] e = absurd (omega arith)
alike_length (x ∷ xs) (y ∷ ys) e = alike_length xs ys (omega arith)

-- document 01's formula, for three dimensions and for two
pub number_3 : (p q r i j k : ℕ) → cell_number (p ∷ q ∷ r ∷ []) (i ∷ j ∷ k ∷ []) ≡ (i * q + j) * r + k
number_3 p q r i j k = omega arith

pub number_2 : (p q i j : ℕ) → cell_number (p ∷ q ∷ []) (i ∷ j ∷ []) ≡ i * q + j
number_2 p q i j = omega arith

-- ---- numbers and coordinates

pub product_pos : (ns : List ℕ) → Positive ns → 0 < product ns
product_pos [] h = le_refl 1
product_pos (n ∷ ns) h = omega (arith, mul-le-mul_right (product ns) h.0, product_pos ns h.1)

pub coordinates_inside : (ns : List ℕ) (c : ℕ) → Positive ns → c < product ns → Inside ns (coordinates ns c)
coordinates_inside [] c h l = tt
coordinates_inside (n ∷ ns) c h l = ((div-lt_iff_lt-mul (product_pos ns h.1)).1 l, coordinates_inside ns (c % product ns) h.1 (mod-lt c (product_pos ns h.1)))

pub number_coordinates : (ns : List ℕ) (c : ℕ) → Positive ns → c < product ns → cell_number ns (coordinates ns c) ≡ c
number_coordinates [] c h l = omega arith
number_coordinates (n ∷ ns) c h l =
    ap (λ (x : ℕ). c / product ns * product ns + x) (number_coordinates ns (c % product ns) h.1 (mod-lt c (product_pos ns h.1))) ∙ div-add-mod' c (product ns)

pub number_lt : (ns is : List ℕ) → Inside ns is → cell_number ns is < product ns
number_lt [] [] h = le_refl 1
number_lt (n ∷ ns) (i ∷ is) h = omega (arith, mul-le-mul_right (product ns) h.0, number_lt ns is h.1)
number_lt [] (i ∷ is) h = elim h [ ]
number_lt (n ∷ ns) [] h = elim h [ ]

pub coordinates_number : (ns is : List ℕ) → Inside ns is → coordinates ns (cell_number ns is) ≡ is
coordinates_number [] [] h = refl
coordinates_number (n ∷ ns) (i ∷ is) h =
    let l : cell_number ns is < product ns = number_lt ns is h.1 in
    let z : 0 < product ns = omega arith in
    let first : (i * product ns + cell_number ns is) / product ns ≡ i =
    mul-add-div_right z i (cell_number ns is) ∙ ap (λ (x : ℕ). i + x) (div-eq_of_lt l) ∙ add-zero i
    in
    let rest : (i * product ns + cell_number ns is) % product ns ≡ cell_number ns is = mul-add-mod_self_right i (product ns) (cell_number ns is) ∙ mod-eq_of_lt l in
    ap₂ (λ (x : ℕ) (xs : List ℕ). x ∷ xs) first (ap (coordinates ns) rest ∙ coordinates_number ns is h.1)
coordinates_number [] (i ∷ is) h = elim h [ ]
coordinates_number (n ∷ ns) [] h = elim h [ ]

-- ---- wrapping

-- the relative index may be reduced modulo the size first
pub wrap_mod : (n i : ℕ) (d : ℤ) → 0 < n → wrap_of i d n ≡ (i + mod_z d n) % n
wrap_mod n i (pos d) h = sym (add-mod-mod i d n)
wrap_mod n i (negsuc d) h = by (ltb i (suc d)) refl
  where
    by : (t : Bool) → ltb i (suc d) ≡ t → mod_z (cond t (negsuc (suc d - suc i)) (pos (i - suc d))) n ≡ (i + (n - suc (d % n))) % n
    by true e =
        let l = ltb-true i (suc d) e in
        let y = suc d - suc i in
        let low = mod-lt y h in
        let rest : d % n ≡ (y % n + i) % n = ap (λ (x : ℕ). x % n) (omega arith) ∙ sym (mod-add-mod y n i) in
        let sum : i + (n - suc (d % n)) ≡ n - suc (y % n) + (y % n + i) / n * n = omega (arith, mod-add-div' (y % n + i) n, mod-lt d h) in
        sym (ap (λ (x : ℕ). x % n) sum ∙ add-mul-mod_self_right (n - suc (y % n)) ((y % n + i) / n) n ∙ mod-eq_of_lt (omega arith))
    by false e =
        let l = ltb-false i (suc d) e in
        let sum : i + (n - suc (d % n)) ≡ i - suc d + suc (d / n) * n = omega (arith, suc-mul (d / n) n, mod-add-div' d n, mod-lt d h) in
        sym (ap (λ (x : ℕ). x % n) sum ∙ add-mul-mod_self_right (i - suc d) (suc (d / n)) n)

-- a number and its negation sum to 0, modulo n
mod_opposite : (n d : ℕ) → 0 < n → (suc d % n + (n - suc (d % n))) % n ≡ 0
mod_opposite n d h =
    ap (λ (x : ℕ). (x + (n - suc (d % n))) % n) (suc-mod d n) ∙ mod-add-mod (suc (d % n)) n (n - suc (d % n))
    ∙ ap (λ (x : ℕ). x % n) (let l = mod-lt d h in omega arith) ∙ mod_self n

mod_neg : (n : ℕ) (d : ℤ) → 0 < n → (mod_z d n + mod_z (neg_ℤ d) n) % n ≡ 0
mod_neg n (pos zero) h = simp zero-mod
mod_neg n (pos (suc d)) h = mod_opposite n d h
mod_neg n (negsuc d) h = ap (λ (x : ℕ). x % n) (omega arith) ∙ mod_opposite n d h

pub wrap_back : (n i : ℕ) (d : ℤ) → i < n → wrap_of (wrap_of i d n) (neg_ℤ d) n ≡ i
wrap_back n i d h =
    let r = mod_z d n in
    let r' = mod_z (neg_ℤ d) n in
    let z : 0 < n = omega arith in
    wrap_mod n (wrap_of i d n) (neg_ℤ d) z ∙ ap (λ (x : ℕ). (x + r') % n) (wrap_mod n i d z)
    ∙ mod-add-mod (i + r) n r' ∙ ap (λ (x : ℕ). x % n) (add_assoc i r r') ∙ sym (add-mod-mod i (r + r') n)
    ∙ ap (λ (x : ℕ). (i + x) % n) (mod_neg n d z) ∙ ap (λ (x : ℕ). x % n) (add-zero i) ∙ mod-eq_of_lt h

pub shift_inside : (ns is : List ℕ) (ds : List ℤ) → Inside ns is → Alike ns ds → Inside ns (shift ns is ds)
shift_inside [] [] [] h a = tt
shift_inside (n ∷ ns) (i ∷ is) (d ∷ ds) h a = (wrap_below i d n h.0, shift_inside ns is ds h.1 a)
shift_inside [] [] (d ∷ ds) h a = elim a [ ]
shift_inside [] (i ∷ is) ds h a = elim h [ ]
shift_inside (n ∷ ns) [] ds h a = elim h [ ]
shift_inside (n ∷ ns) (i ∷ is) [] h a = elim a [ ]

pub shift_back : (ns is : List ℕ) (ds : List ℤ) → Inside ns is → Alike ns ds → shift ns (shift ns is ds) (map neg_ℤ ds) ≡ is
shift_back [] [] [] h a = refl
shift_back (n ∷ ns) (i ∷ is) (d ∷ ds) h a = ap₂ (λ (x : ℕ) (xs : List ℕ). x ∷ xs) (wrap_back n i d h.0) (shift_back ns is ds h.1 a)
shift_back [] [] (d ∷ ds) h a = elim a [ ]
shift_back [] (i ∷ is) ds h a = elim h [ ]
shift_back (n ∷ ns) [] ds h a = elim h [ ]
shift_back (n ∷ ns) (i ∷ is) [] h a = elim a [ ]

-- ---- neighbours

module _ (ns : List ℕ) (positive : Positive ns) where
  pub neighbour_lt : (c : ℕ) (ds : List ℤ) → c < product ns → Alike ns ds → neighbour ns c ds < product ns
  unfolding neighbour
  neighbour_lt c ds l a = number_lt ns _ (shift_inside ns _ ds (coordinates_inside ns c positive l) a)

  -- from the cell at ds, the cell at -ds is the first one again
  pub neighbour_back : (c : ℕ) (ds : List ℤ) → c < product ns → Alike ns ds → neighbour ns (neighbour ns c ds) (map neg_ℤ ds) ≡ c
  unfolding neighbour
  neighbour_back c ds l a =
      let inside = coordinates_inside ns c positive l in
      ap (λ (is : List ℕ). cell_number ns (shift ns is (map neg_ℤ ds))) (coordinates_number ns _ (shift_inside ns _ ds inside a))
      ∙ ap (cell_number ns) (shift_back ns _ ds inside a) ∙ number_coordinates ns c positive l

pub alike_neg : (ns : List ℕ) (ds : List ℤ) → Alike ns ds → Alike ns (map neg_ℤ ds)
alike_neg [] [] a = tt
alike_neg (n ∷ ns) (d ∷ ds) a = alike_neg ns ds a
alike_neg [] (d ∷ ds) a = elim a [ ]
alike_neg (n ∷ ns) [] a = elim a [ ]

neg_neg : (ds : List ℤ) → map neg_ℤ (map neg_ℤ ds) ≡ ds
neg_neg [] = refl
neg_neg (d ∷ ds) = ap₂ (λ (x : ℤ) (xs : List ℤ). x ∷ xs) (neg_ℤ-neg_ℤ d) (neg_neg ds)

mem_across : {B : Type 0} (f f' : B → ℕ) (x c : ℕ) (bs : List B) → ((b : B) → Memᴰ b bs → x ≡ f b → c ≡ f' b) → Memᴰ x (map f bs) → Memᴰ c (map f' bs)
mem_across f f' x c [] h m = absurd (Memᴰ.not-nil m)
mem_across f f' x c (b ∷ bs) h m = go (mem_across f f' x c bs (λ b' m' e. h b' (Memᴰ.tail m') e)) (Memᴰ.cases_cons m)
  where
    go : (Memᴰ x (map f bs) → Memᴰ c (map f' bs)) → (x ≡ f b) ⊎ Memᴰ x (map f bs) → Memᴰ c (f' b ∷ map f' bs)
    go rest (inl e) = Memᴰ.head (h b (Memᴰ.head refl) e)
    go rest (inr q) = Memᴰ.tail (rest q)

-- A cell c has the cell x in its reach exactly if it is one of the cells that x opens: those at the negated indices.
-- This is for any list of relative indices, a box or not.
module _ (ns : List ℕ) (positive : Positive ns) (dss : List (List ℤ)) (alike : (ds : List ℤ) → Memᴰ ds dss → Alike ns ds) where
  pub reach_opens : (c x : ℕ) → c < product ns → x < product ns → Memᴰ x (reach_of ns dss c) ↔ Memᴰ c (opens_of ns dss x)
  unfolding reach_of opens_of
  reach_opens c x lc lx = (
    mem_across (neighbour ns c) (λ (ds : List ℤ). neighbour ns x (map neg_ℤ ds)) x c dss
        (λ ds m e. sym (ap (λ (y : ℕ). neighbour ns y (map neg_ℤ ds)) e ∙ neighbour_back ns positive c ds lc (alike ds m))),
    mem_across (λ (ds : List ℤ). neighbour ns x (map neg_ℤ ds)) (neighbour ns c) c x dss
        (λ ds m e. sym (ap (λ (y : ℕ). neighbour ns y ds) e ∙ ap (λ (ds' : List ℤ). neighbour ns (neighbour ns x (map neg_ℤ ds)) ds') (sym (neg_neg ds))
        ∙ neighbour_back ns positive x (map neg_ℤ ds) lx (alike_neg ns ds (alike ds m)))),
  )

index_within : (b : Bound) (k : ℕ) → k < width b → Within b (index_at b k)
index_within b k l = go (ltb k b.back) refl
  where
    go : (t : Bool) → ltb k b.back ≡ t → Within b (cond t (negsuc (b.back - suc k)) (pos (k - b.back)))
    go true e = omega (arith, ltb-true k b.back e)
    go false e = omega (arith, ltb-false k b.back e)

-- the number of a relative index within its bound
abbrev place_of : Bound → ℤ → ℕ
place_of b (pos d) = b.back + d
place_of b (negsuc d) = b.back - suc d

place_lt : (b : Bound) (d : ℤ) → Within b d → place_of b d < width b
place_lt b (pos d) h = omega arith
place_lt b (negsuc d) h = omega arith

index_place : (b : Bound) (d : ℤ) → Within b d → index_at b (place_of b d) ≡ d
index_place b (pos d) h = rw (le-ltb (b.back + d) b.back (omega arith)) (ap pos (omega arith))
index_place b (negsuc d) h = rw (lt-ltb (b.back - suc d) b.back (omega arith)) (ap negsuc (omega arith))

abbrev places_of : List Bound → List ℤ → List ℕ
places_of [] ds = []
places_of (b ∷ bs) [] = []
places_of (b ∷ bs) (d ∷ ds) = place_of b d ∷ places_of bs ds

places_inside : (bs : List Bound) (ds : List ℤ) → AllWithin bs ds → Inside (map width bs) (places_of bs ds)
places_inside [] [] h = tt
places_inside (b ∷ bs) (d ∷ ds) h = (place_lt b d h.0, places_inside bs ds h.1)
places_inside [] (d ∷ ds) h = elim h [ ]
places_inside (b ∷ bs) [] h = elim h [ ]

indices_places : (bs : List Bound) (ds : List ℤ) → AllWithin bs ds → indices_at bs (places_of bs ds) ≡ ds
indices_places [] [] h = refl
indices_places (b ∷ bs) (d ∷ ds) h = ap₂ (λ (x : ℤ) (xs : List ℤ). x ∷ xs) (index_place b d h.0) (indices_places bs ds h.1)
indices_places [] (d ∷ ds) h = elim h [ ]
indices_places (b ∷ bs) [] h = elim h [ ]

indices_within : (bs : List Bound) (ks : List ℕ) → Inside (map width bs) ks → AllWithin bs (indices_at bs ks)
indices_within [] [] h = tt
indices_within (b ∷ bs) (k ∷ ks) h = (index_within b k h.0, indices_within bs ks h.1)
indices_within [] (k ∷ ks) h = elim h [ ]
indices_within (b ∷ bs) [] h = elim h [ ]

widths_positive : (bs : List Bound) → Positive (map width bs)
widths_positive [] = tt
widths_positive (b ∷ bs) = (omega arith, widths_positive bs)

-- The box has exactly the relative indices within the bounds.
pub mem_box : (bs : List Bound) (ds : List ℤ) → Memᴰ ds (box_indices bs) ↔ AllWithin bs ds
unfolding box_indices
mem_box bs ds = (there, back)
  where
    f : ℕ → List ℤ
    f e = indices_at bs (coordinates (map width bs) e)

    there : Memᴰ ds (list_of f (product (map width bs))) → AllWithin bs ds
    there m =
        let r = of_mem_list_of f (product (map width bs)) ds m in
        rw r.2 (indices_within bs _ (coordinates_inside (map width bs) r.0 (widths_positive bs) r.1))

    back : AllWithin bs ds → Memᴰ ds (list_of f (product (map width bs)))
    back h =
        let inside = places_inside bs ds h in
        Memᴰ.cast (sym (ap (indices_at bs) (coordinates_number (map width bs) (places_of bs ds) inside) ∙ indices_places bs ds h))
        (mem_list_of f (product (map width bs)) (cell_number (map width bs) (places_of bs ds)) (number_lt (map width bs) (places_of bs ds) inside))

alike_within : (ns : List ℕ) (bs : List Bound) (ds : List ℤ) → Alike ns bs → AllWithin bs ds → Alike ns ds
alike_within [] [] [] a h = tt
alike_within (n ∷ ns) (b ∷ bs) (d ∷ ds) a h = alike_within ns bs ds a h.1
alike_within [] [] (d ∷ ds) a h = elim h [ ]
alike_within [] (b ∷ bs) ds a h = elim a [ ]
alike_within (n ∷ ns) [] ds a h = elim a [ ]
alike_within (n ∷ ns) (b ∷ bs) [] a h = elim h [ ]

pub box_alike : (ns : List ℕ) (bs : List Bound) → Alike ns bs → (ds : List ℤ) → Memᴰ ds (box_indices bs) → Alike ns ds
box_alike ns bs a ds m = alike_within ns bs ds a ((mem_box bs ds).0 m)

pub wrap_zero : (n i : ℕ) → i < n → wrap_of i (pos 0) n ≡ i
wrap_zero n i h = simp add-zero (mod-eq_of_lt h)

shift_zeros : (ns is : List ℕ) → Inside ns is → shift ns is (zeros ns) ≡ is
shift_zeros [] [] h = refl
shift_zeros (n ∷ ns) (i ∷ is) h = ap₂ (λ (x : ℕ) (xs : List ℕ). x ∷ xs) (wrap_zero n i h.0) (shift_zeros ns is h.1)
shift_zeros [] (i ∷ is) h = elim h [ ]
shift_zeros (n ∷ ns) [] h = elim h [ ]

pub neighbour_zeros : (ns : List ℕ) (c : ℕ) → Positive ns → c < product ns → neighbour ns c (zeros ns) ≡ c
unfolding neighbour
neighbour_zeros ns c h l = ap (cell_number ns) (shift_zeros ns _ (coordinates_inside ns c h l)) ∙ number_coordinates ns c h l

pub zeros_within : (ns : List ℕ) (bs : List Bound) → Alike ns bs → AllWithin bs (zeros ns)
zeros_within [] [] a = tt
zeros_within (n ∷ ns) (b ∷ bs) a = (omega arith, zeros_within ns bs a)
zeros_within [] (b ∷ bs) a = elim a [ ]
zeros_within (n ∷ ns) [] a = elim a [ ]

pub own_in_reach : (ns : List ℕ) (bs : List Bound) → Alike ns bs → Positive ns → (c : ℕ) → c < product ns → Memᴰ c (reach_of ns (box_indices bs) c)
unfolding reach_of
own_in_reach ns bs a h c l =
    Memᴰ.cast (sym (neighbour_zeros ns c h l)) (Memᴰ.map (neighbour ns c) ((mem_box bs (zeros ns)).1 (zeros_within ns bs a)))
