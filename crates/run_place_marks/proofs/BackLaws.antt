-- A step back by a place leads to the cell at the place, negated: to a cell that has the first one in its reach.
use Prim.Native.Nat.{ℕ, zero, suc, ◌+◌, ◌-◌, ◌*◌, ◌%◌, ◌<◌, ◌≤◌}
use native.Mathlib.Nat.{mod-lt, zero-mod, not-suc-le-zero}
use native.Mathlib.Omega.{arith}
use mathlib.Core.Path.{◌≡◌, refl, sym, ap, ap₂, ◌∙◌, subst}
use mathlib.Core.Logic.{◌⊎◌, inl, inr}
use mathlib.Core.List.{List, [], ◌∷◌, ◌++◌, map}
use lib.ListN.{length, get_or, set, drop, length-set, length-append, length-drop, get_or-append, get_or-map}
use lib.Seq.{get_or-set_same, get_or-set_other, ext_get_or}
use lib.IntN.{ℤ, pos, negsuc, neg_ℤ}
use borrow.Author.Tests.{lt-ltb, le-ltb}
use Rattle.value.specs.Number.{mod_z}
use Rattle.value.specs.Worked.{decode_of, wrap_of}
use Rattle.automaton.specs.Listed.{list_of}
use Rattle.automaton.specs.Promises.ListedLaws.{length_list_of, get_or_list_of, list_of_ext, last_or_below}
use Rattle.automaton.specs.Shape.{product, cell_number, coordinates, shift, neighbour}
use Rattle.automaton.specs.Promises.Opening.{opens_of}
use Rattle.automaton.specs.Promises.ShapeLaws.{Positive}
use Rattle.automaton.proofs.ShapeLaws.{coordinates_inside, inside_at, wrap_mod}
use Rattle.run_meaning.proofs.Theorems.Digits.{coordinates_length, size_positive}
use Rattle.run_meaning.specs.Promises.Fitting.{place_at}
use Rattle.run_place_marks.specs.Promises.Placing.{step_from, cell_from, StepPlaced, Back, StepCoordinates, Backs}

neg_length : (ds : List ℤ) → length (map neg_ℤ ds) ≡ length ds
neg_length [] = refl
neg_length (d ∷ ds) = ap suc (neg_length ds)

shift_length : (ns is : List ℕ) (ds : List ℤ) → length is ≡ length ns → length ds ≡ length ns → length (shift ns is ds) ≡ length ns
shift_length [] is ds e q = refl
shift_length (n ∷ ns) [] ds e q = absurd (omega arith)
shift_length (n ∷ ns) (i ∷ is) [] e q = absurd (omega arith)
shift_length (n ∷ ns) (i ∷ is) (d ∷ ds) e q = ap suc (shift_length ns is ds (omega arith) (omega arith))

shift_at : (ns is : List ℕ) (ds : List ℤ) → length is ≡ length ns → length ds ≡ length ns → (k : ℕ) → k < length ns
    → get_or (shift ns is ds) k 0 ≡ wrap_of (get_or is k 0) (get_or ds k (pos 0)) (get_or ns k 0)
shift_at [] is ds e q k l = absurd (omega arith)
shift_at (n ∷ ns) [] ds e q k l = absurd (omega arith)
shift_at (n ∷ ns) (i ∷ is) [] e q k l = absurd (omega arith)
shift_at (n ∷ ns) (i ∷ is) (d ∷ ds) e q zero l = refl
shift_at (n ∷ ns) (i ∷ is) (d ∷ ds) e q (suc k) l = shift_at ns is ds (omega arith) (omega arith) k (omega arith)

-- the cell that a step back leads to
pub cell_back : (sizes at steps : List ℕ) (from x : ℕ) (ds : List ℤ) → StepPlaced sizes at steps from → Back sizes steps from ds
    → ((k : ℕ) → k < length sizes → get_or at k 0 ≡ get_or (coordinates sizes x) k 0) → cell_from sizes at steps from ≡ neighbour sizes x (map neg_ℤ ds)
unfolding cell_from neighbour
cell_back sizes at steps from x ds p b same =
    ap (cell_number sizes)
    (ext_get_or 0 (step_from sizes at steps from) (shift sizes (coordinates sizes x) (map neg_ℤ ds))
    (length_list_of _ (length sizes) ∙ sym (shift_length sizes _ _ (coordinates_length sizes x) there))
    (λ k l. at_dim k (subst (λ (n : ℕ). k < n) (length_list_of _ (length sizes)) l)))
  where
    there : length (map neg_ℤ ds) ≡ length sizes
    there = neg_length ds ∙ b.dims

    at_dim : (k : ℕ) → k < length sizes → get_or (step_from sizes at steps from) k 0 ≡ get_or (shift sizes (coordinates sizes x) (map neg_ℤ ds)) k 0
    at_dim k l =
        let d = neg_ℤ (get_or ds k (pos 0)) in
        get_or_list_of _ (length sizes) k 0 l
        ∙ ap₂ (λ (i s : ℕ). (i + s) % get_or sizes k 0) (same k l) (b.each k l)
        ∙ sym (wrap_mod (get_or sizes k 0) (get_or (coordinates sizes x) k 0) d (omega (arith, p.inside k l)))
        ∙ ap (λ (z : ℤ). wrap_of (get_or (coordinates sizes x) k 0) z (get_or sizes k 0)) (sym (get_or-map neg_ℤ ds k (pos 0)))
        ∙ sym (shift_at sizes (coordinates sizes x) (map neg_ℤ ds) (coordinates_length sizes x) there k l)

-- ---- the coordinates of a cell

-- written into the front of some room
pub coordinates_in : (sizes : List ℕ) (x : ℕ) (room point : List ℕ) → length room ≡ 3 → length sizes ≤ 3 → point ≡ coordinates sizes x
    → StepCoordinates sizes x (point ++ drop (length sizes) room)
coordinates_in sizes x room point three few is = record {
  len = length-append point _ ∙ omega (arith, size, length-drop (length sizes) room);
  each = λ k l. get_or-append point _ 0 k (omega (arith, size)) ∙ ap (λ (p : List ℕ). get_or p k 0) is;
}
  where
    size : length point ≡ length sizes
    size = ap length is ∙ coordinates_length sizes x

-- ---- the step back by a word's value

pub back_none : (word n : ℕ) → word ≡ 0 → 0 ≡ mod_z (neg_ℤ (decode_of word)) n
back_none word n e = sym (ap (λ (w : ℕ). mod_z (neg_ℤ (decode_of w)) n) e ∙ zero-mod n)

pub back_ahead : (word n : ℕ) → (word ≡ 0 → ⊥) → word < 2147483648 → n - 1 - (word - 1) % n ≡ mod_z (neg_ℤ (decode_of word)) n
back_ahead zero n z l = absurd (z refl)
back_ahead (suc a) n z l = simp (lt-ltb (suc a) 2147483648 l) (ap (λ (x : ℕ). n - 1 - x % n) (less a) ∙ fewer n (a % n))
  where
    less : (a : ℕ) → suc a - 1 ≡ a
    less a = omega arith

    fewer : (n x : ℕ) → n - 1 - x ≡ n - suc x
    fewer n x = omega arith

pub back_behind : (word n : ℕ) → 2147483648 ≤ word → word < 4294967296 → (4294967295 - word + 1) % n ≡ mod_z (neg_ℤ (decode_of word)) n
back_behind word n l m = simp (le-ltb word 2147483648 l, lt-ltb word 4294967296 m) (ap (λ (x : ℕ). x % n) (omega arith))

-- ---- the steps back by places

mod_below : (z : ℤ) (n : ℕ) → 0 < n → mod_z z n < n
mod_below (pos a) n h = mod-lt a h
mod_below (negsuc a) n h = omega arith

-- a step back is below the sizes
pub step_inside : (sizes steps : List ℕ) (from : ℕ) (ds : List ℤ) → Positive sizes → Back sizes steps from ds → (d : ℕ) → d < length sizes → get_or steps (from + d) 0 < get_or sizes d 0
step_inside sizes steps from ds positive s d h = subst (λ (i : ℕ). i < get_or sizes d 0) (sym (s.each d h)) (mod_below (neg_ℤ (get_or ds d (pos 0))) (get_or sizes d 0) (size_positive sizes positive d h))

-- the first d numbers of the step back by place k are set
pub record Stepping (sizes : List ℕ) (places : List (List ℕ)) (k : ℕ) (steps₀ steps : List ℕ) (d : ℕ) : Type 0 where
  pub turn : d ≤ length sizes
  pub len : length steps ≡ length steps₀
  pub each : (m : ℕ) → m < d → get_or steps (3 * k + m) 0 ≡ mod_z (neg_ℤ (decode_of (get_or (get_or places k []) m 0))) (get_or sizes m 0)
  pub before : (j : ℕ) → j < 3 * k → get_or steps j 0 ≡ get_or steps₀ j 0

module _ (sizes : List ℕ) (places : List (List ℕ)) (k : ℕ) (steps₀ : List ℕ) where
  pub stepping_start : Stepping sizes places k steps₀ steps₀ 0
  stepping_start = record { turn = omega arith; len = refl; each = λ m l. absurd (not-suc-le-zero l); before = λ j l. refl }

  pub stepping_more : (steps : List ℕ) (d : ℕ) {v : ℕ} → Stepping sizes places k steps₀ steps d → d < length sizes → 3 * k + d < length steps
      → v ≡ mod_z (neg_ℤ (decode_of (get_or (get_or places k []) d 0))) (get_or sizes d 0) → Stepping sizes places k steps₀ (set steps (3 * k + d) v) (d + 1)
  stepping_more steps d {v} s l room ev = record {
    turn = omega arith;
    len = length-set steps (3 * k + d) v ∙ s.len;
    each = λ m h. at m (last_or_below (let w : m < suc d = omega arith in w));
    before = λ j h. get_or-set_other steps (3 * k + d) j v 0 (λ q. absurd (let w = q in omega arith)) ∙ s.before j h;
  }
    where
      at : (m : ℕ) → (m ≡ d) ⊎ (m < d) → get_or (set steps (3 * k + d) v) (3 * k + m) 0 ≡ mod_z (neg_ℤ (decode_of (get_or (get_or places k []) m 0))) (get_or sizes m 0)
      at m (inl q) = rw q (get_or-set_same steps (3 * k + d) v 0 room ∙ ev)
      at m (inr q) = get_or-set_other steps (3 * k + d) (3 * k + m) v 0 (λ p. absurd (let w = p in omega arith)) ∙ s.each m q

  pub stepping_done : (steps : List ℕ) (d : ℕ) → Stepping sizes places k steps₀ steps d → length sizes ≤ d → Backs sizes places k (k + 1) steps₀ steps
  stepping_done steps d s l = record { len = s.len; each = λ i a b. let e : k ≡ i = omega arith in subst (λ (i : ℕ). Back sizes steps (3 * i) (place_at places (length sizes) i)) e here; before = s.before }
    where
      here : Back sizes steps (3 * k) (place_at places (length sizes) k)
      here = record {
        dims = length_list_of _ (length sizes);
        each = λ m h. s.each m (omega arith) ∙ ap (λ (z : ℤ). mod_z (neg_ℤ z) (get_or sizes m 0)) (sym (get_or_list_of (λ d. decode_of (get_or (get_or places k []) d 0)) (length sizes) m (pos 0) h));
      }

module _ (sizes : List ℕ) (places : List (List ℕ)) (few : length sizes ≤ 3) (steps₀ : List ℕ) where
  pub backs_start : Backs sizes places 0 0 steps₀ steps₀
  backs_start = record { len = refl; each = λ k a b. absurd (not-suc-le-zero b); before = λ j l. refl }

  pub backs_more : (steps steps' : List ℕ) (k : ℕ) → Backs sizes places 0 k steps₀ steps → Backs sizes places k (k + 1) steps steps' → Backs sizes places 0 (k + 1) steps₀ steps'
  backs_more steps steps' k s t = record {
    len = t.len ∙ s.len;
    each = λ i a b. at i (last_or_below (let w : i < suc k = omega arith in w));
    before = λ j l. absurd (omega arith);
  }
    where
      at : (i : ℕ) → (i ≡ k) ⊎ (i < k) → Back sizes steps' (3 * i) (place_at places (length sizes) i)
      at i (inl q) = t.each i (omega arith) (omega arith)
      at i (inr q) =
          let b = s.each i (omega arith) q in
          record { dims = b.dims; each = λ m h. t.before (3 * i + m) (omega arith) ∙ b.each m h }

-- ---- the cells that they lead to

map_list_of : {A B : Type 0} (g : A → B) (f : ℕ → A) (n : ℕ) → map g (list_of f n) ≡ list_of (λ k. g (f k)) n
unfolding list_of
map_list_of g f zero = refl
map_list_of g f (suc n) = append (list_of f n) ∙ ap (λ (l : List _). l ++ (g (f n) ∷ [])) (map_list_of g f n)
  where
    append : (xs : List _) → map g (xs ++ (f n ∷ [])) ≡ map g xs ++ (g (f n) ∷ [])
    append [] = refl
    append (x ∷ xs) = ap (λ (l : List _). g x ∷ l) (append xs)

module _ (sizes : List ℕ) (few : length sizes ≤ 3) (positive : Positive sizes) (cells : product sizes ≤ 1048576) (x : ℕ) (l : x < product sizes) where
  -- coordinates and a step are below the sizes
  pub placed : (at steps : List ℕ) (k : ℕ) → k < 256 → length steps ≡ 768 → ((d : ℕ) → d < length sizes → get_or at d 0 ≡ get_or (coordinates sizes x) d 0)
      → ((d : ℕ) → d < length sizes → get_or steps (3 * k + d) 0 < get_or sizes d 0) → StepPlaced sizes at steps (3 * k)
  placed at steps k lk size same inside = record {
    dims = few;
    room = omega (arith, size);
    small = omega (arith, size);
    positive = positive;
    cells = cells;
    inside = λ d h. subst (λ (i : ℕ). i < get_or sizes d 0) (sym (same d h)) (inside_at sizes _ (coordinates_inside sizes x positive l) d h);
    steps_inside = inside;
  }

  -- they are the cells that a change opens
  pub steps_open : (at steps : List ℕ) (places : List (List ℕ)) (count : ℕ) → count ≤ 256 → length steps ≡ 768 → ((d : ℕ) → d < length sizes → get_or at d 0 ≡ get_or (coordinates sizes x) d 0)
      → {steps₀ : List ℕ} → Backs sizes places 0 count steps₀ steps
      → list_of (λ k. cell_from sizes at steps (3 * k)) count ≡ opens_of sizes (list_of (place_at places (length sizes)) count) x
  unfolding opens_of
  steps_open at steps places count lc size same b =
      list_of_ext _ _ count
      (λ k h. let s = b.each k (omega arith) h in cell_back sizes at steps (3 * k) x _ (placed at steps k (omega arith) size same (step_inside sizes steps (3 * k) _ positive s)) s same)
      ∙ sym (map_list_of (λ ds. neighbour sizes x (map neg_ℤ ds)) (place_at places (length sizes)) count)
