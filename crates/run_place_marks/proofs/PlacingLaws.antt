-- The laws of the cells at the steps of a list.
use Prim.Native.Nat.{ℕ, zero, suc, ◌+◌, ◌*◌, ◌%◌, ◌<◌, ◌≤◌}
use native.Mathlib.Nat.{mod-lt, mul-le-mul_right, le_trans}
use native.Mathlib.Omega.{arith}
use mathlib.Core.Path.{◌≡◌, refl, sym, ap, ap₂, ◌∙◌, subst}
use mathlib.Core.List.{List, [], ◌∷◌}
use lib.ListN.{length, get_or, set, drop}
use lib.Seq.{drop-cons, drop-length}
use Rattle.automaton.specs.Promises.ListedLaws.{length_list_of, get_or_list_of}
use Rattle.automaton.specs.Shape.{product, cell_number}
use Rattle.automaton.specs.Promises.ShapeLaws.{Inside, Positive}
use Rattle.automaton.proofs.ShapeLaws.{number_lt, product_pos}
use Rattle.run_meaning.proofs.Theorems.Digits.{size_small}
use Rattle.run_place_marks.specs.Promises.Placing.{step_from, cell_from, StepPlaced, note_places}

-- ---- the number, one dimension after the other

-- the number that coordinates give behind a number
abbrev pub horner : ℕ → List ℕ → List ℕ → ℕ
horner b [] is = b
horner b (n ∷ ns) [] = b
horner b (n ∷ ns) (i ∷ is) = horner (b * n + i) ns is

horner_is : (ns is : List ℕ) (b : ℕ) → length is ≡ length ns → horner b ns is ≡ b * product ns + cell_number ns is
horner_is [] is b e = omega arith
horner_is (n ∷ ns) [] b e = absurd (omega arith)
horner_is (n ∷ ns) (i ∷ is) b e = horner_is ns is (b * n + i) (omega arith) ∙ omega arith

grows : (a b : ℕ) → 0 < b → a ≤ a * b
grows a zero h = absurd (omega arith)
grows a (suc b) h = omega arith

positive_behind : (ns : List ℕ) → Positive ns → (k : ℕ) → 0 < product (drop k ns)
positive_behind ns h zero = product_pos ns h
positive_behind [] h (suc k) = omega arith
positive_behind (n ∷ ns) h (suc k) = positive_behind ns h.1 k

-- the number of the dimensions before k, and what the others make of it
pub record Walking (sizes at steps : List ℕ) (from number k : ℕ) : Type 0 where
  pub low : k ≤ length sizes
  pub room : (number + 1) * product (drop k sizes) ≤ 1048576
  pub rest : horner number (drop k sizes) (drop k (step_from sizes at steps from)) ≡ cell_from sizes at steps from

module _ (sizes at steps : List ℕ) (from : ℕ) (p : StepPlaced sizes at steps from) where
  pub walking_start : Walking sizes at steps from 0 0
  unfolding cell_from
  walking_start = record {
    low = omega arith;
    room = omega (arith, p.cells);
    rest = horner_is sizes (step_from sizes at steps from) 0 (length_list_of _ (length sizes)) ∙ omega arith;
  }

  -- one dimension more
  module _ (number k n j : ℕ) (w : Walking sizes at steps from number k) (l : k < length sizes) (size : n ≡ get_or sizes k 0) (is : j ≡ (get_or at k 0 + get_or steps (from + k) 0) % n) where
    rest_is : drop k sizes ≡ n ∷ drop (suc k) sizes
    rest_is = drop-cons sizes k 0 l ∙ ap (λ (x : ℕ). x ∷ drop (suc k) sizes) (sym size)

    steps_are : drop k (step_from sizes at steps from) ≡ j ∷ drop (suc k) (step_from sizes at steps from)
    steps_are =
        drop-cons (step_from sizes at steps from) k 0 (subst (λ (m : ℕ). k < m) (sym (length_list_of _ (length sizes))) l)
        ∙ ap (λ (x : ℕ). x ∷ drop (suc k) (step_from sizes at steps from))
        (get_or_list_of _ (length sizes) k 0 l ∙ ap (λ (m : ℕ). (get_or at k 0 + get_or steps (from + k) 0) % m) (sym size) ∙ sym is)

    positive : 0 < n
    positive = omega (arith, size, p.inside k l)

    below : j < n
    below = subst (λ (x : ℕ). x < n) (sym is) (mod-lt (get_or at k 0 + get_or steps (from + k) 0) positive)

    room_is : (number + 1) * (n * product (drop (suc k) sizes)) ≤ 1048576
    room_is = subst (λ (ns : List ℕ). (number + 1) * product ns ≤ 1048576) rest_is w.room

    grown : (number * n + j + 1) * product (drop (suc k) sizes) ≤ 1048576
    grown =
        let m : number * n + j + 1 ≤ (number + 1) * n = omega (arith, below) in
        le_trans (mul-le-mul_right (product (drop (suc k) sizes)) m) (omega (arith, room_is))

    pub walking_fits : number * n + j < 1048576
    walking_fits = let q = positive_behind sizes p.positive (suc k) in omega (arith, grown, grows (number * n + j + 1) (product (drop (suc k) sizes)) q)

    pub walking_more : Walking sizes at steps from (number * n + j) (k + 1)
    walking_more =
        let next : suc k ≡ k + 1 = omega arith in
        subst (λ (i : ℕ). Walking sizes at steps from (number * n + j) i) next
        (record {
          low = l;
          room = grown;
          rest = sym (ap₂ (λ (ns is : List ℕ). horner number ns is) rest_is steps_are) ∙ w.rest;
        })

  -- with a coordinate more it stays below the number of cells
  pub walking_grows : (number k : ℕ) → Walking sizes at steps from number k → k < length sizes → number * get_or sizes k 0 ≤ 1048576
  walking_grows number k w l =
      let q = positive_behind sizes p.positive (suc k) in
      let r : (number + 1) * (get_or sizes k 0 * product (drop (suc k) sizes)) ≤ 1048576 = subst (λ (ns : List ℕ). (number + 1) * product ns ≤ 1048576) (drop-cons sizes k 0 l) w.room in
      omega (arith, r, grows (number * get_or sizes k 0) (product (drop (suc k) sizes)) q)

  -- the next number as the code has it: the step's result by its promise
  pub step_is : (k n s j : ℕ) → s ≡ get_or steps (from + k) 0 → j ≡ (get_or at k 0 + s) % n → j ≡ (get_or at k 0 + get_or steps (from + k) 0) % n
  step_is k n s j e q = q ∙ ap (λ (x : ℕ). (get_or at k 0 + x) % n) e

  -- what a step in one dimension asks
  pub step_ready : (number k n s : ℕ) → Walking sizes at steps from number k → k < length sizes → n ≡ get_or sizes k 0 → s ≡ get_or steps (from + k) 0
      → (get_or at k 0 < n) × (s ≤ n) × (n ≤ 1048576)
  step_ready number k n s w l size is = (
    subst (λ (m : ℕ). get_or at k 0 < m) (sym size) (p.inside k l),
    omega (arith, size, is, p.steps_inside k l),
    subst (λ (m : ℕ). m ≤ 1048576) (sym size) (le_trans (size_small sizes p.positive k l) p.cells),
  )

  pub walking_done : (number k : ℕ) → Walking sizes at steps from number k → length sizes ≤ k → number ≡ cell_from sizes at steps from
  walking_done number k w l =
      let e : k ≡ length sizes = omega (arith, w.low, l) in
      sym (ap (λ (ns : List ℕ). horner number ns (drop k (step_from sizes at steps from))) (ap (λ (i : ℕ). drop i sizes) e ∙ drop-length sizes)) ∙ w.rest

-- ---- the cell is in the grid

inside_of : (ns is : List ℕ) → length is ≡ length ns → ((k : ℕ) → k < length ns → get_or is k 0 < get_or ns k 0) → Inside ns is
inside_of [] [] e h = tt
inside_of [] (i ∷ is) e h = absurd (omega arith)
inside_of (n ∷ ns) [] e h = absurd (omega arith)
inside_of (n ∷ ns) (i ∷ is) e h = (h 0 (omega arith), inside_of ns is (omega arith) (λ k l. h (suc k) (omega arith)))

pub cell_below : (sizes at steps : List ℕ) (from : ℕ) → StepPlaced sizes at steps from → cell_from sizes at steps from < product sizes
unfolding cell_from
cell_below sizes at steps from p =
    number_lt sizes (step_from sizes at steps from)
    (inside_of sizes (step_from sizes at steps from) (length_list_of _ (length sizes))
    (λ k l. subst (λ (x : ℕ). x < get_or sizes k 0) (sym (get_or_list_of _ (length sizes) k 0 l)) (mod-lt (get_or at k 0 + get_or steps (from + k) 0) (omega (arith, p.inside k l)))))

-- one place more is noted
pub note_more : (sizes at steps marks₀ marks : List ℕ) (k c : ℕ) → marks ≡ note_places sizes at steps k marks₀ → c ≡ cell_from sizes at steps (3 * k)
    → set marks c (get_or marks c 0 % 2 + 2) ≡ note_places sizes at steps (k + 1) marks₀
unfolding note_places
note_more sizes at steps marks₀ marks k c e q =
    let next : suc k ≡ k + 1 = omega arith in
    ap₂ (λ (m : List ℕ) (x : ℕ). set m x (get_or m x 0 % 2 + 2)) e q ∙ ap (λ (i : ℕ). note_places sizes at steps i marks₀) next

pub note_none : (sizes at steps marks : List ℕ) → marks ≡ note_places sizes at steps 0 marks
unfolding note_places
note_none sizes at steps marks = refl

-- so many places are noted
pub record Noted (sizes at steps marks₀ marks : List ℕ) (count k : ℕ) : Type 0 where
  pub low : k ≤ count
  pub len : length marks ≡ length marks₀
  pub is : marks ≡ note_places sizes at steps k marks₀

pub noted_done : (sizes at steps marks₀ marks : List ℕ) (count k : ℕ) → Noted sizes at steps marks₀ marks count k → count ≤ k → marks ≡ note_places sizes at steps count marks₀
noted_done sizes at steps marks₀ marks count k h l =
    let e : k ≡ count = omega (arith, h.low, l) in h.is ∙ ap (λ (i : ℕ). note_places sizes at steps i marks₀) e
