-- The laws of noted cells, and of lists one behind the other.
use Prim.Native.Nat.{ℕ, zero, suc, ◌+◌, ◌%◌, ◌≤◌, ◌<◌}
use native.Mathlib.Nat.{add-zero, mod-eq_of_lt, mod-add-mod, le_refl, le-suc, le_trans, not-suc-le-zero, eq-or-lt_of_le}
use native.Mathlib.Decide.{ℕ_discrete}
use native.Mathlib.Omega.{arith}
use mathlib.Core.Path.{◌≡◌, refl, sym, ap, ap₂, ◌∙◌, subst}
use mathlib.Core.Logic.{◌⊎◌, inl, inr, ◌↔◌}
use mathlib.Core.List.Memᴰ
use mathlib.Core.List.{List, [], ◌∷◌, ◌++◌, append-nil, Memᴰ}
use lib.ListN.{length, get_or, length-set}
use lib.Seq.{get_or-set_same, get_or-set_other}
use Rattle.automaton.specs.Promises.ListedLaws.{last_or_below}
use Rattle.run_marking.specs.Promises.Noting.{note_cell, note_all, noted_rows, noted_line}

-- ---- noted cells

pub length_note_all : (cs marks : List ℕ) → length (note_all cs marks) ≡ length marks
unfolding note_all
length_note_all [] marks = refl
length_note_all (c ∷ cs) marks = length_note_all cs (note_cell marks c) ∙ length-set marks c _

pub note_all_append : (cs ds marks : List ℕ) → note_all (cs ++ ds) marks ≡ note_all ds (note_all cs marks)
unfolding note_all
note_all_append [] ds marks = refl
note_all_append (c ∷ cs) ds marks = note_all_append cs ds (note_cell marks c)

-- a cell that is not in the list keeps its mark
pub note_out : (cs : List ℕ) (k : ℕ) (marks : List ℕ) → (Memᴰ k cs → ⊥) → get_or (note_all cs marks) k 0 ≡ get_or marks k 0
unfolding note_all
note_out [] k marks out = refl
note_out (c ∷ cs) k marks out =
    note_out cs k (note_cell marks c) (λ m. out (Memᴰ.tail m)) ∙ get_or-set_other marks c k _ 0 (λ q. out (Memᴰ.head q))

-- one cell noted: the mark's remainder is kept
note_rest : (c k : ℕ) (marks : List ℕ) → k < length marks → get_or (note_cell marks c) k 0 % 2 ≡ get_or marks k 0 % 2
note_rest c k marks l = go (ℕ_discrete k c)
  where
    go : Dec (k ≡ c) → get_or (note_cell marks c) k 0 % 2 ≡ get_or marks k 0 % 2
    go (yes q) =
        ap (λ (x : ℕ). get_or (note_cell marks x) k 0 % 2) (sym q) ∙ ap (λ (x : ℕ). x % 2) (get_or-set_same marks k _ 0 l)
        ∙ (let x = get_or marks k 0 in let s : (x % 2 + 2) % 2 ≡ x % 2 = omega arith in s)
    go (no q) = ap (λ (x : ℕ). x % 2) (get_or-set_other marks c k _ 0 q)

wider : (c k : ℕ) (marks : List ℕ) → k < length marks → k < length (note_cell marks c)
wider c k marks l = omega (arith, length-set marks c (get_or marks c 0 % 2 + 2))

pub note_parity : (cs : List ℕ) (k : ℕ) (marks : List ℕ) → k < length marks → get_or (note_all cs marks) k 0 % 2 ≡ get_or marks k 0 % 2
unfolding note_all
note_parity [] k marks l = refl
note_parity (c ∷ cs) k marks l = note_parity cs k (note_cell marks c) (wider c k marks l) ∙ note_rest c k marks l

-- a cell that is noted stays so
note_kept : (cs : List ℕ) (k v : ℕ) (marks : List ℕ) → k < length marks → get_or marks k 0 ≡ v % 2 + 2 → get_or (note_all cs marks) k 0 ≡ v % 2 + 2
unfolding note_all
note_kept [] k v marks l e = e
note_kept (c ∷ cs) k v marks l e = note_kept cs k v (note_cell marks c) (wider c k marks l) (go (ℕ_discrete k c))
  where
    go : Dec (k ≡ c) → get_or (note_cell marks c) k 0 ≡ v % 2 + 2
    go (yes q) =
        ap (λ (x : ℕ). get_or (note_cell marks x) k 0) (sym q) ∙ get_or-set_same marks k _ 0 l ∙ ap (λ (x : ℕ). x % 2 + 2) e
        ∙ (let s : (v % 2 + 2) % 2 + 2 ≡ v % 2 + 2 = omega arith in s)
    go (no q) = get_or-set_other marks c k _ 0 q ∙ e

pub note_in : (cs : List ℕ) (k : ℕ) (marks : List ℕ) → k < length marks → Memᴰ k cs → get_or (note_all cs marks) k 0 ≡ get_or marks k 0 % 2 + 2
unfolding note_all
note_in [] k marks l m = absurd (Memᴰ.not-nil m)
note_in (c ∷ cs) k marks l m = go (note_in cs k (note_cell marks c) (wider c k marks l)) (Memᴰ.cases_cons m)
  where
    go : (Memᴰ k cs → get_or (note_all cs (note_cell marks c)) k 0 ≡ get_or (note_cell marks c) k 0 % 2 + 2) → (k ≡ c) ⊎ Memᴰ k cs
        → get_or (note_all cs (note_cell marks c)) k 0 ≡ get_or marks k 0 % 2 + 2
    go rest (inl q) =
        note_kept cs k (get_or marks k 0) (note_cell marks c) (wider c k marks l)
        (ap (λ (x : ℕ). get_or (note_cell marks x) k 0) (sym q) ∙ get_or-set_same marks k _ 0 l)
    go rest (inr q) = rest q ∙ ap (λ (x : ℕ). x + 2) (note_rest c k marks l)

-- ---- lists one behind the other

pub mem_rows : (f : ℕ → List ℕ) (y k : ℕ) → Memᴰ y (noted_rows f k) ↔ ((e : ℕ) × (e < k) × Memᴰ y (f e))
unfolding noted_rows
mem_rows f y zero = (λ m. absurd (Memᴰ.not-nil m), λ r. absurd (not-suc-le-zero r.1))
mem_rows f y (suc k) = (λ m. there (mem_rows f y k).0 (Memᴰ.append_cases (noted_rows f k) m), λ r. back (mem_rows f y k).1 r (last_or_below r.1))
  where
    there : (Memᴰ y (noted_rows f k) → (e : ℕ) × (e < k) × Memᴰ y (f e)) → Memᴰ y (noted_rows f k) ⊎ Memᴰ y (f k) → (e : ℕ) × (e < suc k) × Memᴰ y (f e)
    there before (inl m) = let r = before m in (r.0, le_trans r.1 (le-suc k), r.2)
    there before (inr m) = (k, le_refl (suc k), m)

    back : ((e : ℕ) × (e < k) × Memᴰ y (f e) → Memᴰ y (noted_rows f k))
        → (r : (e : ℕ) × (e < suc k) × Memᴰ y (f e)) → (r.0 ≡ k) ⊎ (r.0 < k) → Memᴰ y (noted_rows f k ++ f k)
    back before r (inl q) = Memᴰ.append_right (noted_rows f k) (subst (λ (e : ℕ). Memᴰ y (f e)) q r.2)
    back before r (inr q) = Memᴰ.append_left (f k) (before (r.0, q, r.2))

pub rows_same : (f f' : ℕ → List ℕ) (k : ℕ) → ((e : ℕ) → f e ≡ f' e) → noted_rows f k ≡ noted_rows f' k
unfolding noted_rows
rows_same f f' zero h = refl
rows_same f f' (suc k) h = ap₂ (λ (x y : List ℕ). x ++ y) (rows_same f f' k h) (h k)

-- empty rows add nothing
pub rows_skip : (f : ℕ → List ℕ) (a b : ℕ) → a ≤ b → ((k : ℕ) → a ≤ k → k < b → f k ≡ []) → noted_rows f b ≡ noted_rows f a
unfolding noted_rows
rows_skip f a zero l none = let z : 0 ≡ a = omega arith in ap (noted_rows f) z
rows_skip f a (suc b) l none = go (λ m. rows_skip f a b m (λ k p r. none k p (le_trans r (le-suc b)))) (eq-or-lt_of_le l)
  where
    go : (a ≤ b → noted_rows f b ≡ noted_rows f a) → (a ≡ suc b) ⊎ (a < suc b) → noted_rows f (suc b) ≡ noted_rows f a
    go before (inl q) = ap (noted_rows f) (sym q)
    go before (inr q) =
        let m : a ≤ b = omega arith in
        ap (λ (y : List ℕ). noted_rows f b ++ y) (none b m (le_refl (suc b))) ∙ append-nil (noted_rows f b) ∙ before m

-- ---- a loop over the coordinates of a dimension

-- the first coordinate, and the next one after a coordinate
pub at_first : (first n : ℕ) → first < n → first ≡ (first + 0) % n
at_first first n l = sym (ap (λ (x : ℕ). x % n) (add-zero first) ∙ mod-eq_of_lt l)

pub at_next : (first n j e : ℕ) {j' : ℕ} → j ≡ (first + e) % n → j' ≡ (j + 1) % n → j' ≡ (first + (e + 1)) % n
at_next first n j e at is =
    let t : first + e + 1 ≡ first + (e + 1) = omega arith in
    is ∙ ap (λ (x : ℕ). (x + 1) % n) at ∙ mod-add-mod (first + e) n 1 ∙ ap (λ (x : ℕ). x % n) t

-- the first e rows are noted
pub record Noted (f : ℕ → List ℕ) (marks₀ marks : List ℕ) (e : ℕ) : Type 0 where
  pub len : length marks ≡ length marks₀
  pub says : marks ≡ note_all (noted_rows f e) marks₀

module _ (f : ℕ → List ℕ) where
  pub noted_start : (marks : List ℕ) → Noted f marks marks 0
  unfolding note_all noted_rows
  noted_start marks = record { len = refl; says = refl }

  pub noted_more : (marks₀ marks marks' : List ℕ) (e : ℕ) → Noted f marks₀ marks e → marks' ≡ note_all (f e) marks → Noted f marks₀ marks' (e + 1)
  unfolding noted_rows
  noted_more marks₀ marks marks' e s q =
      let u : suc e ≡ e + 1 = omega arith in
      record {
        len = ap length q ∙ length_note_all (f e) marks ∙ s.len;
        says = q ∙ ap (note_all (f e)) s.says ∙ sym (note_all_append (noted_rows f e) (f e) marks₀) ∙ ap (λ (k : ℕ). note_all (noted_rows f k) marks₀) u;
      }

  pub noted_done : (marks₀ marks : List ℕ) (e count : ℕ) → Noted f marks₀ marks e → e ≡ count → marks ≡ note_all (noted_rows f count) marks₀
  noted_done marks₀ marks e count s q = s.says ∙ ap (λ (k : ℕ). note_all (noted_rows f k) marks₀) q

-- one cell of a line
pub note_line : (base n first : ℕ) (marks : List ℕ) (j e : ℕ) → j ≡ (first + e) % n → note_cell marks (base + j) ≡ note_all (noted_line base n first e) marks
unfolding note_all
note_line base n first marks j e at = ap (λ (x : ℕ). note_cell marks (base + x)) at
