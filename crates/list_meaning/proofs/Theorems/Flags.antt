-- A list that passes for a source that moves a pixel once sets no flag to 0, so that what is claimed of runs holds of runs with a list.
use Prim.Native.Nat.{ℕ, zero, suc, ◌+◌, ◌*◌, ◌%◌, ◌<◌}
use native.Mathlib.Nat.{mul-add-mod_self_right, mod-eq_of_lt}
use native.Mathlib.Omega.{arith}
use mathlib.Core.Path.{◌≡◌, refl, sym, ap, ◌∙◌, subst}
use mathlib.Core.Logic.{◌⊎◌, inl, inr}
use mathlib.Core.Bool.{Bool, true, false}
use mathlib.Core.List.{List, [], ◌∷◌}
use mathlib.Core.Option.{Option, none, some}
use lib.ListN.{length, get_or, set, get_or-eq_default}
use lib.Dec.{eqb, ltb}
use lib.IntN.{ℤ, pos}
use borrow.Author.Tests.{ltb-false, ltb-true}
use Rattle.value.specs.Number.{eq_z}
use Rattle.value.proofs.Theorems.Laws.{never, and_both}
use Rattle.automaton.specs.Promises.ListedLaws.{get_or_list_of}
use Rattle.automaton.specs.Shape as shape
use Rattle.automaton.specs.Promises.ShapeLaws.{Positive}
use Rattle.automaton.specs.Grid.{cell_of}
use Rattle.program.specs.Syntax.{Range, no_range, Program}
use Rattle.cell_meaning.specs.Evaluation.{in_field}
use Rattle.run_meaning.specs.Admission.{out_of_field}
use Rattle.move_meaning.proofs.Theorems.Moving.{OneMove}
use Rattle.move_meaning.proofs.Theorems.Runs.{flag, Flags, KeepsFlags}
use Rattle.list_meaning.specs.Lines.{Said, bad, time, cell, said}
use Rattle.list_meaning.specs.ListChecking.{Limits, value_fits, all_fit, is_zero, clears, cell_line_number}
use Rattle.list_meaning.specs.Setting.{store_values, set_lines, set_block}
use Rattle.list_meaning.specs.Promises.Passing.{LinePasses}
use Rattle.list_meaning.proofs.Passing.{passes_first}
use Rattle.list_meaning.proofs.Theorems.Kept.{right_cell}
use Rattle.list_meaning.proofs.Theorems.RoundTrip.{store_length, Flagged, zero_or_one, flag_in_range}

-- ---- values stored

-- a value is kept, or is 1
abbrev KeptOrOne : ℤ → ℤ → Type 0
KeptOrOne a b = (b ≡ a) ⊎ (b ≡ pos 1)

kept_both : {a b c : ℤ} → KeptOrOne a b → KeptOrOne b c → KeptOrOne a c
kept_both (inl p) (inl q) = inl (q ∙ p)
kept_both (inr p) (inl q) = inr (q ∙ p)
kept_both p (inr q) = inr q

set_kept : (g : List ℤ) (e i : ℕ) (z : ℤ) → (i ≡ e → z ≡ pos 1) → KeptOrOne (get_or g i (pos 0)) (get_or (set g e z) i (pos 0))
set_kept [] e i z h = inl refl
set_kept (x ∷ g) zero zero z h = inr (h refl)
set_kept (x ∷ g) zero (suc i) z h = inl refl
set_kept (x ∷ g) (suc e) zero z h = inl refl
set_kept (x ∷ g) (suc e) (suc i) z h = set_kept g e i z (λ q. h (ap suc q))

-- an entry is kept or 1 where the value for it, if there is one, is 1
store_kept : (vs : List (Option ℤ)) (g : List ℤ) (e i : ℕ) → ((k : ℕ) → i ≡ e + k → (z : ℤ) → get_or vs k none ≡ some z → z ≡ pos 1)
    → KeptOrOne (get_or g i (pos 0)) (get_or (store_values g e vs) i (pos 0))
unfolding store_values
store_kept [] g e i h = inl refl
store_kept (none ∷ vs) g e i h = store_kept vs g (suc e) i (λ k q z r. h (suc k) (omega arith) z r)
store_kept (some y ∷ vs) g e i h =
    kept_both (set_kept g e i y (λ q. h 0 (omega arith) y refl)) (store_kept vs (set g e y) (suc e) i (λ k q z r. h (suc k) (omega arith) z r))

-- ---- a line that is right

below : (vs : List (Option ℤ)) (k : ℕ) (z : ℤ) → get_or vs k none ≡ some z → k < length vs
below vs k z q = by (ltb k (length vs)) refl
  where
    by : (t : Bool) → ltb k (length vs) ≡ t → k < length vs
    by true e = ltb-true k (length vs) e
    by false e =
        let r : none ≡ some z = sym (get_or-eq_default vs none {n = k} (ltb-false k (length vs) e)) ∙ q in
        absurd (let y : ◌≡◌ {A = ℕ} 0 1 = cc in omega arith)

fit_at : (rs : List Range) (vs : List (Option ℤ)) (k : ℕ) (z : ℤ) → all_fit rs vs ≡ true → k < length rs → get_or vs k none ≡ some z → in_field (get_or rs k no_range) z ≡ true
unfolding all_fit
fit_at rs [] k z e l q = absurd (let y : ◌≡◌ {A = ℕ} 0 1 = cc in omega arith)
fit_at [] (v ∷ vs) k z e l q = absurd (omega arith)
fit_at (r ∷ rs) (v ∷ vs) zero z e l q = ap (value_fits r) (sym q) ∙ (and_both (value_fits r v) (all_fit rs vs) e).0
fit_at (r ∷ rs) (v ∷ vs) (suc k) z e l q = fit_at rs vs k z (and_both (value_fits r v) (all_fit rs vs) e).1 (omega arith) q

module _ (q : Limits) (f : ℕ) (has : f < length q.fields) (flagged : Flagged q.fields (some f)) (flag_is : q.flag ≡ some f) where
  -- it gives the flag 1 or nothing
  gives_one : (is : List ℕ) (vs : List (Option ℤ)) → cell_line_number q is vs ≡ 0 → (z : ℤ) → get_or vs f none ≡ some z → z ≡ pos 1
  gives_one is vs e z g =
      let right = right_cell q is vs e in
      by
      (zero_or_one z (ap (λ (r : Range). in_field r z) (sym flagged) ∙ fit_at q.fields vs f z right.fit has g))
      (ap is_zero (sym g) ∙ ap (λ (o : Option ℕ). clears o vs) (sym flag_is) ∙ right.flag_kept)
    where
      by : (z ≡ pos 0) ⊎ (z ≡ pos 1) → eq_z z (pos 0) ≡ false → z ≡ pos 1
      by (inl x) n = never (sym n ∙ ap (λ (y : ℤ). eq_z y (pos 0)) x)
      by (inr x) n = x

  line_kept : (is : List ℕ) (vs : List (Option ℤ)) → cell_line_number q is vs ≡ 0 → (c e : ℕ) (g : List ℤ)
      → KeptOrOne (get_or g (c * length q.fields + f) (pos 0)) (get_or (store_values g (e * length q.fields) vs) (c * length q.fields + f) (pos 0))
  line_kept is vs r c e g = store_kept vs g (e * length q.fields) (c * length q.fields + f) one
    where
      one : (k : ℕ) → c * length q.fields + f ≡ e * length q.fields + k → (z : ℤ) → get_or vs k none ≡ some z → z ≡ pos 1
      one k there z v =
          let low : k < length q.fields = omega (arith, below vs k z v, (right_cell q is vs r).few) in
          let same : k ≡ f =
          sym (mod-eq_of_lt low) ∙ sym (mul-add-mod_self_right e (length q.fields) k) ∙ ap (λ (i : ℕ). i % length q.fields) (sym there)
          ∙ mul-add-mod_self_right c (length q.fields) f ∙ mod-eq_of_lt has
          in
          gives_one is vs r z (subst (λ (i : ℕ). get_or vs i none ≡ some z) same v)

  -- ---- the lines of a block

  lines_kept : (ss : List Said) (before : Option ℕ) (n : ℕ) → LinePasses q before n ss → (sizes : List ℕ) (t : ℕ) (within : Bool) (c : ℕ) (g : List ℤ)
      → KeptOrOne (get_or g (c * length q.fields + f) (pos 0)) (get_or (set_lines sizes (length q.fields) t within g ss) (c * length q.fields + f) (pos 0))
  unfolding set_lines
  lines_kept [] before n a sizes t within c g = inl refl
  lines_kept (bad ∷ ss) before n a sizes t within c g = lines_kept ss before (suc n) (passes_first q before n bad ss a).1 sizes t within c g
  lines_kept (time u ∷ ss) before n a sizes t within c g = lines_kept ss (some u) (suc n) (passes_first q before n (time u) ss a).1 sizes t (eqb u t) c g
  lines_kept (cell is vs ∷ ss) none n a sizes t within c g = absurd (let w = (passes_first q none n (cell is vs) ss a).0 in omega arith)
  lines_kept (cell is vs ∷ ss) (some b) n a sizes t true c g =
      let h = passes_first q (some b) n (cell is vs) ss a in
      kept_both (line_kept is vs h.0 c (shape.cell_number sizes is) g) (lines_kept ss (some b) (suc n) h.1 sizes t true c _)
  lines_kept (cell is vs ∷ ss) (some b) n a sizes t false c g = lines_kept ss (some b) (suc n) (passes_first q (some b) n (cell is vs) ss a).1 sizes t false c g

lines_length : (sizes : List ℕ) (fields t : ℕ) (ss : List Said) (within : Bool) (g : List ℤ) → length (set_lines sizes fields t within g ss) ≡ length g
unfolding set_lines
lines_length sizes fields t [] within g = refl
lines_length sizes fields t (bad ∷ ss) within g = lines_length sizes fields t ss within g
lines_length sizes fields t (time u ∷ ss) within g = lines_length sizes fields t ss (eqb u t) g
lines_length sizes fields t (cell is vs ∷ ss) true g = lines_length sizes fields t ss true _ ∙ store_length vs g (shape.cell_number sizes is * fields)
lines_length sizes fields t (cell is vs ∷ ss) false g = lines_length sizes fields t ss false g

-- ---- the claims

module _ (f : ℕ) (p : Program) (h : OneMove f p) (sizes : List ℕ) (dims : length sizes ≡ p.dims) (positive : Positive sizes) where
  flag_entry : (g : List ℤ) (c : ℕ) → flag f p h sizes dims positive g c ≡ get_or g (c * length p.fields + f) (pos 0)
  unfolding cell_of
  flag_entry g c = get_or_list_of (λ k. get_or g (c * length p.fields + k) (pos 0)) (length p.fields) f (pos 0) h.has

  -- the blocks of a list that passes with the flag keep every flag that is 1
  pub list_keeps : (q : Limits) → q.fields ≡ p.fields → q.flag ≡ some f → (text : List ℕ) → LinePasses q none 1 (said text)
      → KeepsFlags f p h sizes dims positive (set_block sizes (length p.fields) text)
  unfolding set_block
  list_keeps q same flag_is text passes =
      record {
        keeps_one = λ t g c l set. one (kept t g c) set;
        in_range = λ t g flags c l. either (kept t g c) (flags c l);
        size = λ t g. lines_length sizes (length p.fields) t (said text) false g;
      }
    where
      entries : (rs : List Range) → q.fields ≡ rs → f < length rs → Flagged rs (some f) → (t : ℕ) (g : List ℤ) (c : ℕ)
          → KeptOrOne (get_or g (c * length rs + f) (pos 0)) (get_or (set_block sizes (length rs) text t g) (c * length rs + f) (pos 0))
      entries rs e has flagged t g c =
          subst (λ (xs : List Range). KeptOrOne (get_or g (c * length xs + f) (pos 0)) (get_or (set_lines sizes (length xs) t false g (said text)) (c * length xs + f) (pos 0))) e
          (lines_kept q f (subst (λ (xs : List Range). f < length xs) (sym e) has) (ap (λ (xs : List Range). get_or xs f no_range) e ∙ flagged) flag_is (said text) none 1 passes sizes t false c g)

      kept : (t : ℕ) (g : List ℤ) (c : ℕ) → KeptOrOne (flag f p h sizes dims positive g c) (flag f p h sizes dims positive (set_block sizes (length p.fields) text t g) c)
      kept t g c =
          subst (λ (x : ℤ). KeptOrOne x (flag f p h sizes dims positive (set_block sizes (length p.fields) text t g) c)) (sym (flag_entry g c))
          (subst (λ (y : ℤ). KeptOrOne (get_or g (c * length p.fields + f) (pos 0)) y) (sym (flag_entry (set_block sizes (length p.fields) text t g) c)) (entries p.fields same h.has h.flag t g c))

      one : {a b : ℤ} → KeptOrOne a b → a ≡ pos 1 → b ≡ pos 1
      one (inl x) y = x ∙ y
      one (inr x) y = x

      either : {a b : ℤ} → KeptOrOne a b → (a ≡ pos 0) ⊎ (a ≡ pos 1) → (b ≡ pos 0) ⊎ (b ≡ pos 1)
      either (inl x) (inl y) = inl (x ∙ y)
      either (inl x) (inr y) = inr (x ∙ y)
      either (inr x) y = inr x

  -- in a grid that passes 24 every flag is 0 or 1
  pub admitted_flags : (g : List ℤ) → (out_of_field p.fields 0 g).number ≡ 0 → Flags f p h sizes dims positive g
  admitted_flags g e c l = subst (λ (z : ℤ). (z ≡ pos 0) ⊎ (z ≡ pos 1)) (sym (flag_entry g c)) (by (ltb (c * length p.fields + f) (length g)) refl)
    where
      by : (t : Bool) → ltb (c * length p.fields + f) (length g) ≡ t
          → (get_or g (c * length p.fields + f) (pos 0) ≡ pos 0) ⊎ (get_or g (c * length p.fields + f) (pos 0) ≡ pos 1)
      by true q = flag_in_range p.fields f h.has h.flag g e c (ltb-true (c * length p.fields + f) (length g) q)
      by false q = inl (get_or-eq_default g (pos 0) {n = c * length p.fields + f} (ltb-false (c * length p.fields + f) (length g) q))
