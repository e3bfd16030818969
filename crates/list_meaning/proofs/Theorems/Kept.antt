-- Property 2, the blocks: a block of a list that passes leaves each field in its declared range, by 52 and 53.
use Prim.Native.Nat.{ℕ, suc, ◌+◌, ◌*◌, ◌%◌, ◌<◌, ◌≤◌}
use native.Mathlib.Nat.{add-zero, add-suc, suc-add, mul-add-mod_self_right, mod-eq_of_lt}
use native.Mathlib.Omega.{arith}
use native.Mathlib.Decide.{ℕ_discrete}
use mathlib.Core.Path.{◌≡◌, refl, sym, ap, ap₂, ◌∙◌, subst}
use mathlib.Core.Bool.{Bool, true, false, not}
use mathlib.Core.List.{List, [], ◌∷◌}
use mathlib.Core.Option.{Option, some, none}
use lib.ListN.{length, get_or, set, length-set}
use lib.Seq.{get_or-set_same, get_or-set_other}
use lib.Dec.{eqb, ltb}
use lib.IntN.{ℤ, pos}
use borrow.Author.Tests.{eqb-true, ltb-false}
use Rattle.std.specs.Prelude.{if◌then◌else◌}
use Rattle.value.proofs.Theorems.Laws.{and_both}
use Rattle.automaton.specs.Shape as shape
use Rattle.program.specs.Syntax.{Range, no_range, Program}
use Rattle.cell_meaning.specs.Evaluation.{in_field}
use Rattle.run_meaning.proofs.Theorems.Ranges.{FieldsInRange, entry_in_range, all_in_range}
use Rattle.list_meaning.specs.Lines.{Said, bad, time, cell, said}
use Rattle.list_meaning.specs.ListChecking.{Limits, inside, all_fit, clears, cell_line_number}
use Rattle.list_meaning.specs.Setting.{store_values, set_lines, set_block}
use Rattle.list_meaning.specs.Promises.Passing.{LinePasses}
use Rattle.list_meaning.proofs.Passing.{passes_first}

-- ---- a cell's line that is right

-- it has an index for each dimension, and no more values than fields, each in the range of its field and none 0 for the flag
pub record RightCell (q : Limits) (is : List ℕ) (vs : List (Option ℤ)) : Type 0 where
  pub counted : length is ≡ length q.sizes
  pub few : length vs ≤ length q.fields
  pub fit : all_fit q.fields vs ≡ true
  pub flag_kept : clears q.flag vs ≡ false

pub right_cell : (q : Limits) (is : List ℕ) (vs : List (Option ℤ)) → cell_line_number q is vs ≡ 0 → RightCell q is vs
unfolding cell_line_number
right_cell q is vs h =
    by (eqb (length is) (length q.sizes)) refl (inside q.sizes is) (ltb (length q.fields) (length vs)) refl (all_fit q.fields vs) refl (clears q.flag vs) refl h
  where
    by : (a : Bool) → eqb (length is) (length q.sizes) ≡ a → (b c : Bool) → ltb (length q.fields) (length vs) ≡ c → (d : Bool) → all_fit q.fields vs ≡ d → (e : Bool) → clears q.flag vs ≡ e
        → ◌≡◌ {A = ℕ} (if not a then 50 else if not b then 51 else if c then 52 else if not d then 53 else if e then 58 else 0) 0 → RightCell q is vs
    by true w true false x true y false z h =
        record { counted = eqb-true (length is) (length q.sizes) w; few = ltb-false (length q.fields) (length vs) x; fit = y; flag_kept = z }
    by true w true false x true y true z h = absurd (omega arith)
    by true w true false x false y e z h = absurd (omega arith)
    by true w true true x d y e z h = absurd (omega arith)
    by true w false c x d y e z h = absurd (omega arith)
    by false w b c x d y e z h = absurd (omega arith)

-- ---- a store

module _ (p : Program) (sizes : List ℕ) where
  -- one value that is in the range of its field
  set_keeps : (g : List ℤ) (e : ℕ) (z : ℤ) → FieldsInRange p sizes g → in_field (get_or p.fields (e % length p.fields) no_range) z ≡ true → FieldsInRange p sizes (set g e z)
  set_keeps g e z h r = all_in_range (length-set g e z ∙ h.entries) (λ k l. at k (subst (λ (n : ℕ). k < n) (length-set g e z) l) (ℕ_discrete k e))
    where
      at : (k : ℕ) → k < length g → Dec (k ≡ e) → in_field (get_or p.fields (k % length p.fields) no_range) (get_or (set g e z) k (pos 0)) ≡ true
      at k l (yes q) =
          ap₂ (λ (i : ℕ) (x : ℤ). in_field (get_or p.fields (i % length p.fields) no_range) x) q
          (ap (λ (i : ℕ). get_or (set g e z) i (pos 0)) q ∙ get_or-set_same g e z (pos 0) (subst (λ (i : ℕ). i < length g) q l)) ∙ r
      at k l (no q) = ap (in_field (get_or p.fields (k % length p.fields) no_range)) (get_or-set_other g e k z (pos 0) q) ∙ entry_in_range h k l

  -- the ranges are those of the fields from an entry on
  abbrev From : ℕ → List Range → Type 0
  From e rs = (j : ℕ) → j < length rs → get_or p.fields ((e + j) % length p.fields) no_range ≡ get_or rs j no_range

  from_first : (e : ℕ) (r : Range) (rs : List Range) → From e (r ∷ rs) → get_or p.fields (e % length p.fields) no_range ≡ r
  from_first e r rs of = ap (λ (i : ℕ). get_or p.fields (i % length p.fields) no_range) (sym (add-zero e)) ∙ of 0 (omega arith)

  from_rest : (e : ℕ) (r : Range) (rs : List Range) → From e (r ∷ rs) → From (suc e) rs
  from_rest e r rs of j l = ap (λ (i : ℕ). get_or p.fields (i % length p.fields) no_range) (suc-add e j ∙ sym (add-suc e j)) ∙ of (suc j) (omega arith)

  -- values from an entry on, each in its range
  store_keeps : (rs : List Range) (vs : List (Option ℤ)) (e : ℕ) (g : List ℤ) → length vs ≤ length rs → all_fit rs vs ≡ true → From e rs → FieldsInRange p sizes g
      → FieldsInRange p sizes (store_values g e vs)
  unfolding store_values all_fit
  store_keeps rs [] e g m f of h = h
  store_keeps [] (v ∷ vs) e g m f of h = absurd (omega arith)
  store_keeps (r ∷ rs) (none ∷ vs) e g m f of h = store_keeps rs vs (suc e) g (omega arith) f (from_rest e r rs of) h
  store_keeps (r ∷ rs) (some z ∷ vs) e g m f of h =
      let fits = and_both (in_field r z) (all_fit rs vs) f in
      store_keeps rs vs (suc e) (set g e z) (omega arith) fits.1 (from_rest e r rs of) (set_keeps g e z h (ap (λ (x : Range). in_field x z) (from_first e r rs of) ∙ fits.0))

  -- ---- the lines of a block

  module _ (q : Limits) (same : q.fields ≡ p.fields) where
    cell_keeps : (is : List ℕ) (vs : List (Option ℤ)) (c : ℕ) (g : List ℤ) → cell_line_number q is vs ≡ 0 → FieldsInRange p sizes g
        → FieldsInRange p sizes (store_values g (c * length p.fields) vs)
    cell_keeps is vs c g r h =
        let right = right_cell q is vs r in
        let few : length vs ≤ length p.fields = subst (λ (rs : List Range). length vs ≤ length rs) same right.few in
        store_keeps p.fields vs (c * length p.fields) g few (ap (λ (rs : List Range). all_fit rs vs) (sym same) ∙ right.fit)
        (λ j l. ap (λ (i : ℕ). get_or p.fields i no_range) (mul-add-mod_self_right c (length p.fields) j ∙ mod-eq_of_lt l)) h

    lines_keep : (ss : List Said) (before : Option ℕ) (n t : ℕ) (within : Bool) (g : List ℤ) → LinePasses q before n ss → FieldsInRange p sizes g
        → FieldsInRange p sizes (set_lines sizes (length p.fields) t within g ss)
    unfolding set_lines
    lines_keep [] before n t within g a h = h
    lines_keep (bad ∷ ss) before n t within g a h = absurd (let w = (passes_first q before n bad ss a).0 in omega arith)
    lines_keep (time u ∷ ss) before n t within g a h = lines_keep ss (some u) (suc n) t (eqb u t) g (passes_first q before n (time u) ss a).1 h
    lines_keep (cell is vs ∷ ss) none n t within g a h = absurd (let w = (passes_first q none n (cell is vs) ss a).0 in omega arith)
    lines_keep (cell is vs ∷ ss) (some b) n t true g a h =
        let l = passes_first q (some b) n (cell is vs) ss a in
        lines_keep ss (some b) (suc n) t true _ l.1 (cell_keeps is vs (shape.cell_number sizes is) g l.0 h)
    lines_keep (cell is vs ∷ ss) (some b) n t false g a h = lines_keep ss (some b) (suc n) t false g (passes_first q (some b) n (cell is vs) ss a).1 h

-- A block of a list that passes keeps the ranges.
pub set_block_keeps : (p : Program) (sizes : List ℕ) (q : Limits) → q.sizes ≡ sizes → q.fields ≡ p.fields → (text : List ℕ) → LinePasses q none 1 (said text)
    → (t : ℕ) (g : List ℤ) → FieldsInRange p sizes g → FieldsInRange p sizes (set_block sizes (length p.fields) text t g)
unfolding set_block
set_block_keeps p sizes q es ef text a t g h = lines_keep p sizes q ef (said text) none 1 t false g a h
