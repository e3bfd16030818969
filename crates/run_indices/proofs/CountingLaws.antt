-- The laws of counting one written index.
use Prim.Native.Nat.{ℕ, max, ◌<◌, ◌≤◌}
use native.Mathlib.Omega.{arith}
use mathlib.Core.Path.{◌≡◌, refl, sym, ap, ap₂, ◌∙◌}
use mathlib.Core.Bool.{Bool, true, false, ◌&&◌}
use mathlib.Core.List.{List}
use lib.Dec.{eqb}
use lib.ListN.{length, get_or, set, length-set}
use lib.Seq.{get_or-set_same, get_or-set_other, ext_get_or}
use borrow.Author.Tests.{eqb-true, eqb-false}
use Rattle.std.specs.Prelude.{Option, Some, None, is_none, if◌then◌else◌}
use Rattle.value.proofs.Theorems.Laws.{never}
use Rattle.value.specs.Worked.{decode_of}
use Rattle.automaton.specs.Promises.ListedLaws.{length_list_of, get_or_list_of}
use Rattle.automaton.specs.Shape.{Bound}
use Rattle.program.specs.Syntax.{Range}
use Rattle.run_meaning.specs.declared.Bounds.{Bounds}
use Rattle.program.specs.Refusal.{Refusal, refusal}
use Rattle.run_meaning.specs.Reach.{below, above, own_only, widen}
use Rattle.run_meaning.specs.Promises.Fitting.{seen, no_bound, bound_at, bound_is, bounds_of}
use Rattle.run_places.specs.Promises.Vectors.{ends}
use Rattle.run_indices.specs.declared.Count.{Count}
use Rattle.run_indices.specs.Promises.Surveying.{goes_past, tallied, far_of, tally_of, Wider, Counts}

-- ---- one dimension of a box

pub widens : (bounds : Bounds) (dim back ahead : ℕ) → dim < 3 → length bounds.dims ≡ 3
    → Wider bounds dim back ahead (record {
      dims = set bounds.dims dim (record { back = max (get_or bounds.dims dim no_bound).back back; ahead = max (get_or bounds.dims dim no_bound).ahead ahead });
    })
widens bounds dim back ahead l size = record {
  here =
      sym (bound_is _ dim l) ∙ ap seen (get_or-set_same bounds.dims dim _ no_bound (omega (arith, size)))
      ∙ ap (λ (b : Bound). record { back = max b.back back; ahead = max b.ahead ahead }) (bound_is bounds dim l);
  others = λ k m d. sym (bound_is _ k m) ∙ ap seen (get_or-set_other bounds.dims dim k _ no_bound d) ∙ bound_is bounds k m;
}

-- ---- one written index

far_none : (o : Option ℕ) → is_none o ≡ true → eqb (far_of o).number 0 ≡ true
far_none None e = refl
far_none (Some place) e = never e

far_some : (o : Option ℕ) → is_none o ≡ false → eqb (far_of o).number 0 ≡ false
far_some None e = never (sym e)
far_some (Some place) e = refl

module _ (s : Count) (size place low high : ℕ) {dim b a : ℕ} {bounds : Bounds} (w : Wider s.bounds dim b a bounds) (eb : b ≡ below (decode_of low))
    (ea : a ≡ above (decode_of high)) where
  wider : bound_at bounds dim ≡ widen (bound_at s.bounds dim) (ends low high)
  wider = w.here ∙ ap₂ (λ (x y : ℕ). record { back = max (bound_at s.bounds dim).back x; ahead = max (bound_at s.bounds dim).ahead y }) eb ea

  module _ {f : Bool} (ef : f ≡ goes_past size (ends low high)) where
    pub counts_far : is_none s.far ≡ true → f ≡ true → Counts s size place dim low high (record { far = Some place; bounds = bounds })
    counts_far z h = record { far = sym (rw (far_none s.far z, ← ef, h)); here = wider; others = w.others }

    pub counts_near : is_none s.far ≡ true → f ≡ false → Counts s size place dim low high (record { far = s.far; bounds = bounds })
    counts_near z h = record { far = sym (rw (far_none s.far z, ← ef, h)); here = wider; others = w.others }

  pub counts_after : is_none s.far ≡ false → Counts s size place dim low high (record { far = s.far; bounds = bounds })
  counts_after z = record { far = sym (rw (far_some s.far z)); here = wider; others = w.others }

-- in the count
pub counts_tallied : (sizes : List ℕ) (dims : ℕ) {s r : Count} {place dim low high : ℕ} {v : Range} → Counts s (get_or sizes dim 0) place dim low high r → dim < dims → dims ≤ 3
    → ends low high ≡ v → tally_of r dims ≡ tallied sizes (tally_of s dims) (record { place = place; dim = dim; values = v })
unfolding tallied
counts_tallied sizes dims {s} {r} {place} {dim} {low} {high} {v} c l m e =
    ap₂ (λ (x : Refusal) (y : List Bound). record { far = x; bounds = y })
    (c.far ∙ ap (λ (z : Range). if eqb (far_of s.far).number 0 && goes_past (get_or sizes dim 0) z then refusal 23 place else far_of s.far) e)
    (ext_get_or own_only (bounds_of r.bounds dims) new same_length (λ k n. at k (omega (arith, n, length_list_of (bound_at r.bounds) dims)) (eqb k dim) refl))
  where
    old : List Bound
    old = bounds_of s.bounds dims

    new : List Bound
    new = set old dim (widen (get_or old dim own_only) v)

    same_length : length (bounds_of r.bounds dims) ≡ length new
    same_length = length_list_of (bound_at r.bounds) dims ∙ sym (length-set old dim (widen (get_or old dim own_only) v) ∙ length_list_of (bound_at s.bounds) dims)

    at : (k : ℕ) → k < dims → (b : Bool) → eqb k dim ≡ b → get_or (bounds_of r.bounds dims) k own_only ≡ get_or new k own_only
    at k n true q =
        let i = eqb-true k dim q in
        get_or_list_of (bound_at r.bounds) dims k own_only n ∙ ap (bound_at r.bounds) i ∙ c.here
        ∙ ap₂ widen (sym (get_or_list_of (bound_at s.bounds) dims dim own_only l)) e
        ∙ sym (ap (λ (j : ℕ). get_or new j own_only) i ∙ get_or-set_same old dim _ own_only (omega (arith, length_list_of (bound_at s.bounds) dims)))
    at k n false q =
        let d = eqb-false k dim q in
        get_or_list_of (bound_at r.bounds) dims k own_only n ∙ c.others k (omega arith) d
        ∙ sym (get_or-set_other old dim k _ own_only d ∙ get_or_list_of (bound_at s.bounds) dims k own_only n)
