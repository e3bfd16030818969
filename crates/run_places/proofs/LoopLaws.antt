-- The laws of the open loops.
use Prim.Native.Nat.{ℕ, suc, ◌+◌, ◌<◌, ◌≤◌}
use native.Mathlib.Nat.{not-suc-le-zero, le_refl}
use native.Mathlib.Omega.{arith}
use mathlib.Core.Path.{◌≡◌, refl, sym, ap, ap₂, ◌∙◌}
use mathlib.Core.Logic.{◌⊎◌, inl, inr}
use mathlib.Core.Bool.{Bool, true, false}
use mathlib.Core.List.{List, [], ◌∷◌, ◌++◌}
use lib.ListN.{length, get_or, set, length-set, take}
use lib.Seq.{get_or-set_same, get_or-set_other, get_or-take, length-take-le}
use Rattle.std.specs.Prelude.{if◌then◌else◌}
use Rattle.value.specs.Worked.{decode_of}
use Rattle.automaton.specs.Listed.{list_of}
use Rattle.automaton.specs.Promises.ListedLaws.{length_list_of, get_or_list_of, list_of_ext, last_or_below}
use Rattle.program.specs.Syntax.{Range, no_range, Index}
use Rattle.cell_meaning.specs.Places.{uses, used_range, used_ranges}
use Rattle.run_places.specs.declared.loops.Loops.{Loops}
use Rattle.run_places.specs.Promises.Vectors.{vector_values, ends, loops_of, open_loops}

-- the values of the first words of a list
pub values_taken : (n : ℕ) (words : List ℕ) → n ≤ length words → vector_values (take n words) (length (take n words)) ≡ vector_values words n
values_taken n words l =
    ap (list_of (λ d. decode_of (get_or (take n words) d 0))) (length-take-le n words l) ∙ list_of_ext _ _ n (λ d h. ap decode_of (get_or-take n words d 0 h))

pub loops_none : (lows highs : List ℕ) → loops_of lows highs 0 ≡ []
unfolding list_of
loops_none lows highs = refl

pub loops_more : (lows highs : List ℕ) (depth low high : ℕ) → depth < length lows → depth < length highs
    → loops_of (set lows depth low) (set highs depth high) (depth + 1) ≡ loops_of lows highs depth ++ (ends low high ∷ [])
unfolding list_of
loops_more lows highs depth low high a b =
    let e : depth + 1 ≡ suc depth = omega arith in
    ap (loops_of (set lows depth low) (set highs depth high)) e
    ∙ ap₂ (λ (x : List Range) (y : Range). x ++ (y ∷ []))
    (list_of_ext _ _ depth (λ k l. ap₂ ends (get_or-set_other lows depth k low 0 (λ q. absurd (let w = q in omega arith))) (get_or-set_other highs depth k high 0 (λ q. absurd (let w = q in omega arith)))))
    (ap₂ ends (get_or-set_same lows depth low 0 a) (get_or-set_same highs depth high 0 b))

pub open_length : (loops : Loops) → length (open_loops loops) ≡ loops.depth
open_length loops = length_list_of (λ k. ends (get_or loops.lows k 0) (get_or loops.highs k 0)) loops.depth

-- ---- the loops whose variable occurs in a relative index

module _ (loops : Loops) (is : List Index) where
  -- the first d are as the relative index has them, and the others stand
  pub record Using (lows highs : List ℕ) (d : ℕ) : Type 0 where
    pub turn : d ≤ loops.depth
    pub lens : (length lows ≡ 16) × (length highs ≡ 16)
    pub done : (k : ℕ) → k < d → ends (get_or lows k 0) (get_or highs k 0) ≡ used_range (open_loops loops) is k
    pub rest : (k : ℕ) → d ≤ k → ends (get_or lows k 0) (get_or highs k 0) ≡ ends (get_or loops.lows k 0) (get_or loops.highs k 0)

  pub using_start : length loops.lows ≡ 16 → length loops.highs ≡ 16 → Using loops.lows loops.highs 0
  using_start el eh = record { turn = omega arith; lens = (el, eh); done = λ k l. absurd (not-suc-le-zero l); rest = λ k l. refl }

  module _ {lows highs : List ℕ} {d : ℕ} (s : Using lows highs d) (l : d < loops.depth) {b : Bool} (eb : b ≡ uses d is) where
    pub using_used : b ≡ true → {lows' highs' : List ℕ} → lows' ≡ lows → highs' ≡ highs → Using lows' highs' (d + 1)
    using_used q el eh = rw (el, eh) (record { turn = omega arith; lens = s.lens; done = λ k h. at k (last_or_below (let w : k < suc d = omega arith in w)); rest = λ k h. s.rest k (omega arith) })
      where
        at : (k : ℕ) → (k ≡ d) ⊎ (k < d) → ends (get_or lows k 0) (get_or highs k 0) ≡ used_range (open_loops loops) is k
        at k (inl e) =
            rw e (s.rest d (le_refl d) ∙ sym (ap (λ (c : Bool). if c then get_or (open_loops loops) d no_range else no_range) (sym eb ∙ q)
            ∙ get_or_list_of (λ k. ends (get_or loops.lows k 0) (get_or loops.highs k 0)) loops.depth d no_range l))
        at k (inr h) = s.done k h

    pub using_unused : b ≡ false → {lows' highs' : List ℕ} → lows' ≡ set lows d 0 → highs' ≡ set highs d 0 → Using lows' highs' (d + 1)
    using_unused q el eh =
        rw (el, eh) (record {
          turn = omega arith;
          lens = (length-set lows d 0 ∙ s.lens.0, length-set highs d 0 ∙ s.lens.1);
          done = λ k h. at k (last_or_below (let w : k < suc d = omega arith in w));
          rest = λ k h. other k (λ p. absurd (let w = p in omega arith)) ∙ s.rest k (omega arith);
        })
      where
        other : (k : ℕ) → (k ≡ d → ⊥) → ends (get_or (set lows d 0) k 0) (get_or (set highs d 0) k 0) ≡ ends (get_or lows k 0) (get_or highs k 0)
        other k n = ap₂ ends (get_or-set_other lows d k 0 0 n) (get_or-set_other highs d k 0 0 n)

        at : (k : ℕ) → (k ≡ d) ⊎ (k < d) → ends (get_or (set lows d 0) k 0) (get_or (set highs d 0) k 0) ≡ used_range (open_loops loops) is k
        at k (inl e) =
            rw e (ap₂ ends (get_or-set_same lows d 0 0 (omega (arith, s.lens.0, loops.deep))) (get_or-set_same highs d 0 0 (omega (arith, s.lens.1, loops.deep)))
            ∙ sym (ap (λ (c : Bool). if c then get_or (open_loops loops) d no_range else no_range) (sym eb ∙ q)))
        at k (inr h) = other k (λ p. absurd (let w = p in omega arith)) ∙ s.done k h

  pub using_done : {lows highs : List ℕ} {d : ℕ} → Using lows highs d → loops.depth ≤ d → loops_of lows highs loops.depth ≡ used_ranges (open_loops loops) is
  using_done s l =
      list_of_ext _ _ loops.depth (λ k h. s.done k (omega arith)) ∙ ap (list_of (used_range (open_loops loops) is)) (sym (open_length loops))
