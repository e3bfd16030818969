use Prim.Native.Nat.{ℕ, zero, suc, ◌<◌}
use native.Mathlib.Omega.{arith}
use mathlib.Core.Path.{◌≡◌, refl, sym, ap, ◌∙◌}
use mathlib.Core.List.{List, [], ◌∷◌}
use mathlib.Core.Option.{some}
use lib.ListN.{get_or, replicate, length-replicate, get_or-replicate}
use lib.Seq.{ext_get_or}
use lib.IntN.{ℤ, pos}
use Rattle.value.specs.Worked.{decode_of}
use Rattle.automaton.specs.Listed.{list_of}
use Rattle.automaton.specs.Promises.ListedLaws.{length_list_of, get_or_list_of}
use Rattle.cell_meaning.specs.Evaluation.{offsets}
use Rattle.cell_meaning.specs.Places.{own_place}
use Rattle.run_meaning.specs.declared.Bounds.{Bounds}
use Rattle.run_meaning.specs.Reach.{own_only}
use Rattle.run_meaning.proofs.Theorems.Covering.{offsets_length}
use Rattle.run_meaning.specs.Promises.Fitting.{no_bound, bound_at, bounds_of, place_at}
use Rattle.run_meaning.proofs.own_only.Goals as goal

abbrev none : Bounds
none = record { dims = replicate 3 no_bound }

own_bound : (k : ℕ) → bound_at none k ≡ own_only
own_bound zero = refl
own_bound (suc zero) = refl
own_bound (suc (suc k)) = refl

own_bounds : (dims : ℕ) → bounds_of none dims ≡ replicate dims own_only
own_bounds dims =
    ext_get_or own_only _ _ (length_list_of (bound_at none) dims ∙ sym (length-replicate dims own_only))
    (λ k l.
    let m : k < dims = omega (arith, l, length_list_of (bound_at none) dims) in
    get_or_list_of (bound_at none) dims k own_only m ∙ own_bound k ∙ sym (get_or-replicate dims k own_only own_only m))

zero_word : (n k : ℕ) → ◌≡◌ {A = ℕ} (get_or (replicate n 0) k 0) 0
zero_word zero k = refl
zero_word (suc n) zero = refl
zero_word (suc n) (suc k) = zero_word n k

zero_index : (dims k : ℕ) → get_or (own_place dims) k (pos 0) ≡ pos 0
unfolding offsets
zero_index zero k = refl
zero_index (suc dims) zero = refl
zero_index (suc dims) (suc k) = zero_index dims k

own_first : (dims : ℕ) → place_at (replicate 256 (replicate 3 0)) dims 0 ≡ own_place dims
own_first dims =
    let f : ℕ → ℤ = λ d. decode_of (get_or (replicate 3 0) d 0) in
    ext_get_or (pos 0) _ _ (length_list_of f dims ∙ sym (offsets_length dims [] []))
    (λ k l.
    let m : k < dims = omega (arith, l, length_list_of f dims) in
    get_or_list_of f dims k (pos 0) m ∙ ap decode_of (zero_word 3 k) ∙ sym (zero_index dims k))

pub returns : goal.returns
unfolding list_of
returns c = record { bounds = own_bounds; places = λ dims. ap (λ (ds : List ℤ). some (ds ∷ [])) (own_first dims) }
