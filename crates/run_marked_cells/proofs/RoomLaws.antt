-- Marks made 1, and numbers copied.
use Prim.Native.Nat.{ℕ, ◌<◌, ◌≤◌}
use native.Mathlib.Omega.{arith}
use mathlib.Core.Path.{◌≡◌, sym, ◌∙◌, subst}
use mathlib.Core.Bool.{cond}
use mathlib.Core.List.{List, map}
use lib.ListN.{length, get_or}
use lib.Seq.{ext_get_or}
use Rattle.std.proofs.lemmas.List.{length-map, get_or-map}
use Rattle.automaton.specs.Promises.ListedLaws.{Made, length_list_of, get_or_list_of}
use Rattle.automaton.specs.Step.{non_zero, marked, marks_of}

abbrev pub flag_of : ℕ → ℕ
flag_of mark = cond (non_zero mark) 1 0

pub flags : (marks : List ℕ) → map flag_of marks ≡ marks_of (marked marks) (length marks)
unfolding marked marks_of
flags marks = ext_get_or 0 _ _ (length-map marks flag_of ∙ sym (length_list_of _ (length marks)))
    (λ k l. at k (subst (λ (n : ℕ). k < n) (length-map marks flag_of) l))
  where
    at : (k : ℕ) → k < length marks → get_or (map flag_of marks) k 0 ≡ get_or (marks_of (marked marks) (length marks)) k 0
    at k l = get_or-map flag_of marks k 0 0 l ∙ sym (get_or_list_of _ (length marks) k 0 l)

-- the entries of another list
pub copied : {A : Type 0} (d : A) (from : List A) (i : ℕ) (new : List A) → Made (λ k. get_or from k d) d (length from) new i → length new ≤ i → new ≡ from
copied d from i new h l = ext_get_or d new from h.len (λ k m. h.below k (omega arith))
