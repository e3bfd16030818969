-- The automaton of a rule that reads only within its reach is lawful.
use Prim.Native.Nat.{ℕ, zero, suc, ◌+◌, ◌*◌, ◌/◌, ◌%◌, ◌<◌, ◌≤◌}
use native.Mathlib.Nat.{mul-add-div_right, mul-add-mod_self_right, div-eq_of_lt, mod-eq_of_lt, add-zero, mul-le-mul_right, div-lt_iff_lt-mul}
use native.Mathlib.Omega.{arith}
use mathlib.Core.Path.{◌≡◌, refl, sym, ap, ap₂, ◌∙◌, subst}
use mathlib.Core.Bool.{Bool, true, false, not}
use mathlib.Core.List.Memᴰ
use mathlib.Core.List.{List, [], ◌∷◌, Memᴰ}
use lib.ListN.{get_or, length}
use lib.Seq.{ext_get_or}
use lib.IntN.{ℤ, pos}
use borrow.Author.Tests.{not-false}
use Rattle.value.specs.Number.{eq_z}
use Rattle.value.proofs.Theorems.Laws.{eq_z_true, eq_z_refl}
use Rattle.automaton.specs.Promises.ListedLaws.{length_list_of, get_or_list_of, list_of_ext}
use Rattle.automaton.specs.Step.{result}
use Rattle.automaton.specs.Shape.{product, neighbour, reach_of}
use Rattle.automaton.specs.Promises.ShapeLaws.{Positive, zeros}
use Rattle.automaton.proofs.ShapeLaws.{neighbour_zeros}
use Rattle.automaton.proofs.Theorems.Quiet.{Lawful, or_false}
use Rattle.automaton.specs.Grid.{cell_of, grid_of, differ, CellRule, automaton}

pub differ_false : (a b : List ℤ) → differ a b ≡ false → a ≡ b
differ_false [] [] e = refl
differ_false [] (y ∷ ys) e = cc
differ_false (x ∷ xs) [] e = cc
differ_false (x ∷ xs) (y ∷ ys) e =
    let both = or_false (not (eq_z x y)) (differ xs ys) e in
    ap₂ (λ (a : ℤ) (l : List ℤ). a ∷ l) (eq_z_true x y (not-false (eq_z x y) both.0)) (differ_false xs ys both.1)

pub differ_self : (a : List ℤ) → differ a a ≡ false
differ_self [] = refl
differ_self (x ∷ xs) = rw (eq_z_refl x) (differ_self xs)

-- where there is a cell, no size is 0
pub positive_of : (ns : List ℕ) → 0 < product ns → Positive ns
positive_of [] l = tt
positive_of (zero ∷ ns) l = absurd (omega arith)
positive_of (suc n ∷ ns) l = (omega arith, positive_of ns (by (product ns) l))
  where
    by : (m : ℕ) → 0 < suc n * m → 0 < m
    by zero h = absurd (omega arith)
    by (suc m) h = omega arith

-- the fields of a cell are in the grid
pub cell_room : (c p f g : ℕ) → c < p → p * f ≡ g → c * f + f ≤ g
cell_room c p f g l e = omega (arith, mul-le-mul_right f l)

-- a grid's entry is the field of its cell
pub cell_of_grid_of : (fields cells : ℕ) (s : ℕ → List ℤ) (c : ℕ) → length (s c) ≡ fields → c < cells → cell_of fields (grid_of fields cells s) c ≡ s c
unfolding cell_of grid_of
cell_of_grid_of fields cells s c e l = ext_get_or (pos 0) _ (s c) (length_list_of _ fields ∙ sym e) (λ k lk. at k (subst (λ (m : ℕ). k < m) (length_list_of _ fields) lk))
  where
    at : (k : ℕ) → k < fields → get_or (cell_of fields (grid_of fields cells s) c) k (pos 0) ≡ get_or (s c) k (pos 0)
    at k lk =
        let room : c * fields + k < cells * fields = omega (arith, mul-le-mul_right fields l) in
        let z : 0 < fields = omega arith in
        get_or_list_of _ fields k (pos 0) lk ∙ get_or_list_of _ (cells * fields) (c * fields + k) (pos 0) room
        ∙ ap₂ (λ (x y : ℕ). get_or (s x) y (pos 0)) (mul-add-div_right z c k ∙ ap (λ (x : ℕ). c + x) (div-eq_of_lt lk) ∙ add-zero c)
        (mul-add-mod_self_right c fields k ∙ mod-eq_of_lt lk)

-- What is asked of a rule: it reads nothing beyond the relative indices listed, and the time only where the source has it.
pub record Bounded (fields : ℕ) (timed : Bool) (dss : List (List ℤ)) (rule : CellRule) : Type 0 where
  pub local : (look look' : List ℤ → List ℤ) (t t' : ℕ) → (timed ≡ true → t ≡ t') → ((ds : List ℤ) → Memᴰ ds dss → look ds ≡ look' ds)
      → rule look t ≡ rule look' t'
  pub sized : (look : List ℤ → List ℤ) (t : ℕ) (a : List ℤ) → ((ds : List ℤ) → length (look ds) ≡ fields) → rule look t ≡ result a → length a ≡ fields

pub some_field : (n f e : ℕ) → e < n * f → 0 < f
some_field n zero e l = omega arith
some_field n (suc f) e l = omega arith

-- The reach has the own cell, and every cell that the rule reads.
pub lawful : (ns : List ℕ) (fields : ℕ) (timed : Bool) (dss : List (List ℤ)) (rule : CellRule) → Memᴰ (zeros ns) dss → Bounded fields timed dss rule
    → Lawful (automaton ns fields timed dss rule)
unfolding automaton
lawful ns fields timed dss rule own b = record {
  Fits = λ a. length a ≡ fields;
  at_fits = λ g c. unfold cell_of in length_list_of _ fields;
  next_fits = λ g t c a e. b.sized (λ ds. cell_of fields g (neighbour ns c ds)) t a (λ ds. unfold cell_of in length_list_of _ fields) e;
  at_build = λ s fits c l. cell_of_grid_of fields (product ns) s c (fits c) l;
  build_ext = λ s s' h. unfold grid_of in list_of_ext _ _ (product ns * fields) (λ e l. ap (λ (a : List ℤ). get_or a (e % fields) (pos 0)) (h (e / fields) ((div-lt_iff_lt-mul (some_field (product ns) fields e l)).1 l)));
  differ_sound = differ_false;
  differ_same = differ_self;
  own = λ c l. Memᴰ.cast (sym (neighbour_zeros ns c (positive_of ns (omega arith)) l)) (unfold reach_of in Memᴰ.map (neighbour ns c) own);
  local = λ g g' t t' c l same agree.
      b.local (λ ds. cell_of fields g (neighbour ns c ds)) (λ ds. cell_of fields g' (neighbour ns c ds)) t t' same
      (λ ds m. agree (neighbour ns c ds) (unfold reach_of in Memᴰ.map (neighbour ns c) m));
}

-- a cell has so many fields
pub cell_length : (fields : ℕ) (g : List ℤ) (c : ℕ) → length (cell_of fields g c) ≡ fields
unfolding cell_of
cell_length fields g c = length_list_of _ fields
