-- The room of a run under a plan: whether it is of as many rows as can be held.
use Prim.Native.Nat.{ℕ, ◌*◌, ◌/◌, ◌%◌, ◌<◌}
use native.Mathlib.Omega.{arith}
use native.Mathlib.Nat.{zero-mul, mul_assoc, mul-mod_right, div-add-mod, div-eq_of_eq-mul_right}
use mathlib.Core.Path.{◌≡◌, refl, sym, ap, ◌∙◌}
use mathlib.Core.Bool.{Bool, true, false}
use mathlib.Core.List.{List, [], ◌∷◌}
use lib.ListN.{length, get_or, drop}
use lib.Dec.{eqb}
use borrow.Author.Tests.{eq-eqb, ne_eqb, eqb-true, eqb-false}
use Rattle.value.proofs.Theorems.Laws.{never}
use Rattle.automaton.specs.Shape.{product}
use Rattle.band_run.specs.Promises.Rooms.{FitsRoom, TriesRoom}

-- ---- so many rows

module _ (width held room : ℕ) where
  pub no_rows : held ≡ 0 → eqb room 0 ≡ eqb room (held * width)
  no_rows e = ap (eqb room) (sym (ap (λ (h : ℕ). h * width) e ∙ zero-mul width))

  pub uneven : (room % held ≡ 0 → ⊥) → false ≡ eqb room (held * width)
  uneven n = sym (ne_eqb room (held * width) (λ e. n (ap (λ (x : ℕ). x % held) e ∙ mul-mod_right held width)))

  pub even : (held ≡ 0 → ⊥) → room % held ≡ 0 → eqb (room / held) width ≡ eqb room (held * width)
  even z m = by (eqb (room / held) width) refl
    where
      by : (t : Bool) → eqb (room / held) width ≡ t → t ≡ eqb room (held * width)
      by true e = sym (eq-eqb room (held * width) (omega (arith, div-add-mod room held, ap (λ (x : ℕ). held * x) (eqb-true (room / held) width e))))
      by false e = sym (ne_eqb room (held * width) (λ q. eqb-false (room / held) width e (div-eq_of_eq-mul_right (omega (arith, z)) q)))

-- ---- as wide as the grid

module _ (sizes : List ℕ) (entries held room : ℕ) where
  pub no_grid : {t : Bool} → get_or sizes 0 0 ≡ 0 → FitsRoom sizes entries held room t
  no_grid e = record { is = λ fields l. absurd (omega (arith, e, l)) }

  pub no_sizes : {t : Bool} → length sizes ≡ 0 → FitsRoom sizes entries held room t
  no_sizes e = no_grid (none sizes e)
    where
      none : (ss : List ℕ) → length ss ≡ 0 → get_or ss 0 0 ≡ 0
      none [] q = refl
      none (n ∷ ns) q = absurd (omega arith)

  pub fits_rows : {t : Bool} → t ≡ eqb room (held * (entries / get_or sizes 0 0)) → FitsRoom sizes entries held room t
  fits_rows e = record { is = λ fields l q. e ∙ ap (eqb room) (ap (λ (x : ℕ). held * x) (wide sizes fields l q) ∙ sym (mul_assoc held (product (drop 1 sizes)) fields)) }
    where
      wide : (ss : List ℕ) (fields : ℕ) → 0 < get_or ss 0 0 → entries ≡ product ss * fields → entries / get_or ss 0 0 ≡ product (drop 1 ss) * fields
      wide [] fields l q = absurd (omega arith)
      wide (n ∷ ns) fields l q = div-eq_of_eq-mul_right l (q ∙ mul_assoc n (product ns) fields)

-- ---- the length that is tried

module _ {sizes : List ℕ} {entries scratch held room : ℕ} {t : Bool} (fits : FitsRoom sizes entries held room t) where
  pub tried_right : t ≡ true → TriesRoom sizes entries scratch held room scratch
  tried_right e = record { right = λ fields l q r. refl; wrong = λ fields l q w. never (sym w ∙ sym (fits.is fields l q) ∙ e) }

  pub tried_wrong : {n : ℕ} → t ≡ false → (n ≡ entries → ⊥) → TriesRoom sizes entries scratch held room n
  tried_wrong e d = record { right = λ fields l q r. never (sym e ∙ fits.is fields l q ∙ r); wrong = λ fields l q w. d }
