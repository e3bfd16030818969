-- When grids and a room can be compared, by their lengths: one law for each answer of the test.
use mathlib.Core.Path.{◌≡◌, refl}
use mathlib.Core.Bool.{Bool, true, false, ◌&&◌, false≢true}
use Prim.Native.Nat.{ℕ, ◌*◌, ◌/◌, ◌%◌, ◌≤◌, ◌<◌}
use native.Mathlib.Omega.{arith}
use borrow.Author.Tests.{eqb-true, eq-eqb, ne_eqb, leb-true, le-leb, lt-leb}
use lib.Dec.{eqb, leb}
use Rattle.api_comparison.specs.Differences.{most_entries, comparable}

module _ (left right k room : ℕ) where
  other_room : (room ≡ 3 * k → ⊥) → comparable left right k room ≡ false
  unfolding comparable
  other_room q = rw (ne_eqb room (3 * k) q) (by (eqb left right && leb left most_entries))
    where
      by : (t : Bool) → (t && false) ≡ false
      by true = refl
      by false = refl

  pub unlike_grids : (left ≡ right → ⊥) → comparable left right k room ≡ false
  unfolding comparable
  unlike_grids q = rw (ne_eqb left right q)

  pub long_grids : left ≡ right → most_entries < left → comparable left right k room ≡ false
  unfolding comparable
  long_grids e q = rw (eq-eqb left right e, lt-leb left most_entries q)

  pub no_thirds : (room % 3 ≡ 0 → ⊥) → comparable left right k room ≡ false
  no_thirds q = other_room (λ e. q (omega arith))

  pub other_third : (room / 3 ≡ k → ⊥) → comparable left right k room ≡ false
  other_third q = other_room (λ e. q (omega arith))

  pub all_fit : left ≡ right → left ≤ most_entries → room % 3 ≡ 0 → room / 3 ≡ k → comparable left right k room ≡ true
  unfolding comparable
  all_fit e l m d =
      let f : room ≡ 3 * k = omega arith in
      rw (eq-eqb left right e, le-leb left most_entries l, eq-eqb room (3 * k) f)

-- what lengths that fit are
pub record LengthsFit (left right k room : ℕ) : Type 0 where
  pub alike : left ≡ right
  pub short : left ≤ most_entries
  pub thirds : room ≡ 3 * k

pub fitting_lengths : (left right k room : ℕ) → comparable left right k room ≡ true → LengthsFit left right k room
unfolding comparable
fitting_lengths left right k room e = by (eqb left right) refl (leb left most_entries) refl (eqb room (3 * k)) refl e
  where
    by : (t : Bool) → eqb left right ≡ t → (u : Bool) → leb left most_entries ≡ u → (v : Bool) → eqb room (3 * k) ≡ v → (t && u && v) ≡ true → LengthsFit left right k room
    by true a true b true c e = record { alike = eqb-true left right a; short = leb-true left most_entries b; thirds = eqb-true room (3 * k) c }
    by true a true b false c e = absurd (false≢true e)
    by true a false b v c e = absurd (false≢true e)
    by false a u b v c e = absurd (false≢true e)
