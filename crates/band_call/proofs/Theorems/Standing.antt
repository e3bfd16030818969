-- What 60 means: a band is right exactly if it stands in some accepted plan.
use Prim.Native.Nat.{ℕ, zero, suc, ◌+◌, ◌-◌, ◌≤◌, ◌<◌}
use native.Mathlib.Omega.{arith}
use native.Mathlib.Nat.{add-zero, le_refl}
use mathlib.Core.Path.{◌≡◌, refl, sym, ap, ◌∙◌, subst}
use mathlib.Core.Logic.{◌⊎◌, inl, inr}
use mathlib.Core.Bool.{Bool, true, ◌&&◌}
use mathlib.Core.List.Memᴰ
use mathlib.Core.List.{List, [], ◌∷◌, ◌++◌, Memᴰ}
use lib.Dec.{eqb, leb}
use borrow.Author.Tests.{eq-eqb, le-leb, leb-true}
use Rattle.automaton.specs.Shape.{Bound}
use Rattle.automaton.specs.Bands.{Band, rows_with, runs_on, accepts}
use Rattle.band_meaning.specs.Plans.{band}
use Rattle.band_step.proofs.AllBands.{and4, runs_within}
use Rattle.band_call.specs.BandCall.{band_right}
use Rattle.band_call.proofs.AskingLaws.{right_knows, by_held}

-- so many bands of one row each, from a row on
unfoldable singles : ℕ → ℕ → List Band
singles zero from = []
singles (suc k) from = band from from ∷ singles k (suc from)

module _ (n : ℕ) (border : Bound) (held : ℕ) where
  and_all : (a b c d : Bool) → a ≡ true → b ≡ true → c ≡ true → d ≡ true → (a && (b && (c && d))) ≡ true
  and_all a b c d p q r s = rw (p, q, r, s)

  -- a band before others that run on
  runs_more : (b : Band) (bs : List Band) → b.first ≤ b.last → rows_with border b ≤ held → runs_on n border held (suc b.last) bs ≡ true → runs_on n border held b.first (b ∷ bs) ≡ true
  unfolding runs_on
  runs_more b bs l m e = and_all _ _ _ _ (eq-eqb b.first b.first refl) (le-leb b.first b.last l) (le-leb (rows_with border b) held m) e

  runs_singles : (k from : ℕ) (bs : List Band) → border.back + border.ahead < held → runs_on n border held (from + k) bs ≡ true → runs_on n border held from (singles k from ++ bs) ≡ true
  unfolding singles
  runs_singles zero from bs l e = subst (λ (x : ℕ). runs_on n border held x bs ≡ true) (add-zero from) e
  runs_singles (suc k) from bs l e =
      runs_more (band from from) (singles k (suc from) ++ bs) (le_refl from) (omega arith)
      (runs_singles k (suc from) bs l (subst (λ (x : ℕ). runs_on n border held x bs ≡ true) (omega arith) e))

  behind_singles : (k from : ℕ) (b : Band) (bs : List Band) → Memᴰ b bs → Memᴰ b (singles k from ++ bs)
  unfolding singles
  behind_singles zero from b bs m = m
  behind_singles (suc k) from b bs m = Memᴰ.tail (behind_singles k (suc from) b bs m)

  -- A right band stands in an accepted plan: its other bands have one row each.
  pub right_stands : (b : Band) → band_right n border held b ≡ true → (plan : List Band) × (accepts n border held plan ≡ true) × Memᴰ b plan
  unfolding accepts runs_on
  right_stands b e =
      let k = right_knows n border held b e in
      let few : border.back + border.ahead < held = omega (arith, k.0, k.2) in
      let rest = singles (n - suc b.last) (suc b.last) ++ [] in
      let ends : runs_on n border held (suc b.last) rest ≡ true = runs_singles (n - suc b.last) (suc b.last) [] few (eq-eqb (suc b.last + (n - suc b.last)) n (omega (arith, k.1))) in
      (singles b.first 0 ++ (b ∷ rest), runs_singles b.first 0 (b ∷ rest) few (subst (λ (x : ℕ). runs_on n border held x (b ∷ rest) ≡ true) (omega arith) (runs_more b rest k.0 k.2 ends)), behind_singles b.first 0 b (b ∷ rest) (Memᴰ.head refl))

  runs_right : (from : ℕ) (bs : List Band) → runs_on n border held from bs ≡ true → (b : Band) → Memᴰ b bs → band_right n border held b ≡ true
  unfolding runs_on
  runs_right from [] e b m = absurd (Memᴰ.not-nil m)
  runs_right from (x ∷ bs) e b m = by (Memᴰ.cases_cons m) (runs_right (suc x.last) bs c.3 b)
    where
      c : (eqb x.first from ≡ true) × (leb x.first x.last ≡ true) × (leb (rows_with border x) held ≡ true) × (runs_on n border held (suc x.last) bs ≡ true)
      c = and4 n border held (eqb x.first from) (leb x.first x.last) (leb (rows_with border x) held) (runs_on n border held (suc x.last) bs) e

      by : (b ≡ x) ⊎ Memᴰ b bs → (Memᴰ b bs → band_right n border held b ≡ true) → band_right n border held b ≡ true
      by (inr h) rest = rest h
      by (inl q) rest =
          ap (band_right n border held) q
          ∙ sym (by_held n border held x (leb-true x.first x.last c.1) (runs_within n border held (suc x.last) bs c.3) refl) ∙ c.2

  -- And every band of an accepted plan is right.
  pub stands_right : (plan : List Band) → accepts n border held plan ≡ true → (b : Band) → Memᴰ b plan → band_right n border held b ≡ true
  unfolding accepts
  stands_right plan e b m = runs_right 0 plan e b m
