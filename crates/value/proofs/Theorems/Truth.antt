-- Laws of truth values, and the cases of a list that do not hold.
use Prim.Native.Nat.{ℕ, suc}
use mathlib.Core.Path.{◌≡◌, refl}
use mathlib.Core.Logic.{◌⊎◌, inl, inr}
use mathlib.Core.Bool.{Bool, true, false, ◌&&◌, ◌||◌}
use mathlib.Core.List.{List, [], ◌∷◌}

pub or_either : (a b : Bool) → (a || b) ≡ true → (a ≡ true) ⊎ (b ≡ true)
or_either true b e = inl refl
or_either false b e = inr e

pub or_second : (a : Bool) {b : Bool} → b ≡ true → (a || b) ≡ true
or_second true e = refl
or_second false e = e

pub or_true : (a : Bool) → (a || true) ≡ true
or_true a = or_second a refl

pub or_no : (a : Bool) → (a || false) ≡ a
or_no true = refl
or_no false = refl

pub neither : {a b : Bool} → a ≡ false → b ≡ false → (a || b) ≡ false
neither p q = rw (p, q)

pub and_false : (t : Bool) → (t && false) ≡ false
and_false true = refl
and_false false = refl

-- the numbers of the cases that do not hold, of which the first has the number n
unfoldable pub failing : {Case : Type 0} → (Case → Bool) → ℕ → List Case → List ℕ
failing holds n [] = []
failing holds n (c ∷ cs) = elim (holds c) [ true ↦ failing holds (suc n) cs | false ↦ n ∷ failing holds (suc n) cs ]
