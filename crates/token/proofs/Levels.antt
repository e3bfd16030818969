-- The laws of the levels of operators. Assumes nothing.
use Prim.Native.Nat.{ℕ, zero, suc, ◌+◌, ◌-◌, ◌≤◌, ◌<◌}
use native.Mathlib.Omega.{arith}
use mathlib.Core.Path.{◌≡◌, ap, ◌∙◌}
use mathlib.Core.Bool.{Bool, true, false, ◌||◌}
use mathlib.Core.Logic.{◌⊎◌, inl, inr}
use borrow.Author.Tests.{ne_eqb}
use lib.Dec.{eqb}
use Rattle.std.specs.Prelude.{if◌then◌else◌}
use Rattle.token.specs.Kind.{level_of}

-- three kinds in a row are of a level
pub level_of_three : (b n : ℕ) → n ≡ level_of b → n ≡ level_of (b + 1) → n ≡ level_of (b + 2) → (k : ℕ) → b ≤ k → k < b + 3 → n ≡ level_of k
level_of_three b n p q r k l h = by (k - b) (omega arith)
  where
    by : (d : ℕ) → b + d ≡ k → n ≡ level_of k
    by zero e = p ∙ ap level_of (omega arith)
    by (suc zero) e = q ∙ ap level_of (omega arith)
    by (suc (suc zero)) e = r ∙ ap level_of (omega arith)
    by (suc (suc (suc d))) e = absurd (omega arith)

-- any other kind is no operator
pub level_of_none : (k : ℕ) → ((k ≡ 37) ⊎ ((k ≡ 42) ⊎ (k ≡ 47)) → ⊥) → ((k ≡ 43) ⊎ (k ≡ 45) → ⊥) → ((k ≡ 38) ⊎ (k ≡ 124) → ⊥) → (60 ≤ k → k < 63 → ⊥) → (130 ≤ k → k < 133 → ⊥) → 0 ≡ level_of k
unfolding level_of
level_of_none k a b c d e =
    simp
    (ne_eqb k 37 (λ x. a (inl x)), ne_eqb k 42 (λ x. a (inr (inl x))), ne_eqb k 47 (λ x. a (inr (inr x))), ne_eqb k 43 (λ x. b (inl x)), ne_eqb k 45 (λ x. b (inr x)), ne_eqb k 38 (λ x. c (inl x)), ne_eqb k 124 (λ x. c (inr x)), ne_eqb k 60 (λ x. d (omega arith) (omega arith)), ne_eqb k 61 (λ x. d (omega arith) (omega arith)), ne_eqb k 62 (λ x. d (omega arith) (omega arith)), ne_eqb k 130 (λ x. e (omega arith) (omega arith)), ne_eqb k 131 (λ x. e (omega arith) (omega arith)), ne_eqb k 132 (λ x. e (omega arith) (omega arith)))

-- there are four levels
few : (a b c d : Bool) → (if a then 4 else if b then 3 else if c then 2 else if d then 1 else 0) ≤ 4
few true b c d = omega arith
few false true c d = omega arith
few false false true d = omega arith
few false false false true = omega arith
few false false false false = omega arith

pub level_few : (k : ℕ) → level_of k ≤ 4
unfolding level_of
level_few k =
    few
    (eqb k 42 || eqb k 47 || eqb k 37)
    (eqb k 43 || eqb k 45)
    (eqb k 61 || eqb k 132 || eqb k 60 || eqb k 62 || eqb k 130 || eqb k 131)
    (eqb k 38 || eqb k 124)
