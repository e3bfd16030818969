-- Binary operators stand before the end, and unary operators. Assumes nothing.
use Prim.Native.Nat.{ℕ, zero, suc, ◌≤◌, ◌<◌}
use native.Mathlib.Omega.{arith}
use mathlib.Core.Path.{◌≡◌, refl, sym, ◌∙◌}
use mathlib.Core.Bool.{Bool, true, ◌||◌}
use mathlib.Core.List.{List}
use Rattle.token.specs.Kind.{operation, level_of}
use Rattle.token.specs.declared.Scan.{Scan}
use Rattle.token.specs.declared.Token.{Token}
use Rattle.program.specs.Promises.Standing.{Stands}
use Rattle.grammar.specs.Reader.{is_kind}
use Rattle.grammar.specs.Constants.{is_sign}
use Rattle.read_expressions.specs.Promises.Promises.{is_unary_token}

-- an operator is no stop
pub operator_inside : {ws : List ℕ} {sc : Scan} {i own : ℕ} {t : Token} → Stands ws sc i t → own ≡ level_of t.kind → 1 ≤ own → i < sc.count
unfolding level_of
operator_inside {sc = sc} {i = i} {own = own} {t = t} st o h = let l = by t.kind o in omega (arith, st.inside)
  where
    by : (k : ℕ) → own ≡ level_of k → 1 ≤ k
    by zero e = absurd (omega arith)
    by (suc k) e = omega arith

-- a unary operator, as the definition tests it, and it is no stop
pub unary_token : (t : Token) → (is_sign t || is_kind t operation.not) ≡ is_unary_token t.kind
unfolding is_sign
unary_token t = refl

pub unary_inside : {ws : List ℕ} {sc : Scan} {i : ℕ} {t : Token} → Stands ws sc i t → {b : Bool} → b ≡ is_unary_token t.kind → b ≡ true → i < sc.count
unary_inside {sc = sc} {i = i} {t = t} st p e = let l = by t.kind (sym p ∙ e) in omega (arith, st.inside)
  where
    by : (k : ℕ) → is_unary_token k ≡ true → 1 ≤ k
    by zero q = cc
    by (suc k) q = omega arith
