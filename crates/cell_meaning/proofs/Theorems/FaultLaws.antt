-- Which faults an operator gives.
use Prim.Native.Nat.{ℕ}
use native.Mathlib.Omega.{arith}
use mathlib.Core.Path.{◌≡◌}
use mathlib.Core.Bool.{Bool, true, false, cond}
use lib.IntN.{ℤ, pos, ◌-ℤ◌, ◌*ℤ◌}
use lib.Signed.{quot_z}
use Rattle.value.specs.Number.{eq_z}
use Rattle.value.specs.Worked.{value}
use Rattle.value.specs.declared.Fault.TheVariants.{ZeroDivisor}
use Rattle.std.specs.Prelude.{Ok, Err}
use Rattle.automaton.specs.Step.{fault}
use Rattle.token.specs.Kind.{operation}
use Rattle.cell_meaning.specs.Operators.{placed, apply_binary}

-- `%` never gives 30; its value is in range (`remainder_in_range` in `value`)
pub percent_never_30 : (at place : ℕ) (a b : ℤ) → placed at (apply_binary operation.percent a b) ≡ fault 30 place → ⊥
unfolding apply_binary
percent_never_30 at place a b e = by (eq_z b (pos 0)) e
  where
    by : (t : Bool) → placed at (cond t (Err ZeroDivisor) (Ok (value (a -ℤ b *ℤ quot_z a b)))) ≡ fault 30 place → ⊥
    by true e = let y : ◌≡◌ {A = ℕ} 31 30 = cc in omega arith
    by false e = let y : ◌≡◌ {A = ℕ} 0 1 = cc in omega arith
