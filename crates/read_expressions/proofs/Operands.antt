-- The laws of operands and brackets. Assumes nothing.
use Prim.Native.Nat.{ℕ, zero, suc}
use native.Mathlib.Omega.{arith}
use mathlib.Core.Path.{◌≡◌, refl}
use mathlib.Core.Bool.{Bool, true, false}
use mathlib.Core.List.{List}
use lib.Dec.{ltb}
use borrow.Author.Tests.{lt-ltb}
use Rattle.std.specs.Prelude.{Option, Some, None, if◌then◌else◌}
use Rattle.token.specs.declared.Scan.{Scan}
use Rattle.token.specs.declared.Token.{Token}
use Rattle.token.specs.Scanning.{token_in}
use Rattle.program.specs.Syntax.{Expr}
use Rattle.grammar.specs.Reader.{Reader, ◌>>=◌, ◌>>◌, next_token, opening}
use Rattle.grammar.specs.Expressions.{Cell, climb, levels, read_operand, operand_in, read_bracket}
use Rattle.read_state.specs.declared.Reading.{Reading}
use Rattle.read_state.specs.Promises.Reading.{Read}
use Rattle.read_state.specs.Promises.Reading.{anything, Gives, Passes, refusing, Moved}
use Rattle.read_state.proofs.Steps.{by_another, on, off, refused, advanced}
use Rattle.read_expressions.specs.declared.inside.Inside.{Inside}
use Rattle.read_expressions.specs.Promises.Opening.{Entered}
use Rattle.read_expressions.specs.Promises.Promises.{cell_as, some_free, inner_in}
use Rattle.read_expressions.proofs.Opening.{none_free, same_cell, one_less}

-- ---- steps

module _ {A : Type 0} {source : List ℕ} {sc : Scan} {R : A → Reading → Type 0} {s : Reading} {ns ws ns₁ ws₁ : List ℕ} {r : Read} where
  -- the next token, whatever it is
  pub looked : (h : Token → Reader A) → Gives R (h (token_in ws sc s.at)) source sc s ns ws r ns₁ ws₁ → Gives R (next_token >>= h) source sc s ns ws r ns₁ ws₁
  unfolding next_token ◌>>=◌
  looked h x = by_another refl x

  -- a choice that makes no difference to the code
  pub either : (m k : Reader A) (b : Bool) → Gives R m source sc s ns ws r ns₁ ws₁ → Gives R k source sc s ns ws r ns₁ ws₁ → Gives R (if b then m else k) source sc s ns ws r ns₁ ws₁
  either m k true x y = x
  either m k false x y = y

-- ---- brackets

-- whether one more may be open is a test of the number
free_test : (free : ℕ) → ltb 0 free ≡ some_free free
free_test zero = refl
free_test (suc free) = lt-ltb 0 (suc free) (omega arith)

pub opening_as : {sc : Scan} {s : Reading} {ws : List ℕ} {r : Read} (free : ℕ) → Passes anything (opening (ltb 0 free)) sc 1 s ws r → Passes anything (opening (some_free free)) sc 1 s ws r
opening_as free x = rw (← free_test free) x

module _ {source : List ℕ} {sc : Scan} {s : Reading} {ns ws : List ℕ} {r : Read} (cell : Cell) (free : ℕ) where
  -- an operand, by how many more brackets may be open
  pub operand_by : {R : Expr → Reading → Type 0} {ws₁ : List ℕ} → Gives R (read_operand cell (some_free free) (inner_in cell free)) source sc s ns ws r ns ws₁ → Gives R (operand_in cell free) source sc s ns ws r ns ws₁
  unfolding operand_in
  operand_by {R} {ws₁} x = by free x
    where
      by : (n : ℕ) → Gives R (read_operand cell (some_free n) (inner_in cell n)) source sc s ns ws r ns ws₁ → Gives R (operand_in cell n) source sc s ns ws r ns ws₁
      by zero y = y
      by (suc n) y = y

module _ (inside : Inside) {o : Option Inside} (x : Entered inside.loops inside o) {source : List ℕ} {sc : Scan} {s : Reading} {ns ws : List ℕ} {r : Read} where
  -- no bracket more may be open
  pub closed : (close : ℕ) → o ≡ None → r ≡ refusing ws sc s s.at 14 → Gives anything (read_bracket (some_free inside.free) (inner_in (cell_as inside.cell) inside.free) close) source sc s ns ws r ns ws
  unfolding read_bracket opening
  closed close e y = rw (none_free inside.loops inside x e) (off _ (off {R = anything} {Q = anything} _ (refused _ y) y) y)

  -- an expression behind an opening bracket
  pub entered : {inner : Inside} → o ≡ Some inner → {a : Reading} {ws₁ : List ℕ} → Moved s a → Gives anything (climb levels (operand_in (cell_as inner.cell) inner.free) 1) source sc a ns ws r ns ws₁ → Gives anything (opening (some_free inside.free) >> inner_in (cell_as inside.cell) inside.free) source sc s ns ws r ns ws₁
  unfolding opening
  entered e m y = rw (← one_less inside.loops inside x e, ← same_cell inside.loops inside x e) (on _ (advanced m) refl (λ _ _. y))
