-- The laws of where a part of a program is read. Assumes nothing.
use Prim.Native.Nat.{ℕ, suc}
use native.Mathlib.Omega.{arith}
use mathlib.Core.Path.{◌≡◌}
use Rattle.std.specs.Prelude.{Option, Some, None}
use Rattle.read_expressions.specs.declared.inside.Inside.{Inside}
use Rattle.read_expressions.specs.Promises.Opening.{Entered}

-- no more may be open, or one more is
module _ (loops : ℕ) (inside : Inside) {o : Option Inside} (x : Entered loops inside o) where
  pub none_free : o ≡ None → inside.free ≡ 0
  none_free e = rw e at x

  module _ {inner : Inside} (e : o ≡ Some inner) where
    pub same_cell : inner.cell ≡ inside.cell
    same_cell = let h = rw e at x in h.0

    pub loops_now : inner.loops ≡ loops
    loops_now = let h = rw e at x in h.1

    pub one_less : suc inner.free ≡ inside.free
    one_less = let h = rw e at x in omega arith
