-- The laws of turns that the place behind them tells. Assumes nothing.
use Prim.Native.Nat.{ℕ}
use mathlib.Core.Path.{◌≡◌, refl}
use mathlib.Core.Bool.{Bool, true, false, not}
use mathlib.Core.List.{List}
use Rattle.token.specs.declared.Scan.{Scan}
use Rattle.grammar.specs.Reader.{ok, Reader, Turn, again, done}
use Rattle.read_state.specs.Promises.Reading.{input, state, anything, once_more, AtEnd, Gives}
use Rattle.read_state.specs.declared.Reading.{Reading}
use Rattle.read_state.specs.Promises.Reading.{Read}
use Rattle.std.specs.Prelude.{Ok}
use Rattle.read_state.proofs.Steps.{went_on}
use Rattle.read_statements.specs.Promises.Promises.{TurnIn, once, ends}

-- a place tells whether a turn is the last
pub not_both : {b : Bool} → b ≡ true → b ≡ false → ⊥
not_both p q = cc

pub is_more : (b : Bool) → not b ≡ false → b ≡ true
is_more true e = refl
is_more false e = cc

pub no_more : (b : Bool) → not b ≡ true → b ≡ false
no_more true e = cc
no_more false e = refl

module _ {S T : Type 0} {A : S → Reading → Type 0} {D : Reading → Type 0} {m : Reader (Turn S T)} {source : List ℕ} {sc : Scan} {s t : Reading} {ns ws ns₁ ws₁ : List ℕ} {r : Read} (x : Gives (TurnIn A D) m source sc s ns ws r ns₁ ws₁) (e : r ≡ Ok t) where
  -- a turn that is not the last
  pub went_again : {Y : S → Type 0} → (D t → ⊥) → ((y : S) → A y t → Y y) → Gives (once_more Y) m source sc s ns ws (Ok t) ns₁ ws₁
  went_again {Y} n f = let w = (went_on x e).is in by w.0 w.1 w.2
    where
      by : (u : Turn S T) → TurnIn A D u t → m (input source sc) (state s ns ws) ≡ ok (u, state t ns₁ ws₁) → Gives (once_more Y) m source sc s ns ws (Ok t) ns₁ ws₁
      by (again y) (once p) q = record { is = (again y, f y p, q) }
      by (done z) (ends p) q = absurd (n p)

  -- the last turn
  pub went_done : ((y : S) → A y t → ⊥) → Gives (AtEnd anything) m source sc s ns ws (Ok t) ns₁ ws₁
  went_done n = let w = (went_on x e).is in by w.0 w.1 w.2
    where
      by : (u : Turn S T) → TurnIn A D u t → m (input source sc) (state s ns ws) ≡ ok (u, state t ns₁ ws₁) → Gives (AtEnd anything) m source sc s ns ws (Ok t) ns₁ ws₁
      by (again y) (once p) q = absurd (n y p)
      by (done z) (ends p) q = record { is = (done z, tt, q) }
