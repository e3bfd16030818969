-- The laws of repeated readers. Assumes nothing.
use Prim.Native.Nat.{ℕ, zero, suc, ◌+◌, ◌≤◌, ◌<◌}
use native.Mathlib.Omega.{arith}
use mathlib.Core.Path.{◌≡◌, refl, ap, ◌∙◌}
use mathlib.Core.List.{List}
use Rattle.token.specs.declared.Scan.{Scan}
use Rattle.program.specs.Refusal.{Refusal}
use Rattle.grammar.specs.Reader.{ok, Reader, ◌>>=◌, Turn, again, done, turned, repeat, turns}
use Rattle.grammar.proofs.Theorems.Ends.{bind_ok}
use Rattle.read_state.specs.Promises.Reading.{input, state, anything, once_more, AtEnd, Gives}
use Rattle.read_state.specs.declared.Reading.{Reading}
use Rattle.read_state.specs.Promises.Reading.{Read}
use Rattle.std.specs.Prelude.{Ok, Err}
use Rattle.read_state.proofs.Steps.{by_another, on, off, returned}

-- after some turns of the code's loop: what is left of m is what the turns that are left give from here on, with some x of which X holds,
-- and they are enough
pub record Turning {S T : Type 0} (m : Reader T) (body : S → Reader (Turn S T)) (source : List ℕ) (sc : Scan) (s₀ : Reading) (ns₀ ws₀ : List ℕ) (X : S → Type 0) (s : Reading) (ns ws : List ℕ) : Type 0 where
  pub x : S
  pub holds : X x
  pub fuel : ℕ
  pub enough : turns ≤ fuel + s.at
  pub says : m (input source sc) (state s₀ ns₀ ws₀) ≡ repeat fuel body x (input source sc) (state s ns ws)

-- a turn with this x alone
pub with_this : {S T : Type 0} {P : Turn S T → Reading → Type 0} (body : S → Reader (Turn S T)) {source : List ℕ} {sc : Scan} {s : Reading} {ns ws ns₁ ws₁ : List ℕ} {r : Read} (k : S) → Gives P (body k) source sc s ns ws r ns₁ ws₁ → (x : S) → x ≡ k → Gives P (body x) source sc s ns ws r ns₁ ws₁
with_this body k y x e = rw e y

-- before the first turn
pub turn_first : {S T : Type 0} {body : S → Reader (Turn S T)} {source : List ℕ} {sc : Scan} {X : S → Type 0} (x : S) {s : Reading} {ns ws : List ℕ} → X x → Turning (repeat turns body x) body source sc s ns ws X s ns ws
turn_first x h = record { x = x; holds = h; fuel = turns; enough = omega arith; says = refl }

module _ {S T : Type 0} {m : Reader T} {body : S → Reader (Turn S T)} {source : List ℕ} {sc : Scan} {s₀ : Reading} {ns₀ ws₀ : List ℕ} {X : S → Type 0} {s : Reading} {ns ws : List ℕ} (w : Turning m body source sc s₀ ns₀ ws₀ X s ns ws) (l : s.at ≤ 4096) where
  one_more : (f : ℕ) × (w.fuel ≡ suc f)
  one_more = by w.fuel refl
    where
      by : (f : ℕ) → w.fuel ≡ f → (g : ℕ) × (w.fuel ≡ suc g)
      by zero e = let h = w.enough in absurd (omega arith)
      by (suc f) e = (f, e)

  -- the turn that is next, and those after it
  step : m (input source sc) (state s₀ ns₀ ws₀) ≡ (body w.x >>= λ t. turned t (λ y. repeat one_more.0 body y)) (input source sc) (state s ns ws)
  unfolding repeat
  step = w.says ∙ ap (λ (n : ℕ). repeat n body w.x (input source sc) (state s ns ws)) one_more.1

  -- one more turn
  pub turn_again : {Y : S → Type 0} {s₁ : Reading} {ns₁ ws₁ : List ℕ} → ((x : S) → X x → Gives (once_more Y) (body x) source sc s ns ws (Ok s₁) ns₁ ws₁) → s.at < s₁.at → Turning m body source sc s₀ ns₀ ws₀ Y s₁ ns₁ ws₁
  turn_again {Y} {s₁} {ns₁} {ws₁} g h = let t = (g w.x w.holds).is in by t.0 t.1 t.2
    where
      by : (t : Turn S T) → once_more Y t s₁ → body w.x (input source sc) (state s ns ws) ≡ ok (t, state s₁ ns₁ ws₁) → Turning m body source sc s₀ ns₀ ws₀ Y s₁ ns₁ ws₁
      by (again y) p e = let k = w.enough in let f = one_more.1 in record { x = y; holds = p; fuel = one_more.0; enough = omega arith; says = step ∙ bind_ok (body w.x) (λ t. turned t (λ y. repeat one_more.0 body y)) (input source sc) (state s ns ws) (state s₁ ns₁ ws₁) (again y) e }
      by (done r) p e = absurd p

  -- the last turn
  pub turn_done : {Q : T → Reading → Type 0} {s₁ : Reading} {ns₁ ws₁ : List ℕ} → ((x : S) → X x → Gives (AtEnd Q) (body x) source sc s ns ws (Ok s₁) ns₁ ws₁) → Gives Q m source sc s₀ ns₀ ws₀ (Ok s₁) ns₁ ws₁
  turn_done {Q} {s₁} {ns₁} {ws₁} g = by_another step (on _ (g w.x w.holds) refl by)
    where
      by : (t : Turn S T) → AtEnd Q t s₁ → Gives Q (turned t (λ y. repeat one_more.0 body y)) source sc s₁ ns₁ ws₁ (Ok s₁) ns₁ ws₁
      by (again y) p = absurd p
      by (done r) p = returned r p

  -- a turn that refuses
  pub turn_refused : {Q : T → Reading → Type 0} {r : Read} {e : Refusal} {ns₁ ws₁ : List ℕ} → ((x : S) → X x → Gives anything (body x) source sc s ns ws r ns₁ ws₁) → r ≡ Err e → Gives Q m source sc s₀ ns₀ ws₀ r ns₁ ws₁
  turn_refused g e = by_another step (off _ (g w.x w.holds) e)
