-- What holds of every accepted end of a reading, and one reader after another.
use Prim.Native.Nat.{ℕ}
use native.Mathlib.Omega.{arith}
use mathlib.Core.Path.{◌≡◌, refl, ap}
use Rattle.grammar.specs.Reader.{Input, State, Result, ok, fail, Reader, and_then, ◌>>=◌}

-- Q holds of what a reader gives from a state on, with the state that it leaves
pub record Gives {A : Type 0} (input : Input) (m : Reader A) (s : State) (Q : A → State → Type 0) : Type 0 where
  pub is : (a : A) (t : State) → m input s ≡ ok (a, t) → Q a t

-- what is refused is not given
pub no_end : {A X : Type 0} {k p : ℕ} {a : A} → fail k p ≡ ok a → X
no_end e = absurd (let z : ◌≡◌ {A = ℕ} 0 1 = cc in omega arith)

-- one reader after another
pub bind : {A B : Type 0} {input : Input} {s : State} {Q : B → State → Type 0} {P : A → State → Type 0} {m : Reader A} {f : A → Reader B} → Gives input m s P → ((a : A) (t : State) → P a t → Gives input (f a) t Q)
    → Gives input (m >>= f) s Q
unfolding ◌>>=◌
bind {A} {B} {input} {s} {Q} {P} {m} {f} x k = record { is = λ b u e. go (m input s) refl b u e }
  where
    go : (r : Result (A × State)) → m input s ≡ r → (b : B) (u : State) → and_then r (λ a t. f a input t) ≡ ok (b, u) → Q b u
    go (ok r) q b u e = (k r.0 r.1 (x.is r.0 r.1 q)).is b u e
    go (fail n p) q b u e = no_end e

module _ {A B : Type 0} (m : Reader A) (h : A → Reader B) (i : Input) (s : State) where
  -- where the first gives something, the next goes on with it
  pub bind_ok : (t : State) (a : A) → m i s ≡ ok (a, t) → (m >>= h) i s ≡ h a i t
  unfolding ◌>>=◌
  bind_ok t a e = ap (λ (x : Result (A × State)). and_then x (λ b u. h b i u)) e

  -- where it refuses, the next is not tried
  pub bind_fail : (k p : ℕ) → m i s ≡ fail k p → (m >>= h) i s ≡ fail k p
  unfolding ◌>>=◌
  bind_fail k p e = ap (λ (x : Result (A × State)). and_then x (λ b u. h b i u)) e
