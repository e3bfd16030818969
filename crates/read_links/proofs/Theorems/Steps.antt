-- The laws for putting readers together, of what holds of every accepted end.
use Prim.Native.Nat.{ℕ, zero, suc, ◌+◌, ◌-◌}
use mathlib.Core.Path.{◌≡◌, refl, ap, ◌∙◌, subst}
use mathlib.Core.Bool.{Bool, true, false}
use mathlib.Core.Option.{Option, none, some}
use lib.Dec.{eqb}
use Rattle.std.specs.Prelude.{if◌then◌else◌}
use Rattle.token.specs.declared.Token.{Token}
use Rattle.token.specs.Scanning.{kind_in}
use Rattle.names.specs.declared.Entry.{Entry}
use Rattle.names.specs.Names.{entry_at, with_entry, without_entry, find_name}
use Rattle.program.specs.Table.{with_word}
use Rattle.program.specs.Refusal.{refusal}
use Rattle.grammar.specs.Ranking.{first_of}
use Rattle.grammar.specs.Reader.{Input, State, Result, ok, fail, Reader, and_then, ◌>>=◌, ◌>>◌, ◌▷◌, return, unit, nothing, Turn, again, done, turned, get_state, token_of, refuse, refuse_last, note, repeat, next_token, kind_after, position, advance, put, put_both, expect_or, forbid, opening, on_slot, by_name, entry_in, declare, release}
use Rattle.grammar.proofs.Theorems.Ends.{Gives, no_end, bind}

-- ---- states

abbrev pub advanced : State → State
advanced s = record { at = s.at + 1; noted = s.noted; count = s.count; names = s.names; words = s.words }

abbrev pub written : State → ℕ → ℕ → ℕ → State
written s i w v = record { at = s.at; noted = s.noted; count = s.count; names = s.names; words = with_word s.words i w v }

abbrev pub named : Input → State → ℕ → ℕ → ℕ → State
named input s i k v =
    record {
      at = s.at;
      noted = s.noted;
      count = s.count + 1;
      names = with_entry s.names s.count (record { start = (token_of input s i).start; len = (token_of input s i).len; kind = k; word = v });
      words = s.words;
    }

abbrev pub released : State → ℕ → State
released s slot = record { at = s.at; noted = s.noted; count = s.count - 1; names = without_entry s.names slot; words = s.words }

abbrev pub noting : State → ℕ → ℕ → State
noting s k p = record { at = s.at; noted = first_of s.noted (refusal k p); count = s.count; names = s.names; words = s.words }

-- ---- ends

pub refused : {A : Type 0} {input : Input} {s : State} {Q : A → State → Type 0} (n : ℕ) → Gives input (refuse n) s Q
unfolding refuse
refused n = record { is = λ a t e. no_end e }

pub refused_last : {A : Type 0} {input : Input} {s : State} {Q : A → State → Type 0} (n : ℕ) → Gives input (refuse_last n) s Q
unfolding refuse_last
refused_last n = record { is = λ a t e. no_end e }

pub gave : {A : Type 0} {input : Input} {s : State} {Q : A → State → Type 0} (a : A) → Q a s → Gives input (return a) s Q
unfolding return
gave {A} {input} {s} {Q} a h = record { is = λ b t e. let x : ◌≡◌ {A = A × State} (a, s) (b, t) = cc in subst (λ (q : A × State). Q q.0 q.1) x h }

-- what f makes of what is read
pub made : {A B : Type 0} {input : Input} {s : State} {Q : B → State → Type 0} {P : A → State → Type 0} {m : Reader A} (f : A → B) → Gives input m s P → ((a : A) (t : State) → P a t → Q (f a) t) → Gives input (m ▷ f) s Q
made f x k = bind x (λ a t p. gave (f a) (k a t p))

-- readers put together the other way
pub regroup : {A B C : Type 0} {input : Input} {s : State} {Q : C → State → Type 0} (m : Reader A) (f : A → Reader B) (g : B → Reader C) → Gives input (m >>= λ a. f a >>= g) s Q → Gives input (m >>= f >>= g) s Q
unfolding ◌>>=◌
regroup {A} {B} {C} {input} {s} {Q} m f g x = record { is = λ c u e. go (m input s) refl c u e }
  where
    go : (r : Result (A × State)) → m input s ≡ r → (c : C) (u : State) → and_then (and_then r (λ a t. f a input t)) (λ b t. g b input t) ≡ ok (c, u) → Q c u
    go (ok r) q c u e = x.is c u (ap (λ (y : Result (A × State)). and_then y (λ a t. and_then (f a input t) (λ b v. g b input v))) q ∙ e)
    go (fail n p) q c u e = no_end e

-- the same of fewer
pub given_as : {A : Type 0} {input : Input} {s : State} {P Q : A → State → Type 0} {m : Reader A} → Gives input m s P → ((a : A) (t : State) → P a t → Q a t) → Gives input m s Q
given_as x k = record { is = λ a t e. k a t (x.is a t e) }

-- a choice by a test
pub choose : {A : Type 0} {input : Input} {s : State} {Q : A → State → Type 0} (b : Bool) {m k : Reader A} → (b ≡ true → Gives input m s Q) → (b ≡ false → Gives input k s Q) → Gives input (if b then m else k) s Q
choose true x y = x refl
choose false x y = y refl

-- ---- steps

module _ {A : Type 0} {input : Input} {s : State} {Q : A → State → Type 0} where
  pub at_position : (h : ℕ → Reader A) → Gives input (h s.at) s Q → Gives input (position >>= h) s Q
  unfolding position ◌>>=◌
  at_position h x = record { is = x.is }

  pub at_token : (h : Token → Reader A) → Gives input (h (token_of input s s.at)) s Q → Gives input (next_token >>= h) s Q
  unfolding next_token ◌>>=◌
  at_token h x = record { is = x.is }

  pub at_kind_after : (h : ℕ → Reader A) → Gives input (h (kind_in s.words input.scan (s.at + 1))) s Q → Gives input (kind_after >>= h) s Q
  unfolding kind_after ◌>>=◌
  at_kind_after h x = record { is = x.is }

  pub at_state : (h : State → Reader A) → Gives input (h s) s Q → Gives input (get_state >>= h) s Q
  unfolding get_state ◌>>=◌
  at_state h x = record { is = x.is }

  pub at_entry : (slot : ℕ) (h : Entry → Reader A) → Gives input (h (entry_at s.names slot)) s Q → Gives input (entry_in slot >>= h) s Q
  unfolding entry_in ◌>>=◌
  at_entry slot h x = record { is = x.is }

  pub over : {h : Reader A} → Gives input h (advanced s) Q → Gives input (advance >> h) s Q
  unfolding advance ◌>>=◌
  over x = record { is = x.is }

  pub wrote : (i w v : ℕ) {h : Reader A} → Gives input h (written s i w v) Q → Gives input (put i w v >> h) s Q
  unfolding put ◌>>=◌
  wrote i w v x = record { is = x.is }

  pub wrote_both : (i v w : ℕ) {h : Reader A} → Gives input h (written (written s i 2 v) i 3 w) Q → Gives input (put_both i v w >> h) s Q
  unfolding put ◌>>=◌
  wrote_both i v w x = record { is = x.is }

  pub noted_it : (k : ℕ) {h : Reader A} → ((p : ℕ) → Gives input h (noting s k p) Q) → Gives input (note k >> h) s Q
  unfolding note ◌>>=◌
  noted_it k x = record { is = (x (token_of input s s.at).start).is }

  pub named_it : (i k v : ℕ) (h : ℕ → Reader A) → Gives input (h s.count) (named input s i k v) Q → Gives input (declare i k v >>= h) s Q
  unfolding declare ◌>>=◌
  named_it i k v h x = record { is = x.is }

  pub released_it : (slot : ℕ) {h : Reader A} → Gives input h (released s slot) Q → Gives input (release slot >> h) s Q
  unfolding release ◌>>=◌
  released_it slot x = record { is = x.is }

  -- with the name that is found, or without one
  pub by_found : (t : Token) (fields : Bool) {found : ℕ → Reader A} {missing : Reader A} → ((slot : ℕ) → find_name input.source s.names s.count fields t.start t.len ≡ some slot → Gives input (found slot) s Q) → Gives input missing s Q → Gives input (by_name t fields found missing) s Q
  unfolding by_name
  by_found t fields {found} {missing} x y = record { is = λ a u e. go (find_name input.source s.names s.count fields t.start t.len) refl a u e }
    where
      go : (o : Option ℕ) → find_name input.source s.names s.count fields t.start t.len ≡ o → (a : A) (u : State) → on_slot o (λ slot. found slot input s) (missing input s) ≡ ok (a, u) → Q a u
      go (some slot) q a u e = (x slot q).is a u e
      go none q a u e = y.is a u e

  -- nothing, and then
  pub skipped : {h : Reader A} → Gives input h s Q → Gives input (nothing >> h) s Q
  unfolding return ◌>>=◌
  skipped x = record { is = x.is }

  pub handed : {B : Type 0} (b : B) (h : B → Reader A) → Gives input (h b) s Q → Gives input (return b >>= h) s Q
  unfolding return ◌>>=◌
  handed b h x = record { is = x.is }

  -- refused, whatever follows
  pub stopped : {B : Type 0} (n : ℕ) (h : B → Reader A) → Gives input (refuse n >>= h) s Q
  stopped n h = bind {P = λ _ _. ⊥} (refused n) (λ a t p. absurd p)

  -- a token of a kind
  pub expected : (k n : ℕ) {h : Reader A} → (eqb (token_of input s s.at).kind k ≡ true → Gives input h (advanced s) Q) → Gives input (expect_or k n >> h) s Q
  unfolding expect_or
  expected k n {h} x = regroup _ _ _ (at_token _ (pick (eqb (token_of input s s.at).kind k) x))
    where
      pick : (b : Bool) → (b ≡ true → Gives input h (advanced s) Q) → Gives input ((if b then advance else refuse n) >> h) s Q
      pick true x = over (x refl)
      pick false x = stopped n _

  pub forbidden : (k n : ℕ) {h : Reader A} → (eqb (token_of input s s.at).kind k ≡ false → Gives input h s Q) → Gives input (forbid k n >> h) s Q
  unfolding forbid
  forbidden k n {h} x = regroup _ _ _ (at_token _ (pick (eqb (token_of input s s.at).kind k) x))
    where
      pick : (b : Bool) → (b ≡ false → Gives input h s Q) → Gives input ((if b then refuse n else nothing) >> h) s Q
      pick true x = stopped n _
      pick false x = skipped (x refl)

  pub opened : (b : Bool) {h : Reader A} → (b ≡ true → Gives input h (advanced s) Q) → Gives input (opening b >> h) s Q
  unfolding opening
  opened true x = over (x refl)
  opened false x = stopped 14 _

-- a write is the last step
pub wrote_last : {input : Input} {s : State} {Q : Unit {0} → State → Type 0} (i w v : ℕ) → Q unit (written s i w v) → Gives input (put i w v) s Q
unfolding put return
wrote_last {input} i w v h = record { is = (gave {input = input} unit h).is }

-- ---- turns

-- what a turn from x and s on must give, for Q to hold of the whole: once more, P again and what follows tells of the whole; or the end
abbrev pub Turned : {X R : Type 0} → (X → State → Type 0) → (X → State → R → State → Type 0) → X → State → Turn X R → State → Type 0
Turned {X} {R} P Q x s (again y) t = P y t × ((r : R) (u : State) → Q y t r u → Q x s r u)
Turned P Q x s (done r) t = Q x s r t

pub repeated : {X R : Type 0} {input : Input} {P : X → State → Type 0} {Q : X → State → R → State → Type 0} (body : X → Reader (Turn X R))
    → ((x : X) (s : State) → P x s → Gives input (body x) s (Turned P Q x s)) → (n : ℕ) (x : X) (s : State) → P x s → Gives input (repeat n body x) s (Q x s)
unfolding repeat
repeated body step zero x s p = refused 7
repeated {X} {R} {input} {P} {Q} body step (suc n) x s p = bind (step x s p) (go (repeated body step n))
  where
    go : ((y : X) (t : State) → P y t → Gives input (repeat n body y) t (Q y t)) → (u : Turn X R) (t : State) → Turned P Q x s u t → Gives input (turned u (λ y. repeat n body y)) t (Q x s)
    go more (again y) t h = given_as (more y t h.0) h.1
    go more (done r) t h = gave r h
