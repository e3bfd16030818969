-- The laws of what a reader gives: one for each way of putting readers together, and one for each step. Assumes nothing.
use Prim.Native.Nat.{ℕ, ◌+◌, ◌-◌, ◌<◌}
use native.Mathlib.Omega.{arith}
use mathlib.Core.Path.{◌≡◌, refl, sym, ap, subst, ◌∙◌}
use mathlib.Core.List.{List}
use mathlib.Core.Bool.{Bool, true, false, not, ◌&&◌}
use mathlib.Core.Option.{Option, none, some}
use Rattle.std.specs.Prelude.{if◌then◌else◌}
use Rattle.token.specs.declared.Scan.{Scan}
use Rattle.token.specs.declared.Token.{Token}
use Rattle.token.specs.Scanning.{kind_in}
use Rattle.names.specs.declared.Entry.{Entry}
use Rattle.names.specs.Names.{entry_at, without_entry, find_name}
use Rattle.names.specs.Promises.Finding.{SlotFound, found_of, Below, Finds}
use Rattle.program.specs.Refusal.{Refusal}
use Rattle.program.specs.Table.{with_word}
use Rattle.program.specs.Promises.Standing.{Stands}
use Rattle.grammar.specs.Reader.{Result, ok, State, Reader, ◌>>=◌, ◌▷◌, return, unit, get_state, refuse, refuse_last, note, next_token, kind_after, position, advance, put, on_slot, by_name, entry_in, declare, release, use_name}
use Rattle.grammar.proofs.Theorems.Ends.{bind_ok, bind_fail}
use Rattle.read_state.specs.Promises.Reading.{input, state, exactly, anything, InNumber, only, Told, Gives, refusing, moved_of, Moved, Carries, Noted, released_of, Released, declared_of, Declares, Uses}
use Rattle.read_state.specs.declared.Reading.{Reading}
use Rattle.read_state.specs.Promises.Reading.{Read}
use Rattle.std.specs.Prelude.{Ok, Err, Some, None}

-- ---- putting readers together

-- what a reader gives by another that ends the same way
pub by_another : {A : Type 0} {R : A → Reading → Type 0} {m m' : Reader A} {source : List ℕ} {sc : Scan} {s s' : Reading} {ns ws ns' ws' ns₁ ws₁ : List ℕ} {r : Read} → m (input source sc) (state s ns ws) ≡ m' (input source sc) (state s' ns' ws') → Gives R m' source sc s' ns' ws' r ns₁ ws₁ → Gives R m source sc s ns ws r ns₁ ws₁
by_another {A} {R} {ns₁ = ns₁} {ws₁ = ws₁} {r = r} e x = record { is = subst (λ (o : Result (A × State)). Told R o r ns₁ ws₁) (sym e) x.is }

-- where the code went on, and where it refused
pub went_on : {A : Type 0} {R : A → Reading → Type 0} {m : Reader A} {source : List ℕ} {sc : Scan} {s t : Reading} {ns ws ns₁ ws₁ : List ℕ} {r : Read} → Gives R m source sc s ns ws r ns₁ ws₁ → r ≡ Ok t → Gives R m source sc s ns ws (Ok t) ns₁ ws₁
went_on x e = rw (← e) x

pub no_further : {A : Type 0} {R Q : A → Reading → Type 0} {m : Reader A} {source : List ℕ} {sc : Scan} {s : Reading} {ns ws ns₁ ws₁ : List ℕ} {r : Read} {e : Refusal} → Gives R m source sc s ns ws r ns₁ ws₁ → r ≡ Err e → Gives Q m source sc s ns ws r ns₁ ws₁
no_further {A} {R} {Q} {m} {source} {sc} {s} {ns} {ws} {ns₁} {ws₁} {r} {e} x q = by r q x.is
  where
    by : (z : Read) → z ≡ Err e → Told R (m (input source sc) (state s ns ws)) z ns₁ ws₁ → Gives Q m source sc s ns ws z ns₁ ws₁
    by (Ok t) d y = let w : ◌≡◌ {A = ℕ} 0 1 = cc in absurd (omega arith)
    by (Err f) d y = record { is = y }

-- what is known of what was read, said in another way
pub told_as : {A : Type 0} {R Q : A → Reading → Type 0} {m : Reader A} {source : List ℕ} {sc : Scan} {s : Reading} {ns ws ns₁ ws₁ : List ℕ} {r : Read} → Gives R m source sc s ns ws r ns₁ ws₁ → ((a : A) (t : Reading) → R a t → Q a t) → Gives Q m source sc s ns ws r ns₁ ws₁
told_as {A} {R} {Q} {m} {source} {sc} {s} {ns} {ws} {ns₁} {ws₁} {r} x f = by r x.is
  where
    by : (z : Read) → Told R (m (input source sc) (state s ns ws)) z ns₁ ws₁ → Gives Q m source sc s ns ws z ns₁ ws₁
    by (Ok t) y = record { is = (y.0, f y.0 t y.1, y.2) }
    by (Err f) y = record { is = y }

module _ {A B : Type 0} {source : List ℕ} {sc : Scan} {R : A → Reading → Type 0} {Q : B → Reading → Type 0} {m : Reader A} (h : A → Reader B) {s : Reading} {ns ws ns₁ ws₁ : List ℕ} {r : Read} (x : Gives R m source sc s ns ws r ns₁ ws₁) where
  -- the first goes on, with some a, and what follows does so for this a
  pub on : {s₁ : Reading} {ns₂ ws₂ : List ℕ} {q : Read} → r ≡ Ok s₁ → ((a : A) → R a s₁ → Gives Q (h a) source sc s₁ ns₁ ws₁ q ns₂ ws₂) → Gives Q (m >>= h) source sc s ns ws q ns₂ ws₂
  on {s₁} e y =
      let t = (went_on x e).is in
      by_another (bind_ok m h (input source sc) (state s ns ws) (state s₁ ns₁ ws₁) t.0 t.2) (y t.0 t.1)

  -- the first refuses
  pub off : {e : Refusal} → r ≡ Err e → Gives Q (m >>= h) source sc s ns ws r ns₁ ws₁
  off {e} q = by r q x.is
    where
      by : (z : Read) → z ≡ Err e → Told R (m (input source sc) (state s ns ws)) z ns₁ ws₁ → Gives Q (m >>= h) source sc s ns ws z ns₁ ws₁
      by (Ok t) d y = let w : ◌≡◌ {A = ℕ} 0 1 = cc in absurd (omega arith)
      by (Err f) d y = record { is = bind_fail m h (input source sc) (state s ns ws) f.number f.place y }

-- the first goes on to a place that tells what was read
pub on_told : {A B : Type 0} {source : List ℕ} {sc : Scan} {f : Reading → A} {Q : B → Reading → Type 0} {m : Reader A} (h : A → Reader B) {s s₁ : Reading} {ns ws ns₁ ws₁ ns₂ ws₂ : List ℕ} {r q : Read} → Gives (exactly f) m source sc s ns ws r ns₁ ws₁ → r ≡ Ok s₁ → Gives Q (h (f s₁)) source sc s₁ ns₁ ws₁ q ns₂ ws₂ → Gives Q (m >>= h) source sc s ns ws q ns₂ ws₂
on_told {A} {B} {source} {sc} {f} {Q} h {s₁ = s₁} {ns₁ = ns₁} {ws₁ = ws₁} {ns₂ = ns₂} {ws₂ = ws₂} {q = q} x e y =
    on h x e (λ a p. subst (λ (z : A). Gives Q (h z) source sc s₁ ns₁ ws₁ q ns₂ ws₂) (sym p) y)

-- what f makes of what is read
pub made : {A B : Type 0} {source : List ℕ} {sc : Scan} {R : A → Reading → Type 0} {Q : B → Reading → Type 0} {m : Reader A} (f : A → B) {s : Reading} {ns ws ns₁ ws₁ : List ℕ} {r : Read} → Gives R m source sc s ns ws r ns₁ ws₁ → ((a : A) (t : Reading) → R a t → Q (f a) t) → Gives Q (m ▷ f) source sc s ns ws r ns₁ ws₁
unfolding return
made {A} {B} {source} {sc} {R} {Q} {m} f {s} {ns} {ws} {ns₁} {ws₁} {r} x g = by r x.is
  where
    by : (z : Read) → Told R (m (input source sc) (state s ns ws)) z ns₁ ws₁ → Gives Q (m ▷ f) source sc s ns ws z ns₁ ws₁
    by (Ok t) y = record { is = (f y.0, g y.0 t y.1, bind_ok m (λ a. return (f a)) (input source sc) (state s ns ws) (state t ns₁ ws₁) y.0 y.2) }
    by (Err e) y = record { is = bind_fail m (λ a. return (f a)) (input source sc) (state s ns ws) e.number e.place y }

-- a choice by a test
module _ {A : Type 0} {source : List ℕ} {sc : Scan} {R : A → Reading → Type 0} (m k : Reader A) {b : Bool} {s : Reading} {ns ws ns₁ ws₁ : List ℕ} {r : Read} where
  pub so : b ≡ true → Gives R m source sc s ns ws r ns₁ ws₁ → Gives R (if b then m else k) source sc s ns ws r ns₁ ws₁
  so e x = rw e x

  pub other : b ≡ false → Gives R k source sc s ns ws r ns₁ ws₁ → Gives R (if b then m else k) source sc s ns ws r ns₁ ws₁
  other e x = rw e x

-- tests put together
pub not_false : {a : Bool} → a ≡ true → not a ≡ false
not_false p = rw p

pub not_true : {a : Bool} → a ≡ false → not a ≡ true
not_true p = rw p

pub both_hold : {a b : Bool} → a ≡ true → b ≡ true → (a && b) ≡ true
both_hold p q = rw (p, q)

pub first_not : {a : Bool} (b : Bool) → a ≡ false → (a && b) ≡ false
first_not b p = rw p

pub second_not : {a b : Bool} → a ≡ true → b ≡ false → (a && b) ≡ false
second_not p q = rw (p, q)

-- ---- steps that only look

seen : (o : Option ℕ) (p : SlotFound) → p ≡ found_of o → (slot : ℕ) → p ≡ Some slot → o ≡ some slot
seen (some j) p e slot d = cc
seen none p e slot d = let z : ◌≡◌ {A = ℕ} 0 1 = cc in absurd (omega arith)

unseen : (o : Option ℕ) (p : SlotFound) → p ≡ found_of o → p ≡ None → o ≡ none
unseen (some j) p e d = let z : ◌≡◌ {A = ℕ} 0 1 = cc in absurd (omega arith)
unseen none p e d = refl

-- a slot that was found is one of the list's
pub below_slot : {n slot : ℕ} {q : SlotFound} → Below n q → q ≡ Some slot → slot < n
below_slot x e = rw e at x

module _ {A : Type 0} {source : List ℕ} {sc : Scan} {R : A → Reading → Type 0} {s : Reading} {ns ws ns₁ ws₁ : List ℕ} {r : Read} where
  -- the next token, the kind of the token behind it, the position, the state, the name in a slot
  pub token : (h : Token → Reader A) {t : Token} → Stands ws sc s.at t → Gives R (h t) source sc s ns ws r ns₁ ws₁ → Gives R (next_token >>= h) source sc s ns ws r ns₁ ws₁
  unfolding next_token ◌>>=◌
  token h e x = by_another (ap (λ (u : Token). h u (input source sc) (state s ns ws)) (sym e.is)) x

  pub kind_behind : (h : ℕ → Reader A) {k : ℕ} → k ≡ kind_in ws sc (s.at + 1) → Gives R (h k) source sc s ns ws r ns₁ ws₁ → Gives R (kind_after >>= h) source sc s ns ws r ns₁ ws₁
  unfolding kind_after ◌>>=◌
  kind_behind h e x = by_another (ap (λ (k : ℕ). h k (input source sc) (state s ns ws)) (sym e)) x

  pub here : (h : ℕ → Reader A) → Gives R (h s.at) source sc s ns ws r ns₁ ws₁ → Gives R (position >>= h) source sc s ns ws r ns₁ ws₁
  unfolding position ◌>>=◌
  here h x = by_another refl x

  pub stated : (h : State → Reader A) → Gives R (h (state s ns ws)) source sc s ns ws r ns₁ ws₁ → Gives R (get_state >>= h) source sc s ns ws r ns₁ ws₁
  unfolding get_state ◌>>=◌
  stated h x = by_another refl x

  pub named : (h : Entry → Reader A) (slot : ℕ) {e : Entry} → e ≡ entry_at ns slot → Gives R (h e) source sc s ns ws r ns₁ ws₁ → Gives R (entry_in slot >>= h) source sc s ns ws r ns₁ ws₁
  unfolding entry_in ◌>>=◌
  named h slot e x = by_another (ap (λ (u : Entry). h u (input source sc) (state s ns ws)) (sym e)) x

  -- a name that is found, and one that is not
  module _ (t : Token) {fields : Bool} (found : ℕ → Reader A) (missing : Reader A) {q : SlotFound} (x : Finds source ns s.count fields t.start t.len q) where
    pub found_it : {slot : ℕ} → q ≡ Some slot → Gives R (found slot) source sc s ns ws r ns₁ ws₁ → Gives R (by_name t fields found missing) source sc s ns ws r ns₁ ws₁
    unfolding by_name
    found_it {slot} e y =
        by_another
        (ap (λ (o : Option ℕ). on_slot o (λ j. found j (input source sc) (state s ns ws)) (missing (input source sc) (state s ns ws))) (seen (find_name source ns s.count fields t.start t.len) q x.is slot e))
        y

    pub missed_it : q ≡ None → Gives R missing source sc s ns ws r ns₁ ws₁ → Gives R (by_name t fields found missing) source sc s ns ws r ns₁ ws₁
    unfolding by_name
    missed_it e y =
        by_another
        (ap (λ (o : Option ℕ). on_slot o (λ j. found j (input source sc) (state s ns ws)) (missing (input source sc) (state s ns ws))) (unseen (find_name source ns s.count fields t.start t.len) q x.is e))
        y

-- ---- ends

module _ {A : Type 0} {source : List ℕ} {sc : Scan} {R : A → Reading → Type 0} {s : Reading} {ns ws : List ℕ} where
  -- refused at the next token, and at the token just read
  pub refused : (n : ℕ) {r : Read} → r ≡ refusing ws sc s s.at n → Gives R (refuse n) source sc s ns ws r ns ws
  unfolding refuse
  refused n e = rw e (record { is = refl })

  pub refused_last : (n : ℕ) {r : Read} → r ≡ refusing ws sc s (s.at - 1) n → Gives R (refuse_last n) source sc s ns ws r ns ws
  unfolding refuse_last
  refused_last n e = rw e (record { is = refl })

  pub returned : (a : A) → R a s → Gives R (return a) source sc s ns ws (Ok s) ns ws
  unfolding return
  returned a h = record { is = (a, h, refl) }

  -- with something else carried, which the definition's state does not have
  pub carried : (a : A) {t r : Reading} → Carries s t r → R a r → Gives R (return a) source sc s ns ws (Ok r) ns ws
  unfolding return
  carried a {t} {r} e h = record { is = (a, h, sym (ap (λ (z : State). ok (a, z)) (e.here ns ws))) }

-- ---- steps

module _ {source : List ℕ} {sc : Scan} {s : Reading} {ns ws : List ℕ} where
  pub advanced : {r : Reading} → Moved s r → Gives anything advance source sc s ns ws (Ok r) ns ws
  unfolding advance
  advanced e = record { is = (unit, tt, sym (ap (λ (z : Reading). ok (unit, state z ns ws)) e.is)) }

  pub noted : (n : ℕ) {r : Reading} → Noted ws sc s n r → Gives anything (note n) source sc s ns ws (Ok r) ns ws
  unfolding note
  noted n e = record { is = (unit, tt, rw (e.at, e.noted, e.count)) }

  -- a word of the table, and two of them
  pub put_in : (i w v : ℕ) {ws₁ : List ℕ} → ws₁ ≡ with_word ws i w v → Gives anything (put i w v) source sc s ns ws (Ok s) ns ws₁
  unfolding put
  put_in i w v e = record { is = (unit, tt, ap (λ (x : List ℕ). ok (unit, state s ns x)) (sym e)) }

  -- a new name, and a new value for a name
  pub declared : (i k v : ℕ) {r : Reading} {ns₁ : List ℕ} → Declares i k v sc s ns ws r ns₁ → Gives InNumber (declare i k v) source sc s ns ws (Ok r) ns₁ ws
  unfolding declare
  declared i k v {r} {ns₁} d =
      record {
        is = (
          s.count,
          sym d.number,
          ap (λ (x : List ℕ). ok (s.count, state (declared_of s) x ws)) (sym d.words) ∙ sym (ap (λ (z : Reading). ok (s.count, state z ns₁ ws)) d.is),
        );
      }

  pub released : (slot : ℕ) {r : Reading} {ns₁ : List ℕ} → Released s r → ns₁ ≡ without_entry ns slot → Gives anything (release slot) source sc s ns ws (Ok r) ns₁ ws
  unfolding release
  released slot {r} {ns₁} d e = record { is = (unit, tt, ap (λ (x : List ℕ). ok (unit, state (released_of s) x ws)) (sym e) ∙ sym (ap (λ (z : Reading). ok (unit, state z ns₁ ws)) d.is)) }

  -- a name in use, whose entry was looked up
  pub used : (slot : ℕ) {e : Entry} {r : Reading} {ws₁ : List ℕ} → e ≡ entry_at ns slot → Uses e s ws r ws₁ → Gives (only e) (use_name slot) source sc s ns ws (Ok r) ns ws₁
  unfolding use_name entry_in position put advance return ◌>>=◌
  used slot {e} {r} {ws₁} q u =
      record {
        is = (
          e,
          refl,
          ap (λ (f : Entry). ok (f, state (moved_of s) ns (with_word (with_word ws s.at 2 f.kind) s.at 3 f.word))) (sym q)
              ∙ ap (λ (x : List ℕ). ok (e, state (moved_of s) ns x)) (sym u.words)
              ∙ sym (ap (λ (z : Reading). ok (e, state z ns ws₁)) u.is),
        );
      }
