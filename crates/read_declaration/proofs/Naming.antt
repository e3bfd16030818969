-- The field names of a group: where eight fields are declared, one more name is refused. Assumes nothing.
use Prim.Native.Nat.{ℕ, ◌+◌, ◌≤◌, ◌<◌}
use native.Mathlib.Omega.{arith}
use mathlib.Core.Path.{◌≡◌, refl, ap, subst, ◌∙◌}
use mathlib.Core.Bool.{Bool, true, false, not}
use mathlib.Core.List.{List}
use mathlib.Core.Option.{Option, none, some}
use lib.Dec.{leb}
use borrow.Author.Tests.{leb-false}
use Rattle.std.specs.Prelude.{if◌then◌else◌}
use Rattle.token.specs.declared.Token.{Token}
use Rattle.token.specs.declared.Scan.{Scan}
use Rattle.token.specs.Kind.{kind}
use Rattle.names.specs.Names.{find_name}
use Rattle.grammar.specs.Reader.{Input, State, Result, ok, fail, Reader, ◌>>=◌, repeat, turns, get_state, refuse, is_kind, next_token, is_name, on_slot, by_name, fresh}
use Rattle.grammar.specs.Source.{field_turn}
use Rattle.read_state.specs.Promises.Reading.{input, state, passed, Gives}
use Rattle.read_state.specs.declared.Reading.{Reading}
use Rattle.read_state.specs.Promises.Reading.{Read}
use Rattle.std.specs.Prelude.{Ok}
use Rattle.read_state.proofs.Steps.{went_on}
use Rattle.read_state.proofs.Turns.{Turning, turn_first}
use Rattle.read_declaration.specs.Promises.Fields.{full_of}

-- ---- readers that never go on

abbrev Failed : {A : Type 0} → Result A → Type 0
Failed (ok a) = ⊥
Failed (fail k p) = Unit {0}

record Refuses {A : Type 0} (m : Reader A) : Type 0 where
  fails : (i : Input) (s : State) → Failed (m i s)

at_rule : (A : Type 0) (n : ℕ) → Refuses (refuse {A = A} n)
unfolding refuse
at_rule A n = record { fails = λ i s. tt }

module _ {A : Type 0} where
  behind_token : (h : Token → Reader A) → ((t : Token) → Refuses (h t)) → Refuses (next_token >>= h)
  unfolding next_token ◌>>=◌
  behind_token h f = record { fails = λ i s. (f _).fails i s }

  behind_state : (h : State → Reader A) → ((t : State) → Refuses (h t)) → Refuses (get_state >>= h)
  unfolding get_state ◌>>=◌
  behind_state h f = record { fails = λ i s. (f s).fails i s }

  either : (b : Bool) (m k : Reader A) → Refuses m → Refuses k → Refuses (if b then m else k)
  either true m k f g = f
  either false m k f g = g

  by_either : (t : Token) (fields : Bool) (found : ℕ → Reader A) (missing : Reader A) → ((slot : ℕ) → Refuses (found slot)) → Refuses missing → Refuses (by_name t fields found missing)
  unfolding by_name
  by_either t fields found missing f g = record { fails = λ i s. by i s (find_name i.source s.names s.count fields t.start t.len) }
    where
      by : (i : Input) (s : State) (o : Option ℕ) → Failed (on_slot o (λ slot. found slot i s) (missing i s))
      by i s (some slot) = (f slot).fails i s
      by i s none = g.fails i s

full_refuses : (fields : Bool) → Refuses (fresh fields 43)
unfolding fresh
full_refuses fields =
    behind_token _
    (λ t.
    behind_state _
    (λ s.
    either (not (is_name t)) _ _ (at_rule ℕ 7)
    (either (not (is_kind t kind.name)) _ _ (at_rule ℕ 9) (by_either t fields _ _ (λ slot. at_rule ℕ 9) (at_rule ℕ 43)))))

module _ {source : List ℕ} {sc : Scan} {s : Reading} {ns ws ns₁ ws₁ : List ℕ} {r : Read} (n : ℕ) {full : ℕ} (e : full ≡ full_of n) (x : Gives passed (fresh true full) source sc s ns ws r ns₁ ws₁) where
  -- a field name, as the definition says it
  pub field_name : Gives passed (fresh true (full_of n)) source sc s ns ws r ns₁ ws₁
  field_name = rw (← e) x

  -- a name that was taken is the eighth at most
  pub taken : {t : Reading} → r ≡ Ok t → n < 8
  taken {t} q = by (leb 8 n) refl
    where
      stop : {o : Result (ℕ × State)} {a : ℕ} {u : State} → Failed o → o ≡ ok (a, u) → ⊥
      stop f d = subst Failed d f

      by : (b : Bool) → leb 8 n ≡ b → n < 8
      by false d = leb-false 8 n d
      by true d =
          let z : full ≡ 43 = e ∙ ap (λ (u : Bool). if u then 43 else 0) d in
          let y = (went_on (rw z at x) q).is in
          absurd (stop ((full_refuses true).fails (input source sc) (state s ns ws)) y.2)

-- ---- the loop

-- after some names: n fields in all, behind `got`
pub record Naming (k got : ℕ) (source : List ℕ) (sc : Scan) (s₀ : Reading) (ns₀ ws : List ℕ) (n : ℕ) (s : Reading) (ns : List ℕ) : Type 0 where
  pub turning : Turning (repeat turns (field_turn k) got) (field_turn k) source sc s₀ ns₀ ws (λ x. x ≡ n) s ns ws
  pub more : got ≤ n
  pub few : n ≤ 8
  pub far : n + s₀.at ≤ s.at + got

pub naming_start : (k got : ℕ) {source : List ℕ} {sc : Scan} {s : Reading} {ns ws : List ℕ} → got ≤ 8 → Naming k got source sc s ns ws got s ns
naming_start k got h = record { turning = turn_first got refl; more = omega arith; few = h; far = omega arith }
