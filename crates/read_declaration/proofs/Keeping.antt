-- What stands in the table before the place of reading stays, where a range is read. Assumes nothing.
use Prim.Native.Nat.{ℕ, ◌+◌, ◌*◌, ◌≤◌, ◌<◌}
use native.Mathlib.Omega.{arith}
use mathlib.Core.Path.{◌≡◌, refl, ap, subst, ◌∙◌}
use mathlib.Core.Bool.{Bool, true, false}
use mathlib.Core.List.{List}
use mathlib.Core.Option.{Option, none, some}
use lib.Dec.{eqb}
use lib.ListN.{get_or}
use lib.Seq.{get_or-set_other}
use Rattle.std.specs.Prelude.{if◌then◌else◌}
use Rattle.value.specs.Worked.{decode_of, opposite_of}
use Rattle.token.specs.declared.Token.{Token}
use Rattle.token.specs.declared.Scan.{Scan}
use Rattle.token.specs.Kind.{kind, operation, delimiter}
use Rattle.names.specs.Names.{name_kind, is, find_name}
use Rattle.program.specs.Syntax.{Range, range}
use Rattle.program.specs.Table.{with_word}
use Rattle.grammar.specs.Reader.{Input, State, Result, ok, fail, Reader, and_then, ◌>>=◌, return, refuse, refuse_last, is_kind, next_token, position, advance, put, expect_or, is_name, on_slot, by_name, entry_in, use_name}
use Rattle.grammar.specs.Constants.{named_constant, read_constant, read_signed, range_rule, read_range}
use Rattle.read_state.specs.Promises.Reading.{input, state, Gives}
use Rattle.read_state.specs.declared.Reading.{Reading}
use Rattle.read_state.specs.Promises.Reading.{Read}
use Rattle.std.specs.Prelude.{Ok}
use Rattle.read_state.proofs.Steps.{went_on}

-- from state s to t, reading went on, and the words before where it stood stayed
pub record Kept (s t : State) : Type 0 where
  pub onward : s.at ≤ t.at
  pub stay : (p : ℕ) → p < 4 * s.at → get_or t.words p 0 ≡ get_or s.words p 0

pub record Keeps {A : Type 0} (m : Reader A) : Type 0 where
  pub kept : (i : Input) (s t : State) (a : A) → m i s ≡ ok (a, t) → Kept s t

-- ---- readers in general

pub stays : (s : State) → Kept s s
stays s = record { onward = omega arith; stay = λ p h. refl }

pub moves : (s : State) → Kept s (record { at = s.at + 1; noted = s.noted; count = s.count; names = s.names; words = s.words })
moves s = record { onward = omega arith; stay = λ p h. refl }

module _ {A : Type 0} where
  state_of : State → Result (A × State) → State
  state_of s (ok x) = x.1
  state_of s (fail k p) = s

  -- the state that a reader leaves
  pub to : {s t u : State} {a b : A} → ◌≡◌ {A = Result (A × State)} (ok (b, u)) (ok (a, t)) → Kept s u → Kept s t
  unfolding state_of
  to {s} e k = subst (λ (x : State). Kept s x) (ap (state_of s) e) k

  pub never : {s t : State} {k p : ℕ} {a : A} → ◌≡◌ {A = Result (A × State)} (fail k p) (ok (a, t)) → Kept s t
  never e = let z : ◌≡◌ {A = ℕ} 0 1 = cc in absurd (omega arith)

  pub keeps_return : (a : A) → Keeps (return a)
  unfolding return
  keeps_return a = record { kept = λ i s t b e. to e (stays s) }

  pub keeps_refuse : (n : ℕ) → Keeps (refuse {A = A} n)
  unfolding refuse
  keeps_refuse n = record { kept = λ i s t a e. never e }

  pub keeps_refuse_last : (n : ℕ) → Keeps (refuse_last {A = A} n)
  unfolding refuse_last
  keeps_refuse_last n = record { kept = λ i s t a e. never e }

  pub keeps_if : (b : Bool) {m k : Reader A} → Keeps m → Keeps k → Keeps (if b then m else k)
  keeps_if true f g = f
  keeps_if false f g = g

  pub keeps_by_name : (t : Token) (fields : Bool) {found : ℕ → Reader A} {missing : Reader A} → ((slot : ℕ) → Keeps (found slot)) → Keeps missing → Keeps (by_name t fields found missing)
  unfolding by_name
  keeps_by_name t fields {found} {missing} f g = record { kept = λ i s u a e. by i s u a (find_name i.source s.names s.count fields t.start t.len) e }
    where
      by : (i : Input) (s u : State) (a : A) (o : Option ℕ) → on_slot o (λ slot. found slot i s) (missing i s) ≡ ok (a, u) → Kept s u
      by i s u a (some slot) d = (f slot).kept i s u a d
      by i s u a none d = g.kept i s u a d

pub further : {s t u : State} → Kept s t → Kept t u → Kept s u
further x y = let h = x.onward in let l = y.onward in record { onward = omega arith; stay = λ p q. y.stay p (omega arith) ∙ x.stay p q }

pub keeps_on : {A B : Type 0} (m : Reader A) (h : A → Reader B) → Keeps m → ((a : A) → Keeps (h a)) → Keeps (m >>= h)
unfolding ◌>>=◌
keeps_on {A} {B} m h f g = record { kept = λ i s t b e. by i s t b (m i s) refl e }
  where
    by : (i : Input) (s t : State) (b : B) (r : Result (A × State)) → m i s ≡ r → and_then r (λ a u. h a i u) ≡ ok (b, t) → Kept s t
    by i s t b (ok x) q d = further (f.kept i s x.1 x.0 q) ((g x.0).kept i x.1 t b d)
    by i s t b (fail k p) q d = never d

-- ---- the steps of reading a range

pub keeps_token : Keeps next_token
unfolding next_token
keeps_token = record { kept = λ i s t a e. to e (stays s) }

pub keeps_entry : (slot : ℕ) → Keeps (entry_in slot)
unfolding entry_in
keeps_entry slot = record { kept = λ i s t a e. to e (stays s) }

pub keeps_advance : Keeps advance
unfolding advance
keeps_advance = record { kept = λ i s t a e. to e (moves s) }

pub keeps_use : (slot : ℕ) → Keeps (use_name slot)
unfolding use_name entry_in position put advance return ◌>>=◌
keeps_use slot = record { kept = λ i s t a e. to e (record { onward = omega arith; stay = λ p h. two s.words s.at p _ _ h }) }
  where
    two : (ws : List ℕ) (at p v w : ℕ) → p < 4 * at → get_or (with_word (with_word ws at 2 v) at 3 w) p 0 ≡ get_or ws p 0
    two ws at p v w h = get_or-set_other (with_word ws at 2 v) (4 * at + 3) p w 0 (λ q. omega arith) ∙ get_or-set_other ws (4 * at + 2) p v 0 (λ q. omega arith)

pub keeps_expect : (k n : ℕ) → Keeps (expect_or k n)
unfolding expect_or
keeps_expect k n = keeps_on _ _ keeps_token (λ t. keeps_if (is_kind t k) keeps_advance (keeps_refuse n))

pub keeps_named : (slot : ℕ) → Keeps (named_constant slot)
unfolding named_constant
keeps_named slot =
    keeps_on _ _ (keeps_entry slot) (λ e. keeps_if (is e name_kind.constant) (keeps_on _ _ (keeps_use slot) (λ _. keeps_return (decode_of e.word))) (keeps_refuse 8))

pub keeps_constant : Keeps read_constant
unfolding read_constant
keeps_constant =
    keeps_on _ _ keeps_token
    (λ t.
    keeps_if (is_kind t kind.literal) (keeps_on _ _ keeps_advance (λ _. keeps_return (decode_of t.value)))
    (keeps_if (is_name t) (keeps_by_name t false keeps_named (keeps_refuse 8)) (keeps_refuse 7)))

pub keeps_signed : Keeps read_signed
unfolding read_signed
keeps_signed =
    let signed = keeps_on _ _ keeps_advance (λ _. keeps_constant) in
    keeps_on _ _ keeps_token (λ t. keeps_if (is_kind t operation.minus) (keeps_on _ _ signed (λ z. keeps_return (opposite_of z))) (keeps_if (is_kind t operation.plus) signed keeps_constant))

pub keeps_range : (most : ℕ) → Keeps (read_range most)
unfolding read_range
keeps_range most =
    keeps_on _ _ keeps_signed
    (λ low.
    keeps_on _ _ (keeps_expect delimiter.dots 7)
    (λ _.
    keeps_on _ _ keeps_signed
    (λ high. keeps_if (eqb (range_rule most low high) 0) (keeps_return (range low high)) (keeps_refuse_last (range_rule most low high)))))

-- the words before the place of reading stay where the code's reading of a range goes on
pub range_keeps : (most : ℕ) {source : List ℕ} {sc : Scan} {R : Range → Reading → Type 0} {s t : Reading} {ns ws ns₁ ws₁ : List ℕ} {r : Read} → Gives R (read_range most) source sc s ns ws r ns₁ ws₁ → r ≡ Ok t → (p : ℕ) → p < 4 * s.at → get_or ws₁ p 0 ≡ get_or ws p 0
range_keeps most {source} {sc} {s = s} {t} {ns} {ws} {ns₁} {ws₁} x e =
    let y = (went_on x e).is in
    ((keeps_range most).kept (input source sc) (state s ns ws) (state t ns₁ ws₁) y.0 y.2).stay
