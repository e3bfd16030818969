-- The laws of operators and their levels. Assumes nothing.
use Prim.Native.Nat.{ℕ, zero, suc, ◌+◌, ◌≤◌, ◌<◌}
use native.Mathlib.Omega.{arith}
use mathlib.Core.Path.{◌≡◌, refl, sym, ap, subst, ◌∙◌}
use mathlib.Core.Bool.{Bool, true, false, ◌&&◌}
use mathlib.Core.List.{List}
use lib.Dec.{ltb, eqb}
use borrow.Author.Tests.{lt-ltb, le-ltb}
use Rattle.token.specs.Kind.{level_of}
use Rattle.token.specs.declared.Scan.{Scan}
use Rattle.token.specs.declared.Token.{Token}
use Rattle.token.specs.Scanning.{token_in}
use Rattle.program.specs.Syntax.{Expr}
use Rattle.program.specs.Promises.Standing.{Stands}
use Rattle.grammar.specs.Reader.{◌>>=◌, Result, ok, fail, Input, State, Reader, and_then, return, next_token, Turn, done, turned, repeat, turns}
use Rattle.grammar.specs.Expressions.{LeftPart, left_part, read_right, operator_turn, climb}
use Rattle.grammar.proofs.Theorems.Ends.{bind_ok}
use Rattle.read_state.specs.declared.Reading.{Reading}
use Rattle.read_state.specs.Promises.Reading.{Read}
use Rattle.std.specs.Prelude.{Ok}
use Rattle.read_state.specs.Promises.Reading.{input, state, anything, once_more, AtEnd, Gives, refusing, Moved}
use Rattle.read_state.proofs.Steps.{by_another, on, so, other, token, made, refused, returned, advanced}
use Rattle.read_expressions.specs.Promises.Promises.{are_relations}
use Rattle.token.proofs.Levels.{level_few}

-- ---- levels beyond the tightest: the operand alone

module _ (level : ℕ) (h : 5 ≤ level) (tighter : ℕ → Reader Expr) (i : Input) where
  flat_turn : (e : Expr) (u : State) → operator_turn level tighter (left_part e 0) i u ≡ ok (done e, u)
  unfolding operator_turn next_token return ◌>>=◌
  flat_turn e u =
      let k = (token_in u.words i.scan u.at).kind in
      rw (lt-ltb (level_of k) level (omega (arith, level_few k))) refl

  flat_repeat : (n : ℕ) (e : Expr) (u : State) → repeat (suc n) (operator_turn level tighter) (left_part e 0) i u ≡ ok (e, u)
  unfolding repeat return
  flat_repeat n e u =
      bind_ok (operator_turn level tighter (left_part e 0)) (λ t. turned t (λ y. repeat n (operator_turn level tighter) y)) i u u (done e) (flat_turn e u)

-- a turn where `more` levels may be entered
abbrev pub turn_in : Reader Expr → ℕ → ℕ → LeftPart → Reader (Turn LeftPart Expr)
turn_in operand level more = operator_turn level (λ tighter input s. climb more operand tighter input s)

kept : (o : Result (Expr × State)) (f : Expr → State → Result (Expr × State)) → ((e : Expr) (u : State) → f e u ≡ ok (e, u)) → o ≡ and_then o f
kept (ok r) f h = sym (h r.0 r.1)
kept (fail k p) f h = refl

flat_climb : (operand : Reader Expr) (level : ℕ) → 5 ≤ level → (i : Input) (s : State) → climb zero operand level i s ≡ climb 1 operand level i s
unfolding climb ◌>>=◌
flat_climb operand level h i s =
    kept (operand i s) (λ e u. repeat turns (turn_in operand level zero) (left_part e 0) i u) (flat_repeat level h (λ tighter input t. climb zero operand tighter input t) i 4096)

-- where levels are entered that are enough, one of them can be taken
pub climbed : {source : List ℕ} {sc : Scan} {s : Reading} {ns ws ws₁ : List ℕ} {r : Read} (operand : Reader Expr) (level : ℕ) → ((more : ℕ) → 5 ≤ suc more + level → Gives anything (climb (suc more) operand level) source sc s ns ws r ns ws₁) → (more : ℕ) → 5 ≤ more + level → Gives anything (climb more operand level) source sc s ns ws r ns ws₁
climbed {source} {sc} {s} {ns} {ws} operand level g zero h = by_another (flat_climb operand level (omega arith) (input source sc) (state s ns ws)) (g zero (omega arith))
climbed operand level g (suc more) h = g more h

-- ---- turns

taken : {level own : ℕ} (k : ℕ) → own ≡ level_of k → level ≤ own → ltb (level_of k) level ≡ false
taken {level} {own} k o h = ap (λ (x : ℕ). ltb x level) (sym o) ∙ le-ltb own level h

relations : {own last : ℕ} (k : ℕ) (l : LeftPart) {b : Bool} → own ≡ level_of k → l.level ≡ last → b ≡ are_relations own last → (eqb (level_of k) 2 && eqb l.level 2) ≡ b
relations {own} k l o p q = ap (λ (x : ℕ). eqb x 2 && eqb l.level 2) (sym o) ∙ ap (λ (x : ℕ). eqb own 2 && eqb x 2) p ∙ sym q

module _ {source : List ℕ} {sc : Scan} {s : Reading} {ns ws : List ℕ} (level : ℕ) (tighter : ℕ → Reader Expr) {t : Token} (st : Stands ws sc s.at t) {own last : ℕ} (o : own ≡ level_of t.kind) (l : LeftPart) (p : l.level ≡ last) where
  -- a looser operator, or none
  pub turn_ends : own < level → Gives (AtEnd anything) (operator_turn level tighter l) source sc s ns ws (Ok s) ns ws
  unfolding operator_turn
  turn_ends h = token _ st (so _ _ (ap (λ (x : ℕ). ltb x level) (sym o) ∙ lt-ltb own level h) (returned _ tt))

  -- a relation behind a bare relation
  pub turn_clashes : level ≤ own → {b : Bool} → b ≡ are_relations own last → b ≡ true → {r : Read} → r ≡ refusing ws sc s s.at 13 → Gives anything (operator_turn level tighter l) source sc s ns ws r ns ws
  unfolding operator_turn
  turn_clashes h q e y = token _ st (other _ _ (taken _ o h) (so _ _ (relations _ l o p q ∙ e) (refused _ y)))

  -- the operator and its right side
  pub turn_right : level ≤ own → {b : Bool} → b ≡ are_relations own last → b ≡ false → {a : Reading} → Moved s a → {ws₁ : List ℕ} {r : Read} → Gives anything (tighter (own + 1)) source sc a ns ws r ns ws₁ → Gives (once_more (λ k. k.level ≡ own)) (operator_turn level tighter l) source sc s ns ws r ns ws₁
  unfolding operator_turn read_right
  turn_right h q e {a} m {ws₁} {r} x =
      let right = subst (λ (n : ℕ). Gives anything (tighter (n + 1)) source sc a ns ws r ns ws₁) o x in
      token _ st (other _ _ (taken _ o h) (other _ _ (relations _ l o p q ∙ e) (made _ (token _ st (on _ (advanced m) refl (λ _ _. made {Q = anything} _ right (λ _ _ _. tt)))) (λ _ _ _. sym o))))
