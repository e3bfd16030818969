-- What a decoding that succeeds was made of.
use Prim.Native.Nat.{ℕ, zero, suc, ◌+◌, ◌≤◌, ◌<◌}
use native.Mathlib.Omega.{arith}
use mathlib.Core.Path.{◌≡◌, refl, ap, ◌∙◌}
use mathlib.Core.Bool.{Bool, true, false, ◌||◌}
use lib.Dec.{eqb}
use borrow.Author.Tests.{lt-ltb, le-ltb, eqb-true}
use Rattle.token.specs.Kind.{level_of}
use Rattle.std.specs.Prelude.{if◌then◌else◌}
use Rattle.program.specs.Syntax.{Expr, element, unary, binary}
use Rattle.cell_meaning.specs.Promises.Stands.{array_in, is_sign_kind, is_unary, Decoded, parsed, nothing, then_decode, decode_expression, decode_chain, decode_operand, decode_primary, decode_name, decode_bracket}
use Rattle.cell_meaning.specs.Links.{Table}

-- what is not there was not decoded
pub never : {next : ℕ} {e : Expr} {A : Type 0} → nothing ≡ parsed e next → A
never q = let z : ◌≡◌ {A = ℕ} 0 1 = cc in absurd (omega arith)

then_parsed : (P : Decoded) (f : Expr → ℕ → Decoded) (e : Expr) (next : ℕ) → then_decode P f ≡ parsed e next → (e₀ : Expr) × (m : ℕ) × (P ≡ parsed e₀ m) × (f e₀ m ≡ parsed e next)
then_parsed (parsed e₀ m) f e next q = (e₀, m, refl, q)
then_parsed nothing f e next q = never q

when_parsed : (b : Bool) {next : ℕ} {e : Expr} (P : Decoded) → (if b then P else nothing) ≡ parsed e next → (b ≡ true) × (P ≡ parsed e next)
when_parsed true P q = (refl, q)
when_parsed false P q = never q

module _ (t : Table) (at next : ℕ) (e : Expr) where
  pub was_unary : is_unary (t.kind at) ≡ true → (fuel : ℕ) → decode_operand fuel t at ≡ parsed e next
      → (f : ℕ) × (e₀ : Expr) × (decode_primary f t (at + 1) ≡ parsed e₀ next) × (e ≡ unary (t.kind at) (t.place at) e₀)
  unfolding decode_operand
  was_unary k zero q = never q
  was_unary k (suc f) q = go (then_parsed (decode_primary f t (at + 1)) (λ e next. parsed (unary (t.kind at) (t.place at) e) next) e next (simp k at q))
    where
      go : (e₀ : Expr) × (m : ℕ) × (decode_primary f t (at + 1) ≡ parsed e₀ m) × (parsed (unary (t.kind at) (t.place at) e₀) m ≡ parsed e next)
          → (f : ℕ) × (e₀ : Expr) × (decode_primary f t (at + 1) ≡ parsed e₀ next) × (e ≡ unary (t.kind at) (t.place at) e₀)
      go (e₀, m, p, h) = let u : m ≡ next = cc in (f, e₀, p ∙ ap (parsed e₀) u, cc)

  pub was_bare : is_unary (t.kind at) ≡ false → (fuel : ℕ) → decode_operand fuel t at ≡ parsed e next → (f : ℕ) × (decode_primary f t at ≡ parsed e next)
  unfolding decode_operand
  was_bare k zero q = never q
  was_bare k (suc f) q = (f, simp k at q)

  plus_none : t.kind at ≡ 43 → (fuel : ℕ) → decode_primary fuel t at ≡ parsed e next → ⊥
  unfolding decode_primary
  plus_none k zero q = never q
  plus_none k (suc f) q = never (simp k at q)

  minus_none : t.kind at ≡ 45 → (fuel : ℕ) → decode_primary fuel t at ≡ parsed e next → ⊥
  unfolding decode_primary
  minus_none k zero q = never q
  minus_none k (suc f) q = never (simp k at q)

  not_none : t.kind at ≡ 33 → (fuel : ℕ) → decode_primary fuel t at ≡ parsed e next → ⊥
  unfolding decode_primary
  not_none k zero q = never q
  not_none k (suc f) q = never (simp k at q)

  pub unary_none : is_unary (t.kind at) ≡ true → (fuel : ℕ) → decode_primary fuel t at ≡ parsed e next → ⊥
  unfolding is_unary is_sign_kind
  unary_none h fuel q = go (eqb (t.kind at) 43) refl (eqb (t.kind at) 45) refl h
    where
      go : (a : Bool) → eqb (t.kind at) 43 ≡ a → (b : Bool) → eqb (t.kind at) 45 ≡ b → ((a || b) || eqb (t.kind at) 33) ≡ true → ⊥
      go true ea b eb h = plus_none (eqb-true _ _ ea) fuel q
      go false ea true eb h = minus_none (eqb-true _ _ eb) fuel q
      go false ea false eb h = not_none (eqb-true _ _ h) fuel q

  pub was_paren : t.kind at ≡ 40 → (fuel : ℕ) → decode_primary fuel t at ≡ parsed e next → (f : ℕ) × (decode_bracket f t 41 at ≡ parsed e next)
  unfolding decode_primary
  was_paren k zero q = never q
  was_paren k (suc f) q = (f, simp k at q)

  pub was_name : t.kind at ≡ 1 → (fuel : ℕ) → decode_primary fuel t at ≡ parsed e next → (f : ℕ) × (decode_name f t at ≡ parsed e next)
  unfolding decode_primary
  was_name k zero q = never q
  was_name k (suc f) q = (f, simp k at q)

  pub was_array : t.word2 at ≡ 2 → (fuel : ℕ) → decode_name fuel t at ≡ parsed e next
      → (t.kind (at + 1) ≡ 91) × (f : ℕ) × (e₀ : Expr) × (decode_bracket f t 93 (at + 1) ≡ parsed e₀ next) × (e ≡ element (t.place (at + 1)) (array_in t (t.word3 at)) e₀)
  unfolding decode_name
  was_array k zero q = never q
  was_array k (suc f) q = go (when_parsed (eqb (t.kind (at + 1)) 91) inner (simp k at q))
    where
      inner : Decoded
      inner = then_decode (decode_bracket f t 93 (at + 1)) (λ e next. parsed (element (t.place (at + 1)) (array_in t (t.word3 at)) e) next)

      go : (eqb (t.kind (at + 1)) 91 ≡ true) × (inner ≡ parsed e next)
          → (t.kind (at + 1) ≡ 91) × (f : ℕ) × (e₀ : Expr) × (decode_bracket f t 93 (at + 1) ≡ parsed e₀ next) × (e ≡ element (t.place (at + 1)) (array_in t (t.word3 at)) e₀)
      go (b, h) =
          let s = then_parsed (decode_bracket f t 93 (at + 1)) (λ e next. parsed (element (t.place (at + 1)) (array_in t (t.word3 at)) e) next) e next h in
          let e₀ : Expr = s.0 in
          let m : ℕ = s.1 in
          let h₂ : decode_bracket f t 93 (at + 1) ≡ parsed e₀ m = s.2 in
          let h₃ : parsed (element (t.place (at + 1)) (array_in t (t.word3 at)) e₀) m ≡ parsed e next = s.3 in
          let h₄ : m ≡ next = cc in
          (eqb-true _ _ b, f, e₀, h₂ ∙ ap (parsed e₀) h₄, cc)

  pub was_bracket : (close fuel : ℕ) → decode_bracket fuel t close at ≡ parsed e next → (f : ℕ) × (m : ℕ) × (decode_expression f t 1 (at + 1) ≡ parsed e m) × (t.kind m ≡ close) × (next ≡ m + 1)
  unfolding decode_bracket
  was_bracket close zero q = never q
  was_bracket close (suc f) q =
      let s = then_parsed (decode_expression f t 1 (at + 1)) (λ e next. if eqb (t.kind next) close then parsed e (next + 1) else nothing) e next q in
      let e₀ : Expr = s.0 in
      let m : ℕ = s.1 in
      let u = when_parsed (eqb (t.kind m) close) (parsed e₀ (m + 1)) s.3 in
      let u₁ : parsed e₀ (m + 1) ≡ parsed e next = u.1 in
      let u₂ : e₀ ≡ e = cc in
      (f, m, s.2 ∙ ap (λ (x : Expr). parsed x m) u₂, eqb-true _ _ u.0, cc)

  pub was_expression : (level fuel : ℕ) → decode_expression fuel t level at ≡ parsed e next
      → (f : ℕ) × (e₀ : Expr) × (m : ℕ) × (decode_operand f t at ≡ parsed e₀ m) × (decode_chain f t level e₀ m ≡ parsed e next)
  unfolding decode_expression
  was_expression level zero q = never q
  was_expression level (suc f) q =
      let s = then_parsed (decode_operand f t at) (λ e next. decode_chain f t level e next) e next q in
      (f, s.0, s.1, s.2, s.3)

module _ (t : Table) (here level next : ℕ) (e : Expr) where
  -- a chain that ends, and one that takes an operator
  pub was_end : level_of (t.kind here) < level → (left : Expr) (fuel : ℕ) → decode_chain fuel t level left here ≡ parsed e next → (left ≡ e) × (here ≡ next)
  unfolding decode_chain
  was_end l left zero q = never q
  was_end l left (suc f) q = let h : parsed left here ≡ parsed e next = simp (lt-ltb _ _ l) at q in (cc, cc)

  pub went_on : level ≤ level_of (t.kind here) → (left : Expr) (f : ℕ) → decode_chain (suc f) t level left here ≡ parsed e next
      → (right : Expr) × (m : ℕ) × (decode_expression f t (level_of (t.kind here) + 1) (here + 1) ≡ parsed right m)
      × (decode_chain f t level (binary (t.kind here) (t.place here) left right) m ≡ parsed e next)
  unfolding decode_chain
  went_on l left f q =
      then_parsed (decode_expression f t (level_of (t.kind here) + 1) (here + 1)) (λ right next. decode_chain f t level (binary (t.kind here) (t.place here) left right) next) e next
      (simp (le-ltb _ _ l) at q)

  pub was_more : level ≤ level_of (t.kind here) → (left : Expr) (fuel : ℕ) → decode_chain fuel t level left here ≡ parsed e next
      → (f : ℕ) × (right : Expr) × (m : ℕ) × (decode_expression f t (level_of (t.kind here) + 1) (here + 1) ≡ parsed right m)
      × (decode_chain f t level (binary (t.kind here) (t.place here) left right) m ≡ parsed e next)
  unfolding decode_chain
  was_more l left zero q = never q
  was_more l left (suc f) q = let s = went_on l left f q in (f, s.0, s.1, s.2, s.3)
