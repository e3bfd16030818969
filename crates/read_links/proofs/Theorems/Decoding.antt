-- How an expression is decoded out of a table, with the indices that are written in it, a law for each form. Enough fuel, and all more, gives
-- the same.
use Prim.Native.Nat.{ℕ, zero, suc, ◌+◌, ◌≤◌, ◌<◌}
use native.Mathlib.Omega.{arith}
use mathlib.Core.Path.{◌≡◌, refl, ap, ◌∙◌}
use mathlib.Core.Bool.{true, false}
use mathlib.Core.List.{List, []}
use lib.Dec.{eqb, ltb}
use borrow.Author.Tests.{eq-eqb, ltb-false}
use Rattle.std.specs.Prelude.{if◌then◌else◌}
use Rattle.value.specs.Worked.{decode_of}
use Rattle.token.specs.Kind.{kind, delimiter, level_of}
use Rattle.program.specs.Syntax.{Range, Expr, number, time, variable, index, field, element, unary, binary}
use Rattle.cell_meaning.specs.Promises.Stands.{refers, indices_in, array_in, is_unary, Decoded, parsed, nothing, then_decode, decode_expression, decode_chain, decode_operand, decode_primary, decode_name, decode_bracket, ExprAt}
use Rattle.cell_meaning.specs.Links.{Table}
use Rattle.cell_meaning.specs.Written.{relatives_in_expr}
use Rattle.read_links.proofs.Theorems.Adding.{plain_kind, plain_operator, plain_unary, plain_of, Adds, adds_both, then_none, adds_plain, adds_index}

-- a decoder gives an expression, up to a position
pub record Decodes (d : ℕ → Decoded) (e : Expr) (next : ℕ) : Type 0 where
  pub enough : ℕ
  pub says : (fuel : ℕ) → enough ≤ fuel → d fuel ≡ parsed e next

-- by another decoder, with one less fuel
by_one : (d' d : ℕ → Decoded) {e : Expr} {next : ℕ} → ((f : ℕ) → d' (suc f) ≡ d f) → Decodes d e next → Decodes d' e next
by_one d' d {e} {next} step x = record { enough = suc x.enough; says = says }
  where
    says : (fuel : ℕ) → suc x.enough ≤ fuel → d' fuel ≡ parsed e next
    says zero l = absurd (omega arith)
    says (suc f) l = step f ∙ x.says f (omega arith)

-- by one decoder and then another
by_two : (d' d : ℕ → Decoded) (k : ℕ → Expr → ℕ → Decoded) {e₁ : Expr} {n₁ : ℕ} {e : Expr} {next : ℕ} → ((f : ℕ) → d' (suc f) ≡ then_decode (d f) (k f)) → Decodes d e₁ n₁ → Decodes (λ f. k f e₁ n₁) e next → Decodes d' e next
by_two d' d k {e₁} {n₁} {e} {next} step x y = record { enough = suc (x.enough + y.enough); says = says }
  where
    says : (fuel : ℕ) → suc (x.enough + y.enough) ≤ fuel → d' fuel ≡ parsed e next
    says zero l = absurd (omega arith)
    says (suc f) l = step f ∙ ap (λ (z : Decoded). then_decode z (k f)) (x.says f (omega arith)) ∙ y.says f (omega arith)

-- at once
at_once : (d : ℕ → Decoded) {e : Expr} {next : ℕ} → ((f : ℕ) → d (suc f) ≡ parsed e next) → Decodes d e next
at_once d {e} {next} step = record { enough = 1; says = says }
  where
    says : (fuel : ℕ) → 1 ≤ fuel → d fuel ≡ parsed e next
    says zero l = absurd (omega arith)
    says (suc f) l = step f

module _ (t : Table) where
  -- ---- what each form is

  -- what is written from a position up to the next is what is written in an expression
  abbrev pub AddsExpr : ℕ → Expr → ℕ → Type 0
  AddsExpr at e next = (loops : List Range) → Adds t loops at next (relatives_in_expr loops e)

  abbrev pub Expression : ℕ → ℕ → Expr → ℕ → Type 0
  Expression level at e next = Decodes (λ f. decode_expression f t level at) e next × AddsExpr at e next

  -- of operators behind a left part, from wherever that begins
  abbrev pub Chain : ℕ → Expr → ℕ → Expr → ℕ → Type 0
  Chain level left at e next =
      Decodes (λ f. decode_chain f t level left at) e next
      × ((loops : List Range) (from : ℕ) → Adds t loops from at (relatives_in_expr loops left) → Adds t loops from next (relatives_in_expr loops e))

  abbrev pub Operand : ℕ → Expr → ℕ → Type 0
  Operand at e next = Decodes (λ f. decode_operand f t at) e next × AddsExpr at e next

  abbrev pub Primary : ℕ → Expr → ℕ → Type 0
  Primary at e next = Decodes (λ f. decode_primary f t at) e next × AddsExpr at e next

  abbrev pub Name : ℕ → Expr → ℕ → Type 0
  Name at e next = Decodes (λ f. decode_name f t at) e next × (t.kind at ≡ kind.name → AddsExpr at e next)

  abbrev pub Bracket : ℕ → ℕ → Expr → ℕ → Type 0
  Bracket close at e next = Decodes (λ f. decode_bracket f t close at) e next × AddsExpr at e next

  pub as_expression : (at : ℕ) {e : Expr} {next : ℕ} → Expression 1 at e next → ExprAt t e at next
  as_expression at x = record { enough = x.0.enough; says = x.0.says }

  -- ---- operators

  pub expression : (level at : ℕ) {e₁ : Expr} {n₁ : ℕ} {e : Expr} {next : ℕ} → Operand at e₁ n₁ → Chain level e₁ n₁ e next → Expression level at e next
  unfolding decode_expression
  expression level at x y = (by_two _ _ (λ f e n. decode_chain f t level e n) (λ f. refl) x.0 y.0, λ loops. y.1 loops at (x.1 loops))

  pub chain_end : (level : ℕ) (left : Expr) (at : ℕ) → ltb (level_of (t.kind at)) level ≡ true → Chain level left at left at
  unfolding decode_chain
  chain_end level left at q = (at_once _ (λ f. rw q), λ loops from a. a)

  pub chain_on : (level : ℕ) (left : Expr) (at : ℕ) {right : Expr} {n₁ : ℕ} {e : Expr} {next : ℕ} → 1 ≤ level
      → ltb (level_of (t.kind at)) level ≡ false → Expression (level_of (t.kind at) + 1) (at + 1) right n₁
      → Chain level (binary (t.kind at) (t.place at) left right) n₁ e next → Chain level left at e next
  unfolding decode_chain relatives_in_expr
  chain_on level left at l q x y = (
    by_two _ _ (λ f right n. decode_chain f t level (binary (t.kind at) (t.place at) left right) n) (λ f. rw q) x.0 y.0,
    λ loops from a.
        let own : level ≤ level_of (t.kind at) = ltb-false _ _ q in
        y.1 loops from (adds_both t loops a (adds_both t loops (adds_plain t loops at (plain_operator (t.kind at) (omega arith))) (x.1 loops))),
  )

  pub operand_unary : (at : ℕ) {e : Expr} {next : ℕ} → is_unary (t.kind at) ≡ true → Primary (at + 1) e next → Operand at (unary (t.kind at) (t.place at) e) next
  unfolding decode_operand relatives_in_expr
  operand_unary at q x = (
    by_two _ _ (λ f e n. parsed (unary (t.kind at) (t.place at) e) n) (λ f. rw q) x.0 (at_once _ (λ f. refl)),
    λ loops. adds_both t loops (adds_plain t loops at (plain_unary (t.kind at) q)) (x.1 loops),
  )

  pub operand_plain : (at : ℕ) {e : Expr} {next : ℕ} → is_unary (t.kind at) ≡ false → Primary at e next → Operand at e next
  unfolding decode_operand
  operand_plain at q x = (by_one _ _ (λ f. rw q) x.0, x.1)

  -- ---- primaries

  module _ (at : ℕ) where
    pub primary_literal : t.kind at ≡ kind.literal → Primary at (number (decode_of (t.word2 at))) (at + 1)
    unfolding decode_primary relatives_in_expr plain_kind
    primary_literal q = (at_once _ (λ f. rw q), λ loops. adds_plain t loops at (plain_of kind.literal q refl))

    pub primary_name : {e : Expr} {next : ℕ} → t.kind at ≡ kind.name → Name at e next → Primary at e next
    unfolding decode_primary
    primary_name q x = (by_one _ _ (λ f. rw q) x.0, x.1 q)

    pub primary_index : t.kind at ≡ delimiter.bracket → 0 < t.word3 at → at < t.past at → Primary at (field (indices_in t t.dims (at + 1)) (t.word2 at)) (t.past at)
    unfolding decode_primary relatives_in_expr
    primary_index q w l = (at_once _ (λ f. rw q), λ loops. adds_index t loops at q w refl l)

    pub primary_own : t.kind at ≡ kind.cell → ((loops : List Range) → Adds t loops (at + 1) (t.past at) []) → Primary at (field [] (t.word2 at)) (t.past at)
    unfolding decode_primary relatives_in_expr plain_kind
    primary_own q a = (at_once _ (λ f. rw q), λ loops. adds_both t loops (adds_plain t loops at (plain_of kind.cell q refl)) (a loops))

    pub primary_bracket : {e : Expr} {next : ℕ} → t.kind at ≡ delimiter.paren → Bracket delimiter.unparen at e next → Primary at e next
    unfolding decode_primary
    primary_bracket q x = (by_one _ _ (λ f. rw q) x.0, x.1)

    pub primary_time : t.kind at ≡ kind.time → Primary at time (at + 1)
    unfolding decode_primary relatives_in_expr plain_kind
    primary_time q = (at_once _ (λ f. rw q), λ loops. adds_plain t loops at (plain_of kind.time q refl))

    -- ---- names

    pub name_variable : t.word2 at ≡ refers.variable → Name at (variable (t.word3 at)) (at + 1)
    unfolding decode_name relatives_in_expr plain_kind
    name_variable q = (at_once _ (λ f. rw q), λ k loops. adds_plain t loops at (plain_of kind.name k refl))

    pub name_constant : t.word2 at ≡ refers.constant → Name at (number (decode_of (t.word3 at))) (at + 1)
    unfolding decode_name relatives_in_expr plain_kind
    name_constant q = (at_once _ (λ f. rw q), λ k loops. adds_plain t loops at (plain_of kind.name k refl))

    pub name_index : t.word2 at ≡ refers.index → Name at (index (t.word3 at)) (at + 1)
    unfolding decode_name relatives_in_expr plain_kind
    name_index q = (at_once _ (λ f. rw q), λ k loops. adds_plain t loops at (plain_of kind.name k refl))

    pub name_array : {e : Expr} {next : ℕ} → t.word2 at ≡ refers.array → t.kind (at + 1) ≡ delimiter.bracket → Bracket delimiter.unbracket (at + 1) e next → Name at (element (t.place (at + 1)) (array_in t (t.word3 at)) e) next
    unfolding decode_name relatives_in_expr plain_kind
    name_array q k x = (
      by_two _ _ (λ f e n. parsed (element (t.place (at + 1)) (array_in t (t.word3 at)) e) n) (λ f. rw (q, k)) x.0 (at_once _ (λ f. refl)),
      λ n loops. adds_both t loops (adds_plain t loops at (plain_of kind.name n refl)) (x.1 loops),
    )

    pub bracket : {e : Expr} {next : ℕ} (close : ℕ) → plain_kind close ≡ true → ((loops : List Range) → Adds t loops at (at + 1) [])
        → Expression 1 (at + 1) e next → t.kind next ≡ close → Bracket close at e (next + 1)
    unfolding decode_bracket
    bracket {e} {next} close p a x q = (
      by_two _ _ (λ f e n. if eqb (t.kind n) close then parsed e (n + 1) else nothing) (λ f. refl) x.0 (at_once _ (λ f. rw (eq-eqb (t.kind next) close q))),
      λ loops. then_none t loops (adds_both t loops (a loops) (x.1 loops)) (adds_plain t loops next (plain_of close q p)),
    )
