-- Where `time` stands in a tree that stands in a table, the table has a token of that kind.
use Prim.Native.Nat.{ℕ, zero, suc, ◌+◌, ◌<◌}
use native.Mathlib.Nat.{le_refl}
use native.Mathlib.Omega.{arith}
use mathlib.Core.Path.{◌≡◌, refl, sym, ap, ◌∙◌}
use mathlib.Core.Bool.{Bool, true, false, ◌&&◌, ◌||◌}
use mathlib.Core.List.{List, [], ◌∷◌}
use mathlib.Core.Option.{Option, none, some}
use lib.Dec.{eqb, ltb}
use lib.IntN.{ℤ}
use borrow.Author.Tests.{eqb-true, eqb-false, ltb-true}
use Rattle.value.proofs.Theorems.Truth.{neither}
use Rattle.std.specs.Prelude.{if◌then◌else◌}
use Rattle.value.proofs.Theorems.Laws.{never}
use Rattle.value.specs.Worked.{decode_of}
use Rattle.token.specs.Kind.{kind, keyword, delimiter, level_of}
use Rattle.program.specs.Syntax.{Range, Index, Expr, number, time, variable, index, field, element, unary, binary, Target, Clause, Block, empty, assign, select, loop, exit, constant}
use Rattle.program.specs.Table.{word_at}
use Rattle.grammar.specs.Source.{has_kind}
use Rattle.read_links.proofs.Theorems.Proper.{OnlyLast, ProperClauses, Proper}
use Rattle.cell_meaning.specs.Promises.Stands.{refers, indices_in, array_in, is_unary, Decoded, parsed, nothing, then_decode, decode_expression, decode_chain, decode_operand, decode_primary, decode_name, decode_bracket, ExprAt, GuardAt, ClausesAt, ElseAt, Stands, Elsif}
use Rattle.cell_meaning.specs.Links.{Table, table_of, word_in}

-- tests of trees for `time`, by their clauses
pub record Timing (timed_expr : Expr → Bool) (timed_condition : Option Expr → Bool) (timed_clauses : List Clause → Bool) (timed : Block → Bool) : Type 0 where
  pub of_number : (z : ℤ) → timed_expr (number z) ≡ false
  pub of_variable : (slot : ℕ) → timed_expr (variable slot) ≡ false
  pub of_index : (depth : ℕ) → timed_expr (index depth) ≡ false
  pub of_field : (is : List Index) (f : ℕ) → timed_expr (field is f) ≡ false
  pub of_element : (p : ℕ) (zs : List ℤ) (e : Expr) → timed_expr (element p zs e) ≡ timed_expr e
  pub of_unary : (op p : ℕ) (e : Expr) → timed_expr (unary op p e) ≡ timed_expr e
  pub of_binary : (op p : ℕ) (d e : Expr) → timed_expr (binary op p d e) ≡ (timed_expr d || timed_expr e)
  pub of_none : timed_condition none ≡ false
  pub of_some : (e : Expr) → timed_condition (some e) ≡ timed_expr e
  pub of_nil : timed_clauses [] ≡ false
  pub of_cons : (c : Clause) (cs : List Clause) → timed_clauses (c ∷ cs) ≡ (timed_expr c.expr || (timed_condition c.condition || timed_clauses cs))
  pub of_empty : timed empty ≡ false
  pub of_assign : (to : Target) (cs : List Clause) (rest : Block) → timed (assign to cs rest) ≡ (timed_clauses cs || timed rest)
  pub of_select : (c : Expr) (d e rest : Block) → timed (select c d e rest) ≡ (timed_expr c || (timed d || (timed e || timed rest)))
  pub of_loop : (r : Range) (d rest : Block) → timed (loop r d rest) ≡ (timed d || timed rest)
  pub of_exit : (rest : Block) → timed (exit rest) ≡ timed rest
  pub of_constant : (rest : Block) → timed (constant rest) ≡ timed rest

-- ---- decoders that give something

no_parse : {X : Type 0} {e : Expr} {n : ℕ} → nothing ≡ parsed e n → X
no_parse q = absurd (let z : ◌≡◌ {A = ℕ} 0 1 = cc in omega arith)

record Both (d : Decoded) (k : Expr → ℕ → Decoded) (e : Expr) (n : ℕ) : Type 0 where
  pub first : Expr
  pub upto : ℕ
  pub gives : d ≡ parsed first upto
  pub then_gives : k first upto ≡ parsed e n

both : (d : Decoded) (k : Expr → ℕ → Decoded) {e : Expr} {n : ℕ} → then_decode d k ≡ parsed e n → Both d k e n
both (parsed e₁ n₁) k q = record { first = e₁; upto = n₁; gives = refl; then_gives = q }
both nothing k q = no_parse q

module _ {timed_expr : Expr → Bool} {timed_condition : Option Expr → Bool} {timed_clauses : List Clause → Bool} {timed : Block → Bool} (T : Timing timed_expr timed_condition timed_clauses timed) (t : Table) (none_there : (i : ℕ) → t.kind i ≡ kind.time → ⊥) where
  -- what was parsed is this expression
  is : {e e' : Expr} {n n' : ℕ} → parsed e n ≡ parsed e' n' → timed_expr e ≡ false → timed_expr e' ≡ false
  is {e} {e'} q h = let p : e ≡ e' = cc in ap timed_expr (sym p) ∙ h

  -- ---- expressions, by fuel

  record Untimed (f : ℕ) : Type 0 where
    pub expression : (level at : ℕ) (e : Expr) (n : ℕ) → decode_expression f t level at ≡ parsed e n → timed_expr e ≡ false
    pub chain : (level : ℕ) (left : Expr) (at : ℕ) (e : Expr) (n : ℕ) → timed_expr left ≡ false → decode_chain f t level left at ≡ parsed e n → timed_expr e ≡ false
    pub operand : (at : ℕ) (e : Expr) (n : ℕ) → decode_operand f t at ≡ parsed e n → timed_expr e ≡ false
    pub primary : (at : ℕ) (e : Expr) (n : ℕ) → decode_primary f t at ≡ parsed e n → timed_expr e ≡ false
    pub name : (at : ℕ) (e : Expr) (n : ℕ) → decode_name f t at ≡ parsed e n → timed_expr e ≡ false
    pub bracket : (close at : ℕ) (e : Expr) (n : ℕ) → decode_bracket f t close at ≡ parsed e n → timed_expr e ≡ false

  untimed_zero : Untimed zero
  unfolding decode_expression
  untimed_zero = record {
    expression = λ level at e n q. no_parse q;
    chain = λ level left at e n h q. no_parse q;
    operand = λ at e n q. no_parse q;
    primary = λ at e n q. no_parse q;
    name = λ at e n q. no_parse q;
    bracket = λ close at e n q. no_parse q;
  }

  module _ (f : ℕ) (u : Untimed f) where
    more_chain : (level : ℕ) (left : Expr) (at : ℕ) (e : Expr) (n : ℕ) → timed_expr left ≡ false → decode_chain (suc f) t level left at ≡ parsed e n → timed_expr e ≡ false
    unfolding decode_chain
    more_chain level left at e n h q = by (ltb (level_of (t.kind at)) level) q
      where
        by : (b : Bool) → (if b then parsed left at else then_decode (decode_expression f t (level_of (t.kind at) + 1) (at + 1)) (λ right next. decode_chain f t level (binary (t.kind at) (t.place at) left right) next)) ≡ parsed e n → timed_expr e ≡ false
        by true q = is q h
        by false q =
            let b = both (decode_expression f t (level_of (t.kind at) + 1) (at + 1)) (λ right next. decode_chain f t level (binary (t.kind at) (t.place at) left right) next) q in
            u.chain level _ _ e n (T.of_binary (t.kind at) (t.place at) left b.first ∙ neither h (u.expression _ _ _ _ b.gives)) b.then_gives

    more_operand : (at : ℕ) (e : Expr) (n : ℕ) → decode_operand (suc f) t at ≡ parsed e n → timed_expr e ≡ false
    unfolding decode_operand
    more_operand at e n q = by (is_unary (t.kind at)) q
      where
        by : (b : Bool) → (if b then then_decode (decode_primary f t (at + 1)) (λ e next. parsed (unary (t.kind at) (t.place at) e) next) else decode_primary f t at) ≡ parsed e n → timed_expr e ≡ false
        by true q =
            let b = both (decode_primary f t (at + 1)) (λ e next. parsed (unary (t.kind at) (t.place at) e) next) q in
            is b.then_gives (T.of_unary _ _ b.first ∙ u.primary (at + 1) b.first b.upto b.gives)
        by false q = u.primary at e n q

    more_primary : (at : ℕ) (e : Expr) (n : ℕ) → decode_primary (suc f) t at ≡ parsed e n → timed_expr e ≡ false
    unfolding decode_primary
    more_primary at e n q = by (eqb (t.kind at) kind.literal) (eqb (t.kind at) kind.name) (eqb (t.kind at) delimiter.bracket) (eqb (t.kind at) kind.cell) (eqb (t.kind at) delimiter.paren) (eqb (t.kind at) kind.time) refl q
      where
        by : (l m b c p k : Bool) → eqb (t.kind at) kind.time ≡ k
            → (if l then parsed (number (decode_of (t.word2 at))) (at + 1)
            else if m then decode_name f t at
            else if b then parsed (field (indices_in t t.dims (at + 1)) (t.word2 at)) (t.past at)
            else if c then parsed (field [] (t.word2 at)) (t.past at)
            else if p then decode_bracket f t delimiter.unparen at
            else if k then parsed time (at + 1)
            else nothing)
            ≡ parsed e n
            → timed_expr e ≡ false
        by true m b c p k h q = is q (T.of_number _)
        by false true b c p k h q = u.name at e n q
        by false false true c p k h q = is q (T.of_field _ _)
        by false false false true p k h q = is q (T.of_field _ _)
        by false false false false true k h q = u.bracket _ at e n q
        by false false false false false true h q = absurd (none_there at (eqb-true _ _ h))
        by false false false false false false h q = no_parse q

    more_name : (at : ℕ) (e : Expr) (n : ℕ) → decode_name (suc f) t at ≡ parsed e n → timed_expr e ≡ false
    unfolding decode_name
    more_name at e n q = by (eqb (t.word2 at) refers.variable) (eqb (t.word2 at) refers.constant) (eqb (t.word2 at) refers.index) (eqb (t.word2 at) refers.array && eqb (t.kind (at + 1)) delimiter.bracket) q
      where
        by : (v c i a : Bool)
            → (if v then parsed (variable (t.word3 at)) (at + 1)
            else if c then parsed (number (decode_of (t.word3 at))) (at + 1)
            else if i then parsed (index (t.word3 at)) (at + 1)
            else if a then then_decode (decode_bracket f t delimiter.unbracket (at + 1)) (λ e next. parsed (element (t.place (at + 1)) (array_in t (t.word3 at)) e) next)
            else nothing)
            ≡ parsed e n
            → timed_expr e ≡ false
        by true c i a q = is q (T.of_variable _)
        by false true i a q = is q (T.of_number _)
        by false false true a q = is q (T.of_index _)
        by false false false true q =
            let b = both (decode_bracket f t delimiter.unbracket (at + 1)) (λ e next. parsed (element (t.place (at + 1)) (array_in t (t.word3 at)) e) next) q in
            is b.then_gives (T.of_element _ _ b.first ∙ u.bracket delimiter.unbracket (at + 1) b.first b.upto b.gives)
        by false false false false q = no_parse q

    more_bracket : (close at : ℕ) (e : Expr) (n : ℕ) → decode_bracket (suc f) t close at ≡ parsed e n → timed_expr e ≡ false
    unfolding decode_bracket
    more_bracket close at e n q =
        let b = both (decode_expression f t 1 (at + 1)) (λ e next. if eqb (t.kind next) close then parsed e (next + 1) else nothing) q in
        by (b.upto + 1) (eqb (t.kind b.upto) close) (u.expression 1 (at + 1) b.first b.upto b.gives) b.then_gives
      where
        by : {e₁ : Expr} (n₁ : ℕ) (c : Bool) → timed_expr e₁ ≡ false → (if c then parsed e₁ n₁ else nothing) ≡ parsed e n → timed_expr e ≡ false
        by n₁ true h q = is q h
        by n₁ false h q = no_parse q

    more : Untimed (suc f)
    unfolding decode_expression
    more = record {
      expression = λ level at e n q.
          let b = both (decode_operand f t at) (λ e next. decode_chain f t level e next) q in
          u.chain level b.first b.upto e n (u.operand at b.first b.upto b.gives) b.then_gives;
      chain = more_chain;
      operand = more_operand;
      primary = more_primary;
      name = more_name;
      bracket = more_bracket;
    }

  untimed : (f : ℕ) → Untimed f
  untimed zero = untimed_zero
  untimed (suc f) = more f (untimed f)

  expr_untimed : {e : Expr} {at next : ℕ} → ExprAt t e at next → timed_expr e ≡ false
  expr_untimed {e} {at} {next} x = (untimed x.enough).expression 1 at e next (x.says x.enough (le_refl x.enough))

  -- ---- clauses

  clauses_untimed : (cs : List Clause) → ProperClauses cs → (at : ℕ) → ClausesAt t cs at → timed_clauses cs ≡ false
  clauses_untimed [] p at x = T.of_nil
  clauses_untimed (c ∷ cs) p at x = T.of_cons c cs ∙ neither (expr_untimed x.3) (by c.condition p.0 x.4 (clauses_untimed cs p.1))
    where
      by : (o : Option Expr) → OnlyLast o cs → GuardAt t o (λ i. ClausesAt t cs i) at → ((i : ℕ) → ClausesAt t cs i → timed_clauses cs ≡ false) → (timed_condition o || timed_clauses cs) ≡ false
      by none l g rest = neither T.of_none (ap timed_clauses l ∙ T.of_nil)
      by (some e) l g rest = neither (T.of_some e ∙ expr_untimed g.2) (rest _ g.3)

  -- ---- statements

  -- what stands behind an arm
  else_untimed : (depth : ℕ) (e : Block) (at : ℕ) → ((at : ℕ) → Stands t depth e at → timed e ≡ false) → ((at : ℕ) → Elsif t depth e at → timed e ≡ false) → ElseAt t (λ j. Stands t depth e j) (λ j. Elsif t depth e j) (e ≡ empty) at → timed e ≡ false
  else_untimed depth e at stands arms x = by (eqb (t.kind at) keyword.else) refl (eqb (t.kind at) keyword.elsif) refl
    where
      by : (a : Bool) → eqb (t.kind at) keyword.else ≡ a → (b : Bool) → eqb (t.kind at) keyword.elsif ≡ b → timed e ≡ false
      by true p b q = stands (at + 1) (x.at_else (eqb-true _ _ p))
      by false p true q = arms at (x.at_elsif (eqb-true _ _ q))
      by false p false q = ap timed (x.at_end (eqb-false _ _ p) (eqb-false _ _ q)) ∙ T.of_empty

  -- as statements, and as an arm at `elsif`
  block_untimed : (b : Block) → Proper b → (depth : ℕ) → ((at : ℕ) → Stands t depth b at → timed b ≡ false) × ((at : ℕ) → Elsif t depth b at → timed b ≡ false)
  unfolding Stands
  block_untimed empty p depth = (λ at x. T.of_empty, λ at x. absurd x)
  block_untimed (assign to cs rest) p depth = (λ at x. T.of_assign to cs rest ∙ neither (clauses_untimed cs p.0 _ x.2) ((block_untimed rest p.1 depth).0 _ x.3), λ at x. absurd x)
  block_untimed (select c d e rest) p depth = (
    λ at x.
        T.of_select c d e rest
        ∙ neither (expr_untimed x.1.condition)
        (neither ((block_untimed d p.0 depth).0 _ x.1.part)
        (neither (else_untimed depth e _ (block_untimed e p.1 depth).0 (block_untimed e p.1 depth).1 x.1.rest) ((block_untimed rest p.2 depth).0 _ x.2))),
    λ at x.
        T.of_select c d e rest
        ∙ neither (expr_untimed x.1.condition)
        (neither ((block_untimed d p.0 depth).0 _ x.1.part) (neither (else_untimed depth e _ (block_untimed e p.1 depth).0 (block_untimed e p.1 depth).1 x.1.rest) (ap timed x.0 ∙ T.of_empty))),
  )
  block_untimed (loop r d rest) p depth = (λ at x. T.of_loop r d rest ∙ neither ((block_untimed d p.0 (depth + 1)).0 _ x.1.part) ((block_untimed rest p.1 depth).0 _ x.2), λ at x. absurd x)
  block_untimed (exit rest) p depth = (λ at x. T.of_exit rest ∙ (block_untimed rest p depth).0 _ x.1, λ at x. absurd x)
  block_untimed (constant rest) p depth = (λ at x. T.of_constant rest ∙ (block_untimed rest p depth).0 _ x.1, λ at x. absurd x)

-- ---- tokens

-- a kind that no token has
has_not : (k : ℕ) (words : List ℕ) (n : ℕ) → has_kind k words n ≡ false → (i : ℕ) → i < n → word_at words i 0 ≡ k → ⊥
unfolding has_kind
has_not k words zero q i l e = omega arith
has_not k words (suc n) q i l e = by (has_kind k words n) refl (eqb i n) refl (has_not k words n)
  where
    by : (a : Bool) → has_kind k words n ≡ a → (b : Bool) → eqb i n ≡ b → (has_kind k words n ≡ false → (i : ℕ) → i < n → word_at words i 0 ≡ k → ⊥) → ⊥
    by true h b p rest = never (sym (sym (ap (λ (y : Bool). y || eqb (word_at words n 0) k) h) ∙ q))
    by false h true p rest = let m = eqb-true i n p in eqb-false (word_at words n 0) k (sym (ap (λ (y : Bool). y || eqb (word_at words n 0) k) h) ∙ q) (ap (λ (y : ℕ). word_at words y 0) (sym m) ∙ e)
    by false h false p rest = let m = eqb-false i n p in rest h i (omega arith) e

-- where `time` stands in a tree, it stands in the table
pub timed_stands : {timed_expr : Expr → Bool} {timed_condition : Option Expr → Bool} {timed_clauses : List Clause → Bool} {timed : Block → Bool} → Timing timed_expr timed_condition timed_clauses timed → (words : List ℕ) (n dims depth : ℕ) (b : Block) (at : ℕ)
    → Proper b → Stands (table_of words n dims) depth b at → timed b ≡ true → has_kind kind.time words n ≡ true
unfolding word_in
timed_stands {timed = timed} T words n dims depth b at p x h = by (has_kind kind.time words n) refl
  where
    by : (c : Bool) → has_kind kind.time words n ≡ c → has_kind kind.time words n ≡ true
    by true q = q
    by false q = never (sym ((block_untimed T (table_of words n dims) (λ i e. there i (ltb i n) refl e) b p depth).0 at x) ∙ h)
      where
        there : (i : ℕ) (c : Bool) → ltb i n ≡ c → (if c then word_at words i 0 else 0) ≡ kind.time → ⊥
        there i true l e = has_not kind.time words n q i (ltb-true i n l) e
        there i false l e = omega arith
