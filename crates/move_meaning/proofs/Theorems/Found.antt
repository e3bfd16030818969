-- A source in the profile has a program that moves once: what its tokens say holds of its tree.
use Prim.Native.Nat.{ℕ, zero, suc, ◌+◌, ◌<◌}
use native.Mathlib.Omega.{arith}
use mathlib.Core.Path.{◌≡◌, refl, sym, ap, ◌∙◌, subst}
use mathlib.Core.Logic.{◌⊎◌, inl, inr}
use mathlib.Core.Bool.{Bool, true, false, ◌&&◌, ◌||◌}
use mathlib.Core.List.{List, [], ◌∷◌}
use mathlib.Core.Option.{Option, none, some}
use lib.ListN.{length, get_or}
use lib.Dec.{eqb, ltb}
use lib.IntN.{pos}
use borrow.Author.Tests.{eqb-true}
use Rattle.std.specs.Prelude.{if◌then◌else◌}
use Rattle.value.specs.Worked.{decode_of}
use Rattle.value.proofs.Theorems.Laws.{never, and_both}
use Rattle.token.specs.Kind.{kind, keyword, relation, delimiter, level_of}
use Rattle.program.specs.Syntax.{Expr, number, field, binary, Target, to_field, Clause, Block, empty, assign, select, loop, exit, constant}
use Rattle.cell_meaning.specs.Promises.Stands.{is_sign_kind, is_unary, Decoded, parsed, then_decode, decode_expression, decode_chain, decode_operand, ExprAt, target_in, first_clause, GuardAt, ClausesAt, assigns, Stands}
use Rattle.cell_meaning.specs.Links.{Table, begins}
use Rattle.move_meaning.specs.Profile.{kinds_at, Tokens, digit_at, opens_at, closes_at, past_constants, last_statement, moves_once}
use Rattle.move_meaning.proofs.Theorems.Moving.{Blank, Sets, LastSets, Once, Moves}

module _ (t : Table) where
  -- each token of a row has its kind
  row_kind : (ks : List ℕ) (at : ℕ) → kinds_at t at ks ≡ true → (m : ℕ) → m < length ks → t.kind (at + m) ≡ get_or ks m 0
  unfolding kinds_at
  row_kind [] at h m l = absurd (omega arith)
  row_kind (k ∷ ks) at h zero l =
      ap t.kind (omega arith) ∙ eqb-true (t.kind at) k (and_both (eqb (t.kind at) k) (kinds_at t (at + 1) ks) h).0
  row_kind (k ∷ ks) at h (suc m) l =
      ap t.kind (omega arith) ∙ row_kind ks (at + 1) (and_both (eqb (t.kind at) k) (kinds_at t (at + 1) ks) h).1 m (omega arith)

  -- ---- expressions of few tokens

  -- a literal stands alone, where no operator follows
  literal_alone : (fuel level at v k : ℕ) → t.kind at ≡ kind.literal → t.word2 at ≡ v → t.kind (at + 1) ≡ k → ltb (level_of k) level ≡ true
      → decode_expression (suc (suc (suc (suc fuel)))) t level at ≡ parsed (number (decode_of v)) (at + 1)
  unfolding decode_expression is_unary is_sign_kind
  literal_alone fuel level at v k e w q l = rw (e, w, q, l) refl

  -- `cell` with a field
  own_field : (fuel at f next : ℕ) → t.kind at ≡ kind.cell → t.word2 at ≡ f → t.past at ≡ next
      → decode_operand (suc (suc fuel)) t at ≡ parsed (field [] f) next
  unfolding decode_expression is_unary is_sign_kind
  own_field fuel at f next e w p = rw (e, w, p) refl

  -- `cell.field = digit`, where no operator follows
  flag_test : (fuel at f v k : ℕ) → t.kind at ≡ kind.cell → t.word2 at ≡ f → t.past at ≡ at + 3 → t.kind (at + 3) ≡ relation.equal
      → t.kind (at + 4) ≡ kind.literal → t.word2 (at + 4) ≡ v → t.kind (at + 5) ≡ k → level_of k ≡ 0
      → decode_expression (suc (suc (suc (suc (suc (suc (suc (suc fuel)))))))) t 1 at
      ≡ parsed (binary relation.equal (t.place (at + 3)) (field [] f) (number (decode_of v))) (at + 5)
  unfolding decode_expression level_of
  flag_test fuel at f v k e w p q r u b z =
      ap (λ (d : Decoded). then_decode d (λ e next. decode_chain (suc (suc (suc (suc (suc (suc (suc fuel))))))) t 1 e next)) (own_field (suc (suc (suc (suc (suc fuel))))) at f (at + 3) e w p)
      ∙ rw q (ap (λ (d : Decoded). then_decode d (λ right next. decode_chain (suc (suc (suc (suc (suc (suc fuel)))))) t 1 (binary relation.equal (t.place (at + 3)) (field [] f) right) next)) right)
      ∙ last
    where
      four : at + 3 + 1 ≡ at + 4
      four = omega arith

      five : at + 4 + 1 ≡ at + 5
      five = omega arith

      right : decode_expression (suc (suc (suc (suc (suc (suc fuel)))))) t 3 (at + 3 + 1) ≡ parsed (number (decode_of v)) (at + 5)
      right =
          ap (λ (n : ℕ). decode_expression (suc (suc (suc (suc (suc (suc fuel)))))) t 3 n) four
          ∙ literal_alone (suc (suc fuel)) 3 (at + 4) v k r u (ap t.kind five ∙ b) (rw z refl)
          ∙ ap (λ (n : ℕ). parsed (number (decode_of v)) n) five

      last : decode_chain (suc (suc (suc (suc (suc (suc fuel)))))) t 1 (binary relation.equal (t.place (at + 3)) (field [] f) (number (decode_of v))) (at + 5)
          ≡ parsed (binary relation.equal (t.place (at + 3)) (field [] f) (number (decode_of v))) (at + 5)
      last = rw (b, z) refl

  parsed_same : {e e' : Expr} {n n' : ℕ} → parsed e n ≡ parsed e' n' → (e ≡ e') × (n ≡ n')
  parsed_same {e} {e'} {n} {n'} q = let a : e ≡ e' = cc in let b : n ≡ n' = cc in (a, b)

  -- an expression that is decoded with eight turns more is the one that stands there
  stands_as : {c e : Expr} {at next n : ℕ} → ExprAt t c at next → ((fuel : ℕ) → decode_expression (suc (suc (suc (suc (suc (suc (suc (suc fuel)))))))) t 1 at ≡ parsed e n)
      → (c ≡ e) × (next ≡ n)
  stands_as x h = parsed_same (sym (x.says (suc (suc (suc (suc (suc (suc (suc (suc x.enough)))))))) (omega arith)) ∙ h x.enough)

  -- ---- kinds that exclude one another

  clash : {X : Type 0} (k l : ℕ) {at : ℕ} → t.kind at ≡ k → t.kind at ≡ l → (k ≡ l → ⊥) → X
  clash k l p q d = absurd (d (sym p ∙ q))

  no_begin : {X : Type 0} (k : ℕ) {at : ℕ} → t.kind at ≡ k → begins (t.kind at) ≡ false → begins k ≡ true → X
  no_begin k p q r = never (sym q ∙ ap begins p ∙ r)

  no_assign : {X : Type 0} (k : ℕ) {at : ℕ} → t.kind at ≡ k → assigns (t.kind at) ≡ true → assigns k ≡ false → X
  no_assign k p q r = never (sym r ∙ ap assigns (sym p) ∙ q)

  -- ---- constants

  record Constant (b : Block) (at : ℕ) : Type 0 where
    pub rest : Block
    pub is : b ≡ constant rest
    pub stands : Stands t 0 rest (t.past at)

  -- where `const` stands, a constant is declared
  constant_first : (b : Block) (at : ℕ) → Stands t 0 b at → t.kind at ≡ keyword.const → Constant b at
  unfolding Stands begins assigns
  constant_first empty at h y = no_begin keyword.const y h refl
  constant_first (assign to cs rest) at h y = no_assign keyword.const y h.0 refl
  constant_first (select c d e rest) at h y = clash keyword.const keyword.if y h.0 (λ z. omega arith)
  constant_first (loop r d rest) at h y = clash keyword.const keyword.forall y h.0 (λ z. omega arith)
  constant_first (exit rest) at h y = clash keyword.const keyword.exit y h.0 (λ z. omega arith)
  constant_first (constant rest) at h y = record { rest = rest; is = refl; stands = h.1 }

  -- where no statement begins, there is none
  none_first : (b : Block) (at k : ℕ) → Stands t 0 b at → t.kind at ≡ k → begins k ≡ false → assigns k ≡ false → Blank b
  unfolding Stands begins assigns
  none_first empty at k h y p q = tt
  none_first (assign to cs rest) at k h y p q = no_assign k y h.0 q
  none_first (select c d e rest) at k h y p q = never (sym p ∙ ap begins (sym y ∙ h.0))
  none_first (loop r d rest) at k h y p q = never (sym p ∙ ap begins (sym y ∙ h.0))
  none_first (exit rest) at k h y p q = never (sym p ∙ ap begins (sym y ∙ h.0))
  none_first (constant rest) at k h y p q = never (sym p ∙ ap begins (sym y ∙ h.0))

  -- constants up to where no statement begins
  blank_upto : (turns : ℕ) (b : Block) (at : ℕ) → Stands t 0 b at → t.kind (past_constants turns t at) ≡ 0 → Blank b
  unfolding past_constants begins assigns
  blank_upto zero b at h k = none_first b at 0 h k refl refl
  blank_upto (suc turns) b at h k = go (eqb (t.kind at) keyword.const) refl k (blank_upto turns)
    where
      go : (x : Bool) → eqb (t.kind at) keyword.const ≡ x → t.kind (if x then past_constants turns t (t.past at) else at) ≡ 0
          → ((b : Block) (at : ℕ) → Stands t 0 b at → t.kind (past_constants turns t at) ≡ 0 → Blank b) → Blank b
      go true x k more = let c = constant_first b at h (eqb-true _ _ x) in subst Blank (sym c.is) (more c.rest (t.past at) c.stands k)
      go false x k more = none_first b at 0 h k refl refl

  -- ---- the one statement

  module _ (f : ℕ) where
    -- where `if` stands, the first statement is a choice
    if_first : (b : Block) (at : ℕ) → Stands t 0 b at → t.kind at ≡ keyword.if
        → ((c : Expr) (d e rest : Block) → Stands t 0 (select c d e rest) at → Once f c d e × Blank rest) → Moves f b
    unfolding Stands begins assigns
    if_first empty at h k q = no_begin keyword.if k h refl
    if_first (assign to cs rest) at h k q = no_assign keyword.if k h.0 refl
    if_first (select c d e rest) at h k q = q c d e rest h
    if_first (loop r d rest) at h k q = clash keyword.if keyword.forall k h.0 (λ z. omega arith)
    if_first (exit rest) at h k q = clash keyword.if keyword.exit k h.0 (λ z. omega arith)
    if_first (constant rest) at h k q = clash keyword.if keyword.const k h.0 (λ z. omega arith)

    -- so it is behind constants
    found : (turns : ℕ) (b : Block) (at : ℕ) → Stands t 0 b at → t.kind (past_constants turns t at) ≡ keyword.if
        → ((c : Expr) (d e rest : Block) → Stands t 0 (select c d e rest) (past_constants turns t at) → Once f c d e × Blank rest) → Moves f b
    unfolding past_constants
    found zero b at h k q = if_first b at h k q
    found (suc turns) b at h k q = go (eqb (t.kind at) keyword.const) refl k q (found turns)
      where
        go : (x : Bool) → eqb (t.kind at) keyword.const ≡ x → t.kind (if x then past_constants turns t (t.past at) else at) ≡ keyword.if
            → ((c : Expr) (d e rest : Block) → Stands t 0 (select c d e rest) (if x then past_constants turns t (t.past at) else at) → Once f c d e × Blank rest)
            → ((b : Block) (at : ℕ) → Stands t 0 b at → t.kind (past_constants turns t at) ≡ keyword.if
            → ((c : Expr) (d e rest : Block) → Stands t 0 (select c d e rest) (past_constants turns t at) → Once f c d e × Blank rest) → Moves f b)
            → Moves f b
        go true x k q more =
            let c = constant_first b at h (eqb-true _ _ x) in
            subst (Moves f) (sym c.is) (more c.rest (t.past at) c.stands k q)
        go false x k q more = if_first b at h k q

-- ---- the last statement

module _ (f : ℕ) (ts : Tokens) (end : ts.table.kind ts.count ≡ 0) where
  abbrev tb : Table
  tb = ts.table

  -- what stands at `cell.moved := 1`
  record Closing (j : ℕ) : Type 0 where
    pub row : kinds_at tb j (kind.cell ∷ delimiter.dot ∷ kind.name ∷ delimiter.assign ∷ kind.literal ∷ []) ≡ true
    pub flag : tb.word2 j ≡ f
    pub one : tb.word2 (j + 4) ≡ 1
    pub plain : tb.word2 (j + 3) ≡ 0
    pub behind : level_of (tb.kind (j + 5)) ≡ 0

  or_level : (k : ℕ) → (eqb k keyword.end || eqb k keyword.const) ≡ true → level_of k ≡ 0
  unfolding level_of
  or_level k h = go (eqb k keyword.end) refl h
    where
      go : (x : Bool) → eqb k keyword.end ≡ x → (x || eqb k keyword.const) ≡ true → level_of k ≡ 0
      go true q h = ap level_of (eqb-true k keyword.end q)
      go false q h = ap level_of (eqb-true k keyword.const h)

  closing : (j : ℕ) → closes_at f ts j ≡ true → Closing j
  unfolding closes_at
  closing j h =
      let d = and_both _ (eqb (tb.kind (j + 5)) keyword.end || eqb (tb.kind (j + 5)) keyword.const) h in
      let c = and_both _ (eqb (tb.word2 (j + 3)) 0) d.0 in
      let b = and_both _ (digit_at ts (j + 4) 1) c.0 in
      let a = and_both (kinds_at tb j (kind.cell ∷ delimiter.dot ∷ kind.name ∷ delimiter.assign ∷ kind.literal ∷ [])) (eqb (tb.word2 j) f) b.0 in
      record {
        row = a.0;
        flag = eqb-true _ _ a.1;
        one = eqb-true _ _ (and_both (eqb (ts.len (j + 4)) 1) (eqb (tb.word2 (j + 4)) 1) b.1).1;
        plain = eqb-true _ _ c.1;
        behind = or_level (tb.kind (j + 5)) d.1;
      }

  -- its first token is `cell`
  closing_cell : (j : ℕ) → Closing j → tb.kind j ≡ kind.cell
  closing_cell j c = ap tb.kind (omega arith) ∙ row_kind tb _ j c.row 0 (omega arith)

  -- it is the assignment of 1 to field f
  closing_sets : (j : ℕ) → Closing j → (to : Target) (cs : List Clause) → to ≡ target_in tb j → ClausesAt tb cs (first_clause tb j) → Sets f to cs
  unfolding target_in first_clause
  closing_sets j c to cs e h = by cs (subst (ClausesAt tb cs) third h)
    where
      dot : tb.kind (j + 1) ≡ delimiter.dot
      dot = row_kind tb _ j c.row 1 (omega arith)

      third : first_clause tb j ≡ j + 3
      third = rw dot refl

      target : target_in tb j ≡ to_field f
      target = rw (closing_cell j c, c.flag) refl

      is_one : {x : Expr} {next : ℕ} → ExprAt tb x (j + 3 + 1) next → x ≡ number (pos 1)
      is_one x =
          (stands_as tb x
          (λ fuel.
          ap (λ (n : ℕ). decode_expression (suc (suc (suc (suc (suc (suc (suc (suc fuel)))))))) tb 1 n) (let q : j + 3 + 1 ≡ j + 4 = omega arith in q)
          ∙ literal_alone tb (suc (suc (suc (suc fuel)))) 1 (j + 4) 1 (tb.kind (j + 5)) (row_kind tb _ j c.row 4 (omega arith)) c.one (ap tb.kind (omega arith)) (rw c.behind refl))).0

      by : (cs : List Clause) → ClausesAt tb cs (j + 3) → Sets f to cs
      by [] h = absurd (h (row_kind tb _ j c.row 3 (omega arith)))
      by (x ∷ more) h = record { place = x.place; more = more; target = e ∙ target; clause = ap (λ (y : Clause). y ∷ more) (λ i. record { place = x.place; expr = is_one h.3 i; condition = plain x.condition h.4 i }) }
        where
          plain : (o : Option Expr) → GuardAt tb o (λ i. ClausesAt tb more i) (j + 3) → o ≡ none
          plain none g = refl
          plain (some y) g = absurd (g.1 c.plain)

  -- a statement's beginning that is no constant's
  record Begins (at : ℕ) : Type 0 where
    pub yes : begins (tb.kind at) ≡ true
    pub no_constant : eqb (tb.kind at) keyword.const ≡ false

  assign_begins : (at : ℕ) → assigns (tb.kind at) ≡ true → Begins at
  unfolding begins assigns
  assign_begins at h = go (eqb (tb.kind at) kind.name) refl h
    where
      go : (x : Bool) → eqb (tb.kind at) kind.name ≡ x → (x || eqb (tb.kind at) kind.cell) ≡ true → Begins at
      go true q h = let e = eqb-true (tb.kind at) kind.name q in record { yes = rw e refl; no_constant = rw e refl }
      go false q h = let e = eqb-true (tb.kind at) kind.cell h in record { yes = rw e refl; no_constant = rw e refl }

  -- the walk goes on behind it
  onto : (turns last at : ℕ) → Begins at → last_statement (suc turns) ts last at ≡ last_statement turns ts at (tb.past at)
  unfolding last_statement
  onto turns last at b = rw (b.yes, b.no_constant) refl

  -- over a statement that is no assignment
  over : (turns last at k : ℕ) (rest : Block) {X : Type 0} → tb.kind at ≡ k → begins k ≡ true → eqb k keyword.const ≡ false → (k ≡ kind.cell → ⊥)
      → closes_at f ts (last_statement (suc turns) ts last at) ≡ true
      → (closes_at f ts (last_statement turns ts at (tb.past at)) ≡ true → LastSets f rest ⊎ ((last_statement turns ts at (tb.past at) ≡ at) × Blank rest))
      → LastSets f rest ⊎ X
  over turns last at k rest {X} e b c n s more =
      let g : Begins at = record { yes = ap begins e ∙ b; no_constant = ap (λ (x : ℕ). eqb x keyword.const) e ∙ c } in
      let s' = subst (λ (m : ℕ). closes_at f ts m ≡ true) (onto turns last at g) s in
      go s' (more s')
    where
      go : closes_at f ts (last_statement turns ts at (tb.past at)) ≡ true → LastSets f rest ⊎ ((last_statement turns ts at (tb.past at) ≡ at) × Blank rest) → LastSets f rest ⊎ X
      go s (inl q) = inl q
      go s (inr q) = clash tb k kind.cell e (closing_cell at (closing at (subst (λ (m : ℕ). closes_at f ts m ≡ true) q.0 s))) n

  -- the walk over statements finds it
  last_sets : (turns : ℕ) (b : Block) (last at : ℕ) → Stands tb 0 b at → closes_at f ts (last_statement turns ts last at) ≡ true
      → LastSets f b ⊎ ((last_statement turns ts last at ≡ last) × Blank b)
  unfolding last_statement Stands begins assigns
  last_sets zero b last at h k = clash tb kind.cell 0 (closing_cell _ (closing _ k)) end (λ z. omega arith)
  last_sets (suc turns) empty last at h k = inr (rw h refl, tt)
  last_sets (suc turns) (assign to cs rest) last at h k =
      let s = subst (λ (n : ℕ). closes_at f ts n ≡ true) (onto turns last at (assign_begins at h.0)) k in
      go (last_sets turns rest at (tb.past at) h.3 s)
    where
      go : LastSets f rest ⊎ ((last_statement turns ts at (tb.past at) ≡ at) × Blank rest)
          → LastSets f (assign to cs rest) ⊎ ((last_statement (suc turns) ts last at ≡ last) × Blank (assign to cs rest))
      go (inl q) = inl (inr q)
      go (inr q) =
          let s = subst (λ (n : ℕ). closes_at f ts n ≡ true) (onto turns last at (assign_begins at h.0) ∙ q.0) k in
          inl (inl (closing_sets at (closing at s) to cs h.1 h.2, q.1))
  last_sets (suc turns) (select c d e rest) last at h k =
      over turns last at keyword.if rest h.0 refl refl (λ z. omega arith) k (last_sets turns rest at (tb.past at) h.2)
  last_sets (suc turns) (loop r d rest) last at h k =
      over turns last at keyword.forall rest h.0 refl refl (λ z. omega arith) k (last_sets turns rest at (tb.past at) h.2)
  last_sets (suc turns) (exit rest) last at h k =
      over turns last at keyword.exit rest h.0 refl refl (λ z. omega arith) k (last_sets turns rest at (tb.past at) h.1)
  last_sets (suc turns) (constant rest) last at h k =
      let same : last_statement (suc turns) ts last at ≡ last_statement turns ts last (tb.past at) = rw h.0 refl in
      go same (last_sets turns rest last (tb.past at) h.1 (subst (λ (n : ℕ). closes_at f ts n ≡ true) same k))
    where
      go : last_statement (suc turns) ts last at ≡ last_statement turns ts last (tb.past at) → LastSets f rest ⊎ ((last_statement turns ts last (tb.past at) ≡ last) × Blank rest)
          → LastSets f rest ⊎ ((last_statement (suc turns) ts last at ≡ last) × Blank rest)
      go same (inl q) = inl q
      go same (inr q) = inr (same ∙ q.0, q.1)

  -- ---- the whole

  -- the one statement, where it stands
  once_at : (i : ℕ) → opens_at f ts i ≡ true → tb.kind (tb.inner i) ≡ keyword.end → tb.kind (past_constants (suc ts.count) tb (tb.past i)) ≡ 0
      → closes_at f ts (last_statement (suc ts.count) ts ts.count (i + 7)) ≡ true
      → (c : Expr) (d e rest : Block) → Stands tb 0 (select c d e rest) i → Once f c d e × Blank rest
  unfolding opens_at Stands level_of
  once_at i o k z l c d e rest h = (
    record { place = tb.place (i + 1 + 3); condition = same.0; last = lasts; no_else = h.1.rest.at_end (λ q. clash tb keyword.end keyword.else k q (λ z. omega arith)) (λ q. clash tb keyword.end keyword.elsif k q (λ z. omega arith)) },
    blank_upto tb (suc ts.count) rest (tb.past i) h.2 z,
  )
    where
      row : List ℕ
      row = keyword.if ∷ kind.cell ∷ delimiter.dot ∷ kind.name ∷ relation.equal ∷ kind.literal ∷ keyword.then ∷ []

      digit : (kinds_at tb i row && eqb (tb.word2 (i + 1)) f && eqb (tb.past (i + 1)) (i + 4) ≡ true) × (digit_at ts (i + 5) 0 ≡ true)
      digit = and_both _ (digit_at ts (i + 5) 0) o

      past : (kinds_at tb i row && eqb (tb.word2 (i + 1)) f ≡ true) × (eqb (tb.past (i + 1)) (i + 4) ≡ true)
      past = and_both _ (eqb (tb.past (i + 1)) (i + 4)) digit.0

      flag : (kinds_at tb i row ≡ true) × (eqb (tb.word2 (i + 1)) f ≡ true)
      flag = and_both (kinds_at tb i row) (eqb (tb.word2 (i + 1)) f) past.0

      kind_of : (m : ℕ) → m < 7 → tb.kind (i + m) ≡ get_or row m 0
      kind_of m l = row_kind tb row i flag.0 m l

      same : (c ≡ binary relation.equal (tb.place (i + 1 + 3)) (field [] f) (number (pos 0))) × (h.1.then_at ≡ i + 1 + 5)
      same =
          stands_as tb h.1.condition
          (λ fuel.
          flag_test tb fuel (i + 1) f 0 keyword.then (kind_of 1 (omega arith)) (eqb-true _ _ flag.1) (eqb-true _ _ past.1 ∙ (let q : i + 4 ≡ i + 1 + 3 = omega arith in q))
          (ap tb.kind (let q : i + 1 + 3 ≡ i + 4 = omega arith in q) ∙ kind_of 4 (omega arith)) (ap tb.kind (let q : i + 1 + 4 ≡ i + 5 = omega arith in q) ∙ kind_of 5 (omega arith))
          (ap tb.word2 (let q : i + 1 + 4 ≡ i + 5 = omega arith in q) ∙ eqb-true _ _ (and_both (eqb (ts.len (i + 5)) 1) (eqb (tb.word2 (i + 5)) 0) digit.1).1)
          (ap tb.kind (let q : i + 1 + 5 ≡ i + 6 = omega arith in q) ∙ kind_of 6 (omega arith)) refl)

      at_seven : h.1.then_at + 1 ≡ i + 7
      at_seven = let q = same.1 in omega arith

      lasts : LastSets f d
      lasts = only (last_sets (suc ts.count) d ts.count (i + 7) (subst (Stands tb 0 d) at_seven h.1.part) l)
        where
          only : LastSets f d ⊎ ((last_statement (suc ts.count) ts ts.count (i + 7) ≡ ts.count) × Blank d) → LastSets f d
          only (inl q) = q
          only (inr q) =
              clash tb kind.cell 0 (closing_cell ts.count (closing ts.count (subst (λ (n : ℕ). closes_at f ts n ≡ true) q.0 l))) end (λ z. omega arith)

  if_at : (i : ℕ) → opens_at f ts i ≡ true → tb.kind i ≡ keyword.if
  unfolding opens_at
  if_at i o =
      let row = keyword.if ∷ kind.cell ∷ delimiter.dot ∷ kind.name ∷ relation.equal ∷ kind.literal ∷ keyword.then ∷ [] in
      let a = and_both _ (digit_at ts (i + 5) 0) o in
      let b = and_both _ (eqb (tb.past (i + 1)) (i + 4)) a.0 in
      let c = and_both (kinds_at tb i row) (eqb (tb.word2 (i + 1)) f) b.0 in
      ap tb.kind (omega arith) ∙ row_kind tb row i c.0 0 (omega arith)

  pub moves : (b : Block) (at : ℕ) → Stands tb 0 b at → moves_once f ts at ≡ true → Moves f b
  unfolding moves_once
  moves b at h m =
      let i : ℕ = past_constants (suc ts.count) tb at in
      let c = and_both _ (closes_at f ts (last_statement (suc ts.count) ts ts.count (i + 7))) m in
      let r = and_both _ (eqb (past_constants (suc ts.count) tb (tb.past i)) ts.count) c.0 in
      let k = and_both (opens_at f ts i) (eqb (tb.kind (tb.inner i)) keyword.end) r.0 in
      found tb f (suc ts.count) b at h (if_at i k.0)
      (once_at i k.0 (eqb-true _ _ k.1) (ap tb.kind (eqb-true _ _ r.1) ∙ end) c.1)
