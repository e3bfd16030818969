-- Expressions: what is read of them stands in every later table.
use Prim.Native.Nat.{ℕ, zero, suc, ◌+◌, ◌*◌, ◌%◌, ◌≤◌, ◌<◌}
use native.Mathlib.Nat.{le_refl}
use native.Mathlib.Omega.{arith}
use mathlib.Core.Path.{◌≡◌, refl, sym, ap, ap₂, ◌∙◌, subst, subst₂}
use mathlib.Core.Logic.{◌⊎◌, inl, inr}
use mathlib.Core.Bool.{Bool, true, false, ◌&&◌, ◌||◌}
use mathlib.Core.List.{List, []}
use lib.Dec.{eqb, ltb}
use lib.IntN.{ℤ}
use borrow.Author.Tests.{not-true, eqb-true, eqb-false, ltb-false, lt-ltb}
use Rattle.std.specs.Prelude.{if◌then◌else◌}
use Rattle.value.specs.Worked.{decode_of}
use Rattle.value.proofs.Theorems.Laws.{never}
use Rattle.token.specs.Kind.{kind, relation, operation, delimiter, level_of}
use Rattle.names.specs.declared.Entry.{Entry}
use Rattle.names.specs.Names.{name_kind, entry_at, is_field, in_space}
use Rattle.program.specs.Syntax.{Range, Expr, number, time, variable, index, element, unary, binary}
use Rattle.grammar.specs.Reader.{Input, State, Reader, ◌>>◌, return, done, turns, token_of, refuse}
use Rattle.grammar.specs.Constants.{is_sign as is-sign-token}
use Rattle.grammar.specs.Expressions.{Cell, plain, array_values, read_bracket, read_element, array_use, name_use, read_primary, read_operand, LeftPart, left_part, read_right, operator_turn, climb, levels, operand_in, read_expression}
use Rattle.grammar.proofs.Theorems.Ends.{Gives, bind}
use Rattle.cell_meaning.specs.Promises.Stands.{array_in, is_sign_kind, is_unary}
use Rattle.cell_meaning.specs.Links.{Table, table_of, word_in}
use Rattle.read_links.proofs.Theorems.Steps.{advanced, gave, refused, made, regroup, given_as, choose, at_token, at_state, over, noted_it, by_found, expected, forbidden, opened, Turned, repeated}
use Rattle.read_links.proofs.Theorems.Runs.{tokens, Text, Sound, Run, stay, join, go_on}
use Rattle.read_links.proofs.Theorems.Naming.{of_kind, token_inside, token_value, still_noted, note_it, Found, found_name}
use Rattle.read_links.proofs.Theorems.Constants.{of_kinds, used, used_it, use_piece}
use Rattle.read_links.proofs.Theorems.Tables.{View, Claim, first_part, second_part, inner_part, view_word, view_kind, view_place}
use Rattle.read_links.proofs.Theorems.Adding.{plain_kind, plain_of, Adds, adds_plain, adds_bracket}
use Rattle.read_links.proofs.Theorems.Decoding.{Expression, Chain, Operand, Primary, Name, Bracket, expression, chain_end, chain_on, operand_unary, operand_plain, primary_literal, primary_name, primary_bracket, primary_time, name_variable, name_constant, name_index, name_array, bracket}
use Rattle.read_links.proofs.Theorems.Fields.{plain_it, used_2, used_3, Reads, neighbour_gives, own_gives}

-- a visible name that is no array constant, constant or variable is an index
index_kind : (e : Entry) → 0 < e.kind → e.kind < 7 → in_space false e ≡ true → eqb e.kind 2 ≡ false → eqb e.kind 1 ≡ false → eqb e.kind 4 ≡ false → e.kind ≡ name_kind.index
unfolding in_space is_field
index_kind e l m v a b c =
    let h = not-true (eqb e.kind 3 || eqb e.kind 6) v in
    omega (arith, eqb-false e.kind 2 a, eqb-false e.kind 1 b, eqb-false e.kind 4 c, eqb-false e.kind 3 (neither (eqb e.kind 3) (eqb e.kind 6) h).0, eqb-false e.kind 6 (neither (eqb e.kind 3) (eqb e.kind 6) h).1)
  where
    neither : (a b : Bool) → (a || b) ≡ false → (a ≡ false) × (b ≡ false)
    neither true b e = never (sym e)
    neither false b e = (refl, e)

-- the levels of operators
level_some : (k : ℕ) → 1 ≤ level_of k → 0 < k
unfolding level_of
level_some zero l = absurd (omega arith)
level_some (suc k) l = omega arith

level_most : (k : ℕ) → level_of k < 5
unfolding level_of
level_most k =
    pick (eqb k operation.times || eqb k operation.slash || eqb k operation.percent) (eqb k operation.plus || eqb k operation.minus)
    (eqb k relation.equal || eqb k relation.unequal || eqb k relation.less || eqb k relation.greater || eqb k relation.at_most || eqb k relation.at_least) (eqb k operation.and || eqb k operation.or)
  where
    pick : (a b c d : Bool) → (if a then 4 else if b then 3 else if c then 2 else if d then 1 else 0) < 5
    pick true b c d = omega arith
    pick false true c d = omega arith
    pick false false true d = omega arith
    pick false false false true = omega arith
    pick false false false false = omega arith

module _ {input : Input} {text : List ℕ} (T : Text input text) (cell : Cell) (some_dims : 0 < cell.dims) where
  -- a reader of expressions of a level or tighter
  abbrev pub ReadsLevel : ℕ → Reader Expr → Type 0
  ReadsLevel level m = (s : State) → Sound input text s → Gives input m s (Reads T cell.dims (λ tb at e next. Expression tb level at e next) s)

  abbrev pub ReadsOperand : Reader Expr → Type 0
  ReadsOperand m = (s : State) → Sound input text s → Gives input m s (Reads T cell.dims (λ tb at e next. Operand tb at e next) s)

  -- ---- brackets and names

  -- the first token is plain, or the `[` of an array constant's element
  bracket_gives : (free : Bool) (inner : Reader Expr) → ReadsLevel 1 inner → (close : ℕ) → 0 < close → plain_kind close ≡ true → {s : State} → Sound input text s
      → s.at < tokens input → (plain_kind (token_of input s s.at).kind ≡ true) ⊎ ((token_of input s s.at).kind ≡ delimiter.bracket)
      → Gives input (read_bracket free inner close) s (Reads T cell.dims (λ tb at e next. Bracket tb close at e next) s)
  unfolding read_bracket
  bracket_gives free inner reads close o p {s} x l first =
      let r₁ = go_on x l in
      regroup _ _ _
      (opened free
      (λ _.
      bind (reads (advanced s) r₁.sound)
      (λ e t h.
      expected close 7
      (λ q.
      let r₂ = go_on h.0.sound (of_kind h.0.sound t.at close o q) in
      gave e (join r₁ (join h.0 r₂), λ wf v. bracket _ s.at close p (opens v (join h.0 r₂) first) (h.1 wf (first_part (inner_part v) r₂)) (view_kind v h.0.sound t.at ∙ eqb-true _ _ q))))))
    where
      opens : {wf : List ℕ} {t : State} → View input text cell.dims wf s t → Run input text (advanced s) t
          → (plain_kind (token_of input s s.at).kind ≡ true) ⊎ ((token_of input s s.at).kind ≡ delimiter.bracket) → (loops : List Range)
          → Adds (table_of wf (tokens input) cell.dims) loops s.at (s.at + 1) []
      opens v r (inl k) loops = adds_plain _ loops s.at (rw (view_kind v x s.at) k)
      opens v r (inr k) loops =
          adds_bracket _ loops s.at (view_kind v x s.at ∙ k) (view_word v r.sound.within s.at 3 (le_refl _) (omega (arith, r.on)) (omega arith) ∙ r.below (4 * s.at + 3) (omega arith) ∙ x.ahead (4 * s.at + 3) (omega arith) ∙ T.unlinked s.at)

  module _ {s : State} (x : Sound input text s) (q : eqb (token_of input s s.at).kind kind.name ≡ true) (slot : ℕ) (f : Found input.source s.names s.count false (token_of input s s.at).start (token_of input s s.at).len slot) where
    inside : s.at < tokens input
    inside = of_kind x s.at kind.name (omega arith) q

    it : Entry
    it = entry_at s.names slot

    behind : Run input text s (used s slot)
    behind = (use_piece x inside slot).run

    -- a name in use, by the kind of its entry
    simple : (e : Expr) → Claim input text cell.dims s (used s slot) (λ tb. Name tb s.at e (s.at + 1)) → Gives input (plain >> return e) (used s slot) (Reads T cell.dims (λ tb at e next. Name tb at e next) s)
    simple e c = plain_it (gave e (behind, c))

    array_gives : (free : Bool) (inner : Reader Expr) → ReadsLevel 1 inner → it.kind ≡ name_kind.array → Gives input (array_use free inner (entry_at s.names slot)) (used s slot) (Reads T cell.dims (λ tb at e next. Name tb at e next) s)
    unfolding array_use read_element it plain_kind
    array_gives free inner reads k =
        at_token _
        (choose _
        (λ c.
        let b = of_kind behind.sound (s.at + 1) delimiter.bracket (omega arith) c in
        at_token _
        (at_state _
        (bind (bracket_gives free inner reads delimiter.unbracket (omega arith) refl behind.sound b (inr (eqb-true _ _ c)))
        (λ d t h.
        forbidden delimiter.dot 12
        (λ _.
        gave (element (token_of input (used s slot) (s.at + 1)).start (array_values (used s slot).words (entry_at s.names slot).word) d) (
          join behind h.0,
          λ wf v.
              let v₁ = second_part x v behind h.0 in
              let w : word_in wf (tokens input) 3 s.at ≡ it.word = used_3 T slot x h.0 v in
              subst₂ (λ (p : ℕ) (a : List ℤ). Name (table_of wf (tokens input) cell.dims) s.at (element p a d) t.at) (view_place v behind.sound (s.at + 1) b)
              (ap (array_in (table_of wf (tokens input) cell.dims)) w ∙ v₁.known slot f.listed k)
              (name_array _ s.at (used_2 T slot x h.0 v ∙ k) (view_kind v behind.sound (s.at + 1) ∙ eqb-true _ _ c) (h.1 wf v₁)),
        )))))
        )
        (λ _. regroup _ _ _ (noted_it 12 (λ p. plain_it (gave _ (note_it behind 12 p (omega arith), λ wf v. absurd (still_noted s.noted 12 p (omega arith) v.clear)))))))

    name_gives : (free : Bool) (inner : Reader Expr) → ReadsLevel 1 inner → Gives input (name_use free inner slot) s (Reads T cell.dims (λ tb at e next. Name tb at e next) s)
    unfolding name_use it
    name_gives free inner reads =
        used_it slot _
        (choose _ (λ a. array_gives free inner reads (eqb-true _ _ a))
        (λ na.
        choose _
        (λ c.
        let k : it.kind ≡ name_kind.constant = eqb-true _ _ c in
        simple _
        (λ wf v.
        subst (λ (w : ℕ). Name (table_of wf (tokens input) cell.dims) s.at (number (decode_of w)) (s.at + 1)) (used_3 T slot x (stay behind.sound) v)
        (name_constant _ s.at (used_2 T slot x (stay behind.sound) v ∙ k))))
        (λ nc.
        choose _
        (λ d.
        let k : it.kind ≡ name_kind.variable = eqb-true _ _ d in
        simple _
        (λ wf v.
        subst (λ (w : ℕ). Name (table_of wf (tokens input) cell.dims) s.at (variable w) (s.at + 1)) (used_3 T slot x (stay behind.sound) v)
        (name_variable _ s.at (used_2 T slot x (stay behind.sound) v ∙ k))))
        (λ nd.
        let e = x.entries slot f.listed in
        let k : it.kind ≡ name_kind.index = index_kind it e.some_kind e.a_kind f.in_it na nc nd in
        simple _
        (λ wf v.
        subst (λ (w : ℕ). Name (table_of wf (tokens input) cell.dims) s.at (index w) (s.at + 1)) (used_3 T slot x (stay behind.sound) v)
        (name_index _ s.at (used_2 T slot x (stay behind.sound) v ∙ k)))))))

  -- ---- operands

  primary_gives : (free : Bool) (inner : Reader Expr) → ReadsLevel 1 inner → {s : State} → Sound input text s → Gives input (read_primary cell free inner) s (Reads T cell.dims (λ tb at e next. Primary tb at e next) s)
  unfolding read_primary plain_kind
  primary_gives free inner reads {s} x =
      at_token _
      (choose _
      (λ q.
      let l = of_kind x s.at kind.literal (omega arith) q in
      over
      (gave _ (
        go_on x l,
        λ wf v.
            subst (λ (w : ℕ). Primary (table_of wf (tokens input) cell.dims) s.at (number (decode_of w)) (s.at + 1)) (view_word v (go_on x l).sound.within s.at 2 (le_refl _) (omega arith) (omega arith) ∙ sym (token_value x s.at l))
            (primary_literal _ s.at (view_kind v x s.at ∙ eqb-true _ _ q)),
      )))
      (λ _.
      choose _
      (λ q.
      given_as (bracket_gives free inner reads delimiter.unparen (omega arith) refl x (of_kind x s.at delimiter.paren (omega arith) q) (inl (plain_of {k = (token_of input s s.at).kind} delimiter.paren (eqb-true _ _ q) refl)))
      (λ e t h. (h.0, λ wf v. primary_bracket _ s.at (view_kind v x s.at ∙ eqb-true _ _ q) (h.1 wf v))))
      (λ _.
      choose _ (neighbour_gives T cell.dims cell refl some_dims free x)
      (λ _.
      choose _ (own_gives T cell.dims cell x)
      (λ _.
      choose _
      (λ q.
      let l = of_kind x s.at kind.time (omega arith) q in
      regroup _ _ _ (over (plain_it (gave time (go_on x l, λ wf v. primary_time _ s.at (view_kind v x s.at ∙ eqb-true _ _ q))))))
      (λ _.
      choose _
      (λ q.
      by_found _ false
      (λ slot f. given_as (name_gives x q slot (found_name f) free inner reads) (λ e t h. (h.0, λ wf v. primary_name _ s.at (view_kind v x s.at ∙ eqb-true _ _ q) (h.1 wf v))))
      (refused 8))
      (λ _. refused 7)))))))

  operand_gives : (free : Bool) (inner : Reader Expr) → ReadsLevel 1 inner → ReadsOperand (read_operand cell free inner)
  unfolding read_operand is_unary is_sign_kind is-sign-token
  operand_gives free inner reads s x =
      at_token _
      (choose (eqb (token_of input s s.at).kind operation.plus || eqb (token_of input s s.at).kind operation.minus || eqb (token_of input s s.at).kind operation.not)
      (λ q.
      let l : s.at < tokens input = of_kinds x s.at operation.plus operation.minus operation.not (omega arith) (omega arith) (omega arith) q in
      let r = go_on x l in
      made _ (over (primary_gives free inner reads r.sound))
      (λ e t h. (
        join r h.0,
        λ wf v.
            subst₂ (λ (k p : ℕ). Operand (table_of wf (tokens input) cell.dims) s.at (unary k p e) t.at) (view_kind v x s.at) (view_place v x s.at l)
            (operand_unary _ s.at (rw (view_kind v x s.at) q) (h.1 wf (inner_part v))),
      )))
      (λ q. given_as (primary_gives free inner reads x) (λ e t h. (h.0, λ wf v. operand_plain _ s.at (rw (view_kind v x s.at) q) (h.1 wf v)))))

  -- ---- operators

  -- what stands behind a left part: an operator, and its right side
  record Right (e : Expr) (s : State) (e' : Expr) (t : State) : Type 0 where
    pub right : Expr
    pub is : e' ≡ binary (token_of input s s.at).kind (token_of input s s.at).start e right
    pub run : Run input text (advanced s) t
    pub stands : Claim input text cell.dims (advanced s) t (λ tb. Expression tb (level_of (token_of input s s.at).kind + 1) (s.at + 1) right t.at)

  right_gives : (tighter : ℕ → Reader Expr) (e : Expr) {s : State} → Run input text s (advanced s) → ReadsLevel (level_of (token_of input s s.at).kind + 1) (tighter (level_of (token_of input s s.at).kind + 1)) → Gives input (read_right tighter e) s (Right e s)
  unfolding read_right level_of
  right_gives tighter e {s} r reads = at_token _ (over (bind (reads (advanced s) r.sound) (λ d t h. gave _ (record { right = d; is = refl; run = h.0; stands = h.1 }))))

  -- operators behind a left part, from a position on
  abbrev Operators : ℕ → LeftPart → State → Expr → State → Type 0
  Operators level l s e t = Run input text s t × Claim input text cell.dims s t (λ tb. Chain tb level l.expr s.at e t.at)

  turn_gives : (level : ℕ) (tighter : ℕ → Reader Expr) → 1 ≤ level → ((own : ℕ) → level ≤ own → ReadsLevel (own + 1) (tighter (own + 1))) → (l : LeftPart) (s : State) → Sound input text s
      → Gives input (operator_turn level tighter l) s (Turned (λ _ t. Sound input text t) (Operators level) l s)
  unfolding operator_turn level_of
  turn_gives level tighter o reads l s x =
      at_token _
      (choose (ltb (level_of (token_of input s s.at).kind) level)
      (λ q. gave (done l.expr) (stay x, λ wf v. chain_end _ level l.expr s.at (rw (view_kind v x s.at) q)))
      (λ q.
      choose (eqb (level_of (token_of input s s.at).kind) 2 && eqb l.level 2) (λ _. refused 13)
      (λ _.
      let own : level ≤ level_of (token_of input s s.at).kind = ltb-false _ _ q in
      let b : s.at < tokens input = token_inside x s.at (level_some _ (omega arith)) in
      let r = go_on x b in
      made _ (right_gives tighter l.expr r (reads (level_of (token_of input s s.at).kind) own))
      (λ e t h. (
        h.run.sound,
        λ e' u k. (
          join r (join h.run k.0),
          λ wf v.
              let v₁ = inner_part v in
              let p : binary (word_in wf (tokens input) 0 s.at) (word_in wf (tokens input) 1 s.at % 65536) l.expr h.right ≡ e = ap₂ (λ (a b : ℕ). binary a b l.expr h.right) (view_kind v x s.at) (view_place v x s.at b) ∙ sym h.is in
              let tb : Table = table_of wf (tokens input) cell.dims in
              let ex : Expression tb (level_of (word_in wf (tokens input) 0 s.at) + 1) (s.at + 1) h.right t.at = subst (λ (y : ℕ). Expression tb (level_of y + 1) (s.at + 1) h.right t.at) (sym (view_kind v x s.at)) (h.stands wf (first_part v₁ k.0)) in
              let ch : Chain tb level (binary (word_in wf (tokens input) 0 s.at) (word_in wf (tokens input) 1 s.at % 65536) l.expr h.right) t.at e' u.at = subst (λ (y : Expr). Chain tb level y t.at e' u.at) (sym p) (k.1 wf (second_part r.sound v₁ h.run k.0)) in
              chain_on tb level l.expr s.at o (ap (λ (y : ℕ). ltb (level_of y) level) (view_kind v x s.at) ∙ q) ex ch,
        ),
      )))))

  climb_gives : (more : ℕ) (operand : Reader Expr) → ReadsOperand operand → (level : ℕ) → 1 ≤ level → 5 ≤ more + level → ReadsLevel level (climb more operand level)
  unfolding climb
  climb_gives zero operand reads level o l s x =
      given_as (reads s x)
      (λ e t h. (h.0, λ wf v. expression _ level s.at (h.1 wf v) (chain_end _ level e t.at (lt-ltb (level_of (word_in wf (tokens input) 0 t.at)) level (omega (arith, level_most (word_in wf (tokens input) 0 t.at)))))))
  climb_gives (suc more) operand reads level o l s x = go (climb_gives more operand reads)
    where
      go : ((level : ℕ) → 1 ≤ level → 5 ≤ more + level → ReadsLevel level (climb more operand level)) → Gives input (climb (suc more) operand level) s (Reads T cell.dims (λ tb at e next. Expression tb level at e next) s)
      go tighter =
          bind (reads s x)
          (λ e t h.
          given_as (repeated _ (turn_gives level (λ k i u. climb more operand k i u) o (λ own m. tighter (own + 1) (omega arith) (omega arith))) turns (left_part e 0) t h.0.sound)
          (λ e' u k. (join h.0 k.0, λ wf v. expression _ level s.at (h.1 wf (first_part v k.0)) (k.1 wf (second_part x v h.0 k.0)))))

  operands : (free : ℕ) → ReadsOperand (operand_in cell free)
  unfolding operand_in
  operands zero = operand_gives false (refuse 14) (λ s x. refused 14)
  operands (suc free) = operand_gives true _ (climb_gives levels (operand_in cell free) (operands free) 1 (omega arith) (omega arith))

  -- an expression stands where it is read
  pub expression_gives : (free : ℕ) → ReadsLevel 1 (read_expression cell free)
  expression_gives free = climb_gives levels (operand_in cell free) (operands free) 1 (omega arith) (omega arith)
