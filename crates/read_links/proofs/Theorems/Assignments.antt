-- Assignments: what is read of them stands in every later table.
use Prim.Native.Nat.{ℕ, ◌+◌, ◌*◌, ◌<◌}
use native.Mathlib.Nat.{le_refl}
use native.Mathlib.Omega.{arith}
use mathlib.Core.Path.{◌≡◌, refl, sym, ap, ap₂, ◌∙◌, subst, subst₂}
use mathlib.Core.Logic.{◌⊎◌, inl, inr}
use mathlib.Core.Bool.{Bool, true, false, ◌||◌}
use mathlib.Core.List.{List, [], ◌∷◌, ◌++◌, append_assoc}
use mathlib.Core.Option.{none, some}
use lib.Dec.{eqb}
use lib.ListN.{length}
use borrow.Author.Tests.{eqb-true, eqb-false}
use Rattle.std.specs.Prelude.{if◌then◌else◌}
use Rattle.token.specs.Kind.{kind, keyword, delimiter}
use Rattle.names.specs.Names.{name_kind, is, entry_at, variables_in}
use Rattle.program.specs.Syntax.{Range, Expr, Target, to_field, to_variable, Clause, Block}
use Rattle.grammar.specs.Reader.{Input, State, Reader, return, Turn, again, done, repeat, turns, token_of, is_kind, is_name, by_name}
use Rattle.grammar.specs.Expressions.{Cell}
use Rattle.grammar.specs.Statements.{old_variable, new_variable, named_target, field_target, read_target, target_number, clause, when_clause, clause_end, clause_turn, read_assignment}
use Rattle.grammar.proofs.Theorems.Ends.{Gives, bind}
use Rattle.cell_meaning.specs.Promises.Stands.{ExprAt, target_in, first_clause, ClausesAt, assigns, Stands}
use Rattle.cell_meaning.specs.Links.{Table, table_of, word_in}
use Rattle.cell_meaning.specs.Written.{relatives_in_expr, relatives_in_condition, relatives_in_clauses, relatives_in_block}
use Rattle.read_links.proofs.Theorems.Steps.{advanced, written, gave, refused, refused_last, made, regroup, choose, at_position, at_token, at_state, at_entry, over, wrote, wrote_both, named_it, by_found, expected, forbidden, Turned, repeated}
use Rattle.read_links.proofs.Theorems.Runs.{tokens, Text, Sound, Run, stay, join, go_on, write_first, word_other}
use Rattle.read_links.proofs.Theorems.Naming.{of_kind, head_is, name_it}
use Rattle.read_links.proofs.Theorems.Constants.{is_name_inside, fresh_gives}
use Rattle.read_links.proofs.Theorems.Tables.{View, Claim, first_part, second_part, inner_part, unwritten, view_word, view_kind, view_place}
use Rattle.read_links.proofs.Theorems.Adding.{plain_kind, plain_of, Adds, adds_none, adds_both, adds_plain}
use Rattle.read_links.proofs.Theorems.Decoding.{Expression, as_expression}
use Rattle.read_links.proofs.Theorems.Fields.{AddsNone, plain_name, dot_gives, first_2, first_past, first_inner, first_behind, write_both_first}
use Rattle.read_links.proofs.Theorems.Expressions.{ReadsLevel}
use Rattle.read_links.proofs.Theorems.Proper.{ProperClauses, Proper}

module _ {input : Input} {text : List ℕ} (T : Text input text) (cell : Cell) (some_dims : 0 < cell.dims) where
  -- ---- the left side

  -- what is assigned, and where its first clause stands
  record Aim (s : State) (to : Target) (t : State) : Type 0 where
    pub run : Run input text (advanced s) t
    pub is : to ≡ (if is_kind (token_of input s s.at) kind.cell then to_field (target_number to) else to_variable (target_number to))
    pub first : Claim input text cell.dims (advanced s) t (λ tb. first_clause tb s.at ≡ t.at)
    pub adds : AddsNone T cell.dims (advanced s) t

  field_aim : {s : State} → Sound input text s → is_kind (token_of input s s.at) kind.cell ≡ true → Gives input (field_target cell) s (λ f t. Aim s (to_field f) t)
  unfolding field_target named_target first_clause
  field_aim {s} x q =
      let r = go_on x (of_kind x s.at kind.cell (omega arith) q) in
      choose cell.named
      (λ _.
      over
      (bind (dot_gives T cell.dims r.sound)
      (λ slot t h.
      let a : t.at ≡ s.at + 3 = ap (λ (u : State). u.at) h.0 ∙ omega arith in
      at_entry slot _
      (choose (is (entry_at t.names slot) name_kind.const_field) (λ _. refused_last 9)
      (λ _.
      gave (entry_at t.names slot).word
      (record {
        run = h.1;
        is = rw q;
        first = λ wf v. let k : word_in wf (tokens input) 0 (s.at + 1) ≡ delimiter.dot = view_kind v r.sound (s.at + 1) ∙ eqb-true _ _ h.2 in rw k (sym a);
        adds = h.3;
      })))))
      )
      (λ _.
      regroup _ _ _
      (over
      (forbidden delimiter.dot 12
      (λ n.
      gave 0
      (record {
        run = stay r.sound;
        is = rw q;
        first = λ wf v. let k : eqb (word_in wf (tokens input) 0 (s.at + 1)) delimiter.dot ≡ false = ap (λ (y : ℕ). eqb y delimiter.dot) (view_kind v r.sound (s.at + 1)) ∙ n in rw k;
        adds = λ wf v loops. adds_none _ loops (s.at + 1);
      })))))

  variable_aim : {s : State} → Sound input text s → s.at < tokens input → Gives input (by_name (token_of input s s.at) false old_variable new_variable) s (λ _ t. Run input text (advanced s) t × (t.at ≡ s.at + 1))
  unfolding old_variable new_variable
  variable_aim {s} x l =
      by_found _ false (λ slot _. at_entry slot _ (choose (is (entry_at s.names slot) name_kind.variable) (λ _. over (gave _ (stay (go_on x l).sound, refl))) (λ _. refused 9)))
      (bind (fresh_gives T false 0 x)
      (λ i t f.
      at_state _
      (named_it i name_kind.variable (variables_in t.names t.count) _
      (gave _ (
        name_it (subst (λ (z : State). Run input text (advanced s) z) (sym f.next) (stay (go_on x l).sound)) i name_kind.variable (variables_in t.names t.count) f.inside f.a_name (omega (arith, f.few, f.piece.same)) (omega arith)
            (omega arith) (λ e. absurd (omega arith)) (λ e. absurd (omega arith)) (λ _. refl) (λ e. absurd (omega arith)),
        ap (λ (z : State). z.at) f.next,
      )))))

  target_gives : {s : State} → Sound input text s → is_name (token_of input s s.at) ≡ true → Gives input (read_target cell) s (λ to t. Aim s to t × (is_kind (token_of input s s.at) kind.time ≡ false))
  unfolding read_target first_clause
  target_gives {s} x q =
      let l = is_name_inside x s.at q in
      at_token _
      (choose (is_kind (token_of input s s.at) kind.time) (λ _. refused 9)
      (λ not-time.
      choose (is_kind (token_of input s s.at) kind.cell) (λ c. made to_field (field_aim x c) (λ f t h. (h, not-time)))
      (λ c.
      made to_variable
      (bind (variable_aim x l)
      (λ slot t h.
      forbidden delimiter.dot 12
      (λ n. gave {Q = λ slot t. Aim s (to_variable slot) t} slot
      (record {
        run = h.0;
        is = rw c;
        first = λ wf v.
            let k : eqb (word_in wf (tokens input) 0 (s.at + 1)) delimiter.dot ≡ false = ap (λ (y : ℕ). eqb y delimiter.dot) (view_kind v h.0.sound (s.at + 1) ∙ ap (λ (y : ℕ). (token_of input t y).kind) (sym h.1)) ∙ n in
            rw k (sym h.1);
        adds = λ wf v loops. subst (λ (i : ℕ). Adds (table_of wf (tokens input) cell.dims) loops (s.at + 1) i []) (sym h.1) (adds_none _ loops (s.at + 1));
      }))))
      (λ slot t h. (h, not-time)))))

  -- ---- clauses

  -- clauses from a `:=` on, behind those in `got`
  pub record Clauses (got : List Clause) (s : State) (all : List Clause) (t : State) : Type 0 where
    pub run : Run input text s t
    pub far : s.at < t.at
    pub these : List Clause
    pub are : all ≡ got ++ these
    pub proper : ProperClauses these
    pub stand : Claim input text cell.dims s t (λ tb. ClausesAt tb these s.at)
    pub adds : Claim input text cell.dims s t (λ tb. (loops : List Range) → Adds tb loops s.at t.at (relatives_in_clauses loops these))

  module _ (expr : Reader Expr) (reads : ReadsLevel T cell some_dims 1 expr) where
    -- a clause's `:=` and expression are read, from s up to u
    record Begun (s : State) (e : Expr) (u : State) : Type 0 where
      pub sound : Sound input text s
      pub assigned : is_kind (token_of input s s.at) delimiter.assign ≡ true
      pub run : Run input text (advanced s) u
      pub stands : Claim input text cell.dims (advanced s) u (λ tb. Expression tb 1 (s.at + 1) e u.at)

    -- a condition is read up to w, and noted at the `:=`
    record Guarded (s u : State) (c : Expr) (w : State) : Type 0 where
      pub is_when : is_kind (token_of input u u.at) keyword.when ≡ true
      pub over_when : Run input text u (advanced u)
      pub run : Run input text (advanced u) w
      pub stands : Claim input text cell.dims (advanced u) w (λ tb. Expression tb 1 (u.at + 1) c w.at)

    -- how a clause ends: without condition; or with one, and with the state before the note
    record Unguarded (got : List Clause) (s : State) (e : Expr) (u : State) (now : List Clause) (t : State) : Type 0 where
      pub are : now ≡ got ++ clause (token_of input s s.at) e none ∷ []
      pub run : Run input text u t
      pub adds : AddsNone T cell.dims u t

    record Ended (got : List Clause) (s : State) (e : Expr) (u : State) (now : List Clause) (t : State) : Type 0 where
      pub condition : Expr
      pub are : now ≡ got ++ clause (token_of input s s.at) e (some condition) ∷ []
      pub before : State
      pub guarded : Guarded s u condition before
      pub noted : t ≡ written before s.at 2 (u.at + 1)

    abbrev Ending : List Clause → State → Expr → State → Turn (List Clause) (List Clause) → State → Type 0
    Ending got s e u (again now) t = Ended got s e u now t × (is_kind (token_of input t t.at) delimiter.assign ≡ true)
    Ending got s e u (done now) t = (Ended got s e u now t × (is_kind (token_of input t t.at) delimiter.assign ≡ false)) ⊎ Unguarded got s e u now t

    end_gives : (got : List Clause) (s : State) (e : Expr) (u : State) → Begun s e u → Gives input (clause_end expr got s.at (token_of input s s.at) e) u (Ending got s e u)
    unfolding clause_end when_clause plain_kind
    end_gives got s e u b =
        at_token _
        (choose _
        (λ q.
        let r = go_on b.run.sound (of_kind b.run.sound u.at keyword.when (omega arith) q) in
        over
        (at_position _
        (bind (reads (advanced u) r.sound)
        (λ c w h.
        wrote _ _ _
        (at_token _
        (let it : Ended got s e u (got ++ clause (token_of input s s.at) e (some c) ∷ []) (written w s.at 2 (u.at + 1)) = record { condition = c; are = refl; before = w; guarded = record { is_when = q; over_when = r; run = h.0; stands = h.1 }; noted = refl } in
        turned (is_kind (token_of input (written w s.at 2 (u.at + 1)) w.at) delimiter.assign) (λ k. (it, k)) (λ k. inl (it, k))))))))
        (λ _.
        choose (is_kind (token_of input u u.at) delimiter.comma) (λ _. refused 6)
        (λ _.
        choose (eqb (length got) 0) (λ _. gave (done (got ++ clause (token_of input s s.at) e none ∷ [])) (inr (record { are = refl; run = stay b.run.sound; adds = λ wf v loops. adds_none _ loops u.at })))
        (λ _. expected keyword.otherwise 7 (λ k. gave (done (got ++ clause (token_of input s s.at) e none ∷ [])) (inr (record { are = refl; run = go_on b.run.sound (of_kind b.run.sound u.at keyword.otherwise (omega arith) k); adds = λ wf v loops. adds_plain _ loops u.at (plain_of keyword.otherwise (view_kind v b.run.sound u.at ∙ eqb-true _ _ k) refl) })))))))
      where
        turned : {now : List Clause} {t : State} (k : Bool) → (k ≡ true → Ending got s e u (again now) t) → (k ≡ false → Ending got s e u (done now) t) → Gives input (return (if k then again now else done now)) t (Ending got s e u)
        turned true x y = gave _ (x refl)
        turned false x y = gave _ (y refl)

    -- one clause in a later table, without a condition and with one
    module _ {s : State} {e : Expr} {u : State} (b : Begun s e u) where
      inside : s.at < tokens input
      inside = of_kind b.sound s.at delimiter.assign (omega arith) b.assigned

      whole : {t : State} → Run input text (advanced s) t → Run input text s t
      whole r = join (go_on b.sound inside) r

      -- the note at the `:=` is the last
      plain_stands : {t : State} → Run input text u t → Claim input text cell.dims s (written t s.at 3 t.at) (λ tb. ClausesAt tb (clause (token_of input s s.at) e none ∷ []) s.at)
      plain_stands {t} r wf v =
          let far : s.at < t.at = omega (arith, b.run.on, r.on) in
          let v₁ : View input text cell.dims wf (advanced s) t = unwritten s.at 3 t.at (inner_part v) (omega arith) (omega arith) in (
            u.at,
            view_kind v b.sound s.at ∙ eqb-true _ _ b.assigned,
            sym (view_place v b.sound s.at inside),
            as_expression _ (s.at + 1) (b.stands wf (first_part v₁ r)),
            view_word v r.sound.within s.at 2 (le_refl _) far (omega arith) ∙ word_other t.words s.at 3 t.at (4 * s.at + 2) (λ q. absurd (omega arith)) ∙ r.below _ (omega (arith, b.run.on)) ∙ b.run.below _ (omega arith)
                ∙ b.sound.ahead _ (omega arith) ∙ T.clean s.at (head_is b.sound s.at delimiter.assign (omega arith) b.assigned),
          )

      -- the `:=` and the expression
      begun_adds : {wf : List ℕ} {t : State} → View input text cell.dims wf s t → View input text cell.dims wf (advanced s) u → (loops : List Range)
          → Adds (table_of wf (tokens input) cell.dims) loops s.at u.at (relatives_in_expr loops e)
      unfolding plain_kind
      begun_adds {wf} v v₁ loops =
          adds_both _ loops (adds_plain _ loops s.at (plain_of delimiter.assign (view_kind v b.sound s.at ∙ eqb-true _ _ b.assigned) refl)) ((b.stands wf v₁).1 loops)

      plain_adds : {t : State} → Run input text u t → AddsNone T cell.dims u t → (loops : List Range)
          → Claim input text cell.dims s (written t s.at 3 t.at) (λ tb. Adds tb loops s.at t.at (relatives_in_clauses loops (clause (token_of input s s.at) e none ∷ [])))
      unfolding relatives_in_clauses relatives_in_condition
      plain_adds {t} r a loops wf v =
          let v₁ : View input text cell.dims wf (advanced s) t = unwritten s.at 3 t.at (inner_part v) (omega arith) (omega arith) in
          adds_both _ loops (begun_adds v (first_part v₁ r) loops) (a wf (second_part (go_on b.sound inside).sound v₁ b.run r) loops)

      guarded_run : {c : Expr} {w : State} → Guarded s u c w → Run input text (advanced s) w
      guarded_run g = join b.run (join g.over_when g.run)

      noted_far : {c : Expr} {w : State} → Guarded s u c w → s.at < w.at
      noted_far g = omega (arith, b.run.on, g.run.on)

      noted_run : {c : Expr} {w : State} → Guarded s u c w → Run input text s (written (written w s.at 2 (u.at + 1)) s.at 3 w.at)
      noted_run {c} {w} g = write_both_first T cell.dims b.sound (whole (guarded_run g)) (u.at + 1) w.at (noted_far g)

      guarded_stands : {c : Expr} {w : State} (g : Guarded s u c w) (rest : List Clause) {wf : List ℕ} → View input text cell.dims wf s (written (written w s.at 2 (u.at + 1)) s.at 3 w.at) → ClausesAt (table_of wf (tokens input) cell.dims) rest w.at
          → ClausesAt (table_of wf (tokens input) cell.dims) (clause (token_of input s s.at) e (some c) ∷ rest) s.at
      guarded_stands {c} {w} g rest {wf} v more =
          let r = join b.run (join g.over_when g.run) in
          let far : s.at < w.at = omega (arith, r.on) in
          let v₁ = first_behind T cell.dims b.sound (whole r) far (u.at + 1) w.at v in
          let v₂ = second_part (go_on b.sound inside).sound v₁ (join b.run g.over_when) g.run in
          let tb : Table = table_of wf (tokens input) cell.dims in (
            u.at,
            view_kind v b.sound s.at ∙ eqb-true _ _ b.assigned,
            sym (view_place v b.sound s.at inside),
            as_expression _ (s.at + 1) (b.stands wf (first_part v₁ (join g.over_when g.run))),
            (
              w.at,
              (λ z. absurd (omega (arith, first_2 T cell.dims b.sound (whole r) far (u.at + 1) w.at v))),
              subst (λ (i : ℕ). ExprAt tb c i w.at) (sym (first_inner T cell.dims b.sound (whole r) far (u.at + 1) w.at v (omega (arith, b.run.on)) (omega (arith, g.run.on, g.run.sound.within)))) (as_expression tb (u.at + 1) (g.stands wf v₂)),
              subst (λ (i : ℕ). ClausesAt tb rest i) (sym (first_past T cell.dims b.sound (whole r) far (u.at + 1) w.at v far g.run.sound.within)) more,
            ),
          )

      guarded_adds : {c : Expr} {w : State} (g : Guarded s u c w) (rest : List Clause) {wf : List ℕ}
          → View input text cell.dims wf s (written (written w s.at 2 (u.at + 1)) s.at 3 w.at) → (loops : List Range) {next : ℕ}
          → Adds (table_of wf (tokens input) cell.dims) loops w.at next (relatives_in_clauses loops rest)
          → Adds (table_of wf (tokens input) cell.dims) loops s.at next (relatives_in_clauses loops (clause (token_of input s s.at) e (some c) ∷ rest))
      unfolding relatives_in_clauses relatives_in_condition plain_kind
      guarded_adds {c} {w} g rest {wf} v loops more =
          let v₁ = first_behind T cell.dims b.sound (whole (guarded_run g)) (noted_far g) (u.at + 1) w.at v in
          let v₂ = second_part (go_on b.sound inside).sound v₁ (join b.run g.over_when) g.run in
          adds_both _ loops (begun_adds v (first_part v₁ (join g.over_when g.run)) loops)
          (adds_both _ loops (adds_plain _ loops u.at (plain_of keyword.when (view_kind v b.run.sound u.at ∙ eqb-true _ _ g.is_when) refl)) (adds_both _ loops ((g.stands wf v₂).1 loops) more))

    -- ---- all clauses

    clauses_gives : {s : State} → Sound input text s → Gives input (repeat turns (clause_turn expr) []) s (Clauses [] s)
    unfolding clause_turn relatives_in_clauses
    clauses_gives {s} x = repeated (clause_turn expr) turn turns [] s x
      where
        finish : (got : List Clause) (s : State) (e : Expr) (u : State) → Begun s e u → (k : Turn (List Clause) (List Clause)) (t : State) → Ending got s e u k t → Turned (λ _ t. Sound input text t) Clauses got s k (written t s.at 3 t.at)
        finish got s e u b (again now) t h =
            subst (λ (z : State). Turned (λ _ t. Sound input text t) Clauses got s (again now) (written z s.at 3 z.at)) (sym h.0.noted) (
              (noted_run b h.0.guarded).sound,
              λ all y k.
                  record {
                    run = join (noted_run b h.0.guarded) k.run;
                    far = omega (arith, (noted_run b h.0.guarded).on, k.far);
                    these = clause (token_of input s s.at) e (some h.0.condition) ∷ k.these;
                    are = k.are ∙ ap (λ (z : List Clause). z ++ k.these) h.0.are ∙ append_assoc got _ k.these;
                    proper = (tt, k.proper);
                    stand = λ wf v. guarded_stands b h.0.guarded k.these (first_part v k.run) (k.stand wf (second_part b.sound v (noted_run b h.0.guarded) k.run));
                    adds = λ wf v loops. guarded_adds b h.0.guarded k.these (first_part v k.run) loops (k.adds wf (second_part b.sound v (noted_run b h.0.guarded) k.run) loops);
                  },
            )
        finish got s e u b (done now) t (inl h) =
            subst (λ (z : State). is_kind (token_of input z z.at) delimiter.assign ≡ false → Clauses got s now (written z s.at 3 z.at)) (sym h.0.noted)
            (λ n.
            record {
              run = noted_run b h.0.guarded;
              far = noted_far b h.0.guarded;
              these = clause (token_of input s s.at) e (some h.0.condition) ∷ [];
              are = h.0.are;
              proper = (tt, tt);
              stand = λ wf v. guarded_stands b h.0.guarded [] v (λ z. eqb-false _ _ n (sym (view_kind v (write_first b.sound (whole b (guarded_run b h.0.guarded)) 2 (u.at + 1) (noted_far b h.0.guarded) (omega arith) (omega arith)).sound h.0.before.at) ∙ z));
              adds = λ wf v loops. guarded_adds b h.0.guarded [] v loops (adds_none _ loops h.0.before.at);
            })
            h.1
        finish got s e u b (done now) t (inr h) =
            let far : s.at < t.at = omega (arith, b.run.on, h.run.on) in
            record {
              run = write_first b.sound (whole b (join b.run h.run)) 3 t.at far (omega arith) (omega arith);
              far = far;
              these = clause (token_of input s s.at) e none ∷ [];
              are = h.are;
              proper = (refl, tt);
              stand = plain_stands b h.run;
              adds = λ wf v loops. plain_adds b h.run h.adds loops wf v;
            }

        turn : (got : List Clause) (s : State) → Sound input text s → Gives input (clause_turn expr got) s (Turned (λ _ t. Sound input text t) Clauses got s)
        turn got s x =
            at_position _
            (at_token _
            (expected delimiter.assign 7
            (λ q.
            let r = go_on x (of_kind x s.at delimiter.assign (omega arith) q) in
            bind (reads (advanced s) r.sound)
            (λ e u h.
            let b : Begun s e u = record { sound = x; assigned = q; run = h.0; stands = h.1 } in
            bind (end_gives got s e u b) (λ k t n. at_position _ (wrote _ _ _ (gave k (finish got s e u b k t n))))))))

  -- ---- assignments

  -- the indices written in a list of statements are those from a position on, if those in a last part of it are from another on
  abbrev pub AddsStatement : Table → ℕ → Block → ℕ → Block → ℕ → Type 0
  AddsStatement tb depth rest at' all at =
      (loops : List Range) → length loops ≡ depth → (next : ℕ) → Adds tb loops at' next (relatives_in_block loops rest) → Adds tb loops at next (relatives_in_block loops all)

  -- a statement: it stands where it is read, if what follows stands behind it
  pub record Statement (depth : ℕ) (s : State) (statement : Block → Block) (t : State) : Type 0 where
    pub run : Run input text s t
    pub far : s.at < t.at
    pub proper : (rest : Block) → Proper rest → Proper (statement rest)
    pub stands : (rest : Block) → Claim input text cell.dims s t (λ tb. Stands tb depth rest t.at → Stands tb depth (statement rest) s.at)
    pub adds : (rest : Block) → Claim input text cell.dims s t (λ tb. AddsStatement tb depth rest t.at (statement rest) s.at)

  pub assignment_gives : (depth : ℕ) (expr : Reader Expr) → ReadsLevel T cell some_dims 1 expr → {s : State} → Sound input text s → is_name (token_of input s s.at) ≡ true → Gives input (read_assignment cell expr) s (Statement depth s)
  unfolding read_assignment Stands assigns target_in is_name relatives_in_block
  assignment_gives depth expr reads {s} x q =
      let r₁ = go_on x (is_name_inside x s.at q) in
      at_position _
      (bind (target_gives x q)
      (λ to t a.
      forbidden delimiter.bracket 6
      (λ _.
      bind (clauses_gives expr reads a.0.run.sound)
      (λ cs u c.
      let r : Run input text s u = join r₁ (join a.0.run c.run) in
      let far : s.at < u.at = omega (arith, a.0.run.on, c.far) in
      at_position _
      (wrote_both _ _ _
      (gave _
      (record {
        run = write_both_first T cell.dims x r (target_number to) u.at far;
        far = far;
        proper = λ rest h. (subst ProperClauses (sym c.are) c.proper, h);
        stands = λ rest wf v more.
            let tb : Table = table_of wf (tokens input) cell.dims in
            let v₁ = first_behind T cell.dims x r far (target_number to) u.at v in
            let k : word_in wf (tokens input) 0 s.at ≡ (token_of input s s.at).kind = view_kind v x s.at in (
              ap (λ (y : ℕ). eqb y kind.name || eqb y kind.cell) k ∙ one_of (eqb (token_of input s s.at).kind kind.name) (eqb (token_of input s s.at).kind kind.cell) (eqb (token_of input s s.at).kind kind.time) q a.1,
              a.0.is ∙ ap₂ (λ (y w : ℕ). if eqb y kind.cell then to_field w else to_variable w) (sym k) (sym (first_2 T cell.dims x r far (target_number to) u.at v)),
              subst₂ (λ (i : ℕ) (l : List Clause). ClausesAt tb l i) (sym (a.0.first wf (first_part v₁ c.run))) (sym c.are) (c.stand wf (second_part r₁.sound v₁ a.0.run c.run)),
              subst (λ (i : ℕ). Stands tb depth rest i) (sym (first_past T cell.dims x r far (target_number to) u.at v far c.run.sound.within)) more,
            );
        adds = λ rest wf v loops _ next more.
            let v₁ = first_behind T cell.dims x r far (target_number to) u.at v in
            adds_both _ loops
            (subst (λ (l : List Clause). Adds (table_of wf (tokens input) cell.dims) loops s.at u.at (relatives_in_clauses loops l)) (sym c.are)
            (adds_both _ loops
            (adds_both _ loops (adds_plain _ loops s.at (rw (view_kind v x s.at) (plain_name T cell.dims (token_of input s s.at).kind q))) (a.0.adds wf (first_part v₁ c.run) loops))
            (c.adds wf (second_part r₁.sound v₁ a.0.run c.run) loops)))
            more;
      })))))))
    where
      one_of : (a b c : Bool) → (a || b || c) ≡ true → c ≡ false → (a || b) ≡ true
      one_of true b c e n = refl
      one_of false true c e n = refl
      one_of false false c e n = sym n ∙ e
