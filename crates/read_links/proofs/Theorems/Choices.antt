-- Choices: what is read of them stands in every later table.
use Prim.Native.Nat.{ℕ, ◌+◌, ◌*◌, ◌<◌}
use native.Mathlib.Nat.{le_refl}
use native.Mathlib.Omega.{arith}
use mathlib.Core.Path.{◌≡◌, refl, sym, ap, ◌∙◌, subst}
use mathlib.Core.Bool.{Bool, true}
use mathlib.Core.List.{List, [], ◌∷◌, ◌++◌, append_assoc}
use lib.Dec.{eqb}
use lib.ListN.{length}
use borrow.Author.Tests.{eqb-true}
use Rattle.token.specs.Kind.{keyword}
use Rattle.program.specs.Syntax.{Range, Expr, Block, empty}
use Rattle.program.specs.Table.{word_at}
use Rattle.grammar.specs.Reader.{Input, State, Reader, again, done, turns, token_of, is_kind}
use Rattle.grammar.specs.Expressions.{Cell}
use Rattle.grammar.specs.Statements.{Arm, choices, arm_end, arm_turn, read_if}
use Rattle.grammar.proofs.Theorems.Ends.{Gives, bind}
use Rattle.cell_meaning.specs.Promises.Stands.{ElseAt, Stands, Elsif, Choice}
use Rattle.cell_meaning.specs.Links.{Table, table_of, word_in, linked}
use Rattle.cell_meaning.specs.Written.{Relative, relatives_in_expr, relatives_in_block}
use Rattle.read_links.proofs.Theorems.Steps.{advanced, written, gave, refused, handed, regroup, choose, at_position, at_token, over, wrote, expected, Turned, repeated}
use Rattle.read_links.proofs.Theorems.Runs.{tokens, Text, Sound, Run, stay, join, go_on, write_first, word_put, word_other}
use Rattle.read_links.proofs.Theorems.Naming.{of_kind, token_kind}
use Rattle.read_links.proofs.Theorems.Tables.{View, Claim, Known, first_part, second_part, inner_part, unwritten, rewritten, view_from, view_word, view_kind, link_to}
use Rattle.read_links.proofs.Theorems.Adding.{append_none, plain_kind, plain_of, Adds, adds_as, adds_both, then_none, adds_plain}
use Rattle.read_links.proofs.Theorems.Decoding.{Expression, as_expression}
use Rattle.read_links.proofs.Theorems.Fields.{inside_words}
use Rattle.read_links.proofs.Theorems.Expressions.{ReadsLevel}
use Rattle.read_links.proofs.Theorems.Proper.{Proper}
use Rattle.read_links.proofs.Theorems.Assignments.{Statement}

-- two kinds of tokens
pub other_kind : {k : ℕ} (a b : ℕ) → eqb k a ≡ true → (a ≡ b → ⊥) → k ≡ b → ⊥
other_kind {k} a b q d e = d (sym (eqb-true k a q) ∙ e)

module _ {input : Input} {text : List ℕ} (T : Text input text) (cell : Cell) (some_dims : 0 < cell.dims) where
  -- a list of statements: it stands where it is read, if no `exit` stands behind it; and the indices from there on are those written in it
  abbrev pub BlockRead : ℕ → State → Block → State → Type 0
  BlockRead depth s b t =
      Run input text s t × (((token_of input t t.at).kind ≡ keyword.exit → ⊥) → Claim input text cell.dims s t (λ tb. Stands tb depth b s.at)) × Proper b
      × Claim input text cell.dims s t (λ tb. (loops : List Range) → length loops ≡ depth → Adds tb loops s.at t.at (relatives_in_block loops b))

  abbrev pub ReadsBlock : ℕ → Reader Block → Type 0
  ReadsBlock depth m = (s : State) → Sound input text s → Gives input m s (BlockRead depth s)

  module _ (depth : ℕ) (expr : Reader Expr) (reads : ReadsLevel T cell some_dims 1 expr) (block : Reader Block) (blocks : ReadsBlock depth block) where
    -- ---- one arm

    -- the condition is read up to u and the statements up to t; the position behind them is noted at the first token
    record One (s : State) (c : Expr) (d : Block) (u t : State) : Type 0 where
      pub sound : Sound input text s
      pub plain : plain_kind (token_of input s s.at).kind ≡ true
      pub first : Run input text s (advanced s)
      pub condition : Run input text (advanced s) u
      pub condition_stands : Claim input text cell.dims (advanced s) u (λ tb. Expression tb 1 (s.at + 1) c u.at)
      pub is_then : is_kind (token_of input u u.at) keyword.then ≡ true
      pub over_then : Run input text u (advanced u)
      pub part : BlockRead depth (advanced u) d t

    module _ {s : State} {c : Expr} {d : Block} {u t : State} (o : One s c d u t) where
      behind : Run input text (advanced s) t
      behind = join o.condition (join o.over_then o.part.0)

      one_far : s.at < t.at
      one_far = omega (arith, behind.on)

      one_run : Run input text s (written t s.at 2 t.at)
      one_run = write_first o.sound (join o.first behind) 2 t.at one_far (omega arith) (omega arith)

      module _ {wf : List ℕ} {z : State} (r : Run input text (written t s.at 2 t.at) z) (v : View input text cell.dims wf (advanced s) z) where
        arm_view : View input text cell.dims wf (advanced s) t
        arm_view = unwritten s.at 2 t.at (first_part v r) (omega arith) (omega arith)

        -- the array constants that are known behind the arm
        arm_known : Known (table_of wf (tokens input) cell.dims) (written t s.at 2 t.at)
        arm_known = (rewritten o.sound (join o.first behind) 2 t.at (omega arith) arm_view.clear (second_part o.first.sound arm_view behind (stay behind.sound))).known

        arm_inner : word_in wf (tokens input) 2 s.at ≡ word_at z.words s.at 2 → linked (tokens input) s.at (word_in wf (tokens input) 2 s.at) ≡ t.at
        arm_inner e =
            ap (linked (tokens input) s.at) (e ∙ r.below _ (omega (arith, one_far)) ∙ word_put t.words s.at 2 t.at (inside_words T behind.sound s.at 2 one_far (omega arith)))
            ∙ link_to (tokens input) s.at t.at one_far behind.sound.within

        arm_stands : (e : Block) → word_in wf (tokens input) 2 s.at ≡ word_at z.words s.at 2 → ((token_of input t t.at).kind ≡ keyword.exit → ⊥)
            → ElseAt (table_of wf (tokens input) cell.dims) (λ j. Stands (table_of wf (tokens input) cell.dims) depth e j) (λ j. Elsif (table_of wf (tokens input) cell.dims) depth e j) (e ≡ empty) t.at
            → Choice (table_of wf (tokens input) cell.dims) depth c d e s.at
        arm_stands e w n rest =
            let tb : Table = table_of wf (tokens input) cell.dims in
            record {
              then_at = u.at;
              condition = as_expression tb (s.at + 1) (o.condition_stands wf (first_part arm_view (join o.over_then o.part.0)));
              is_then = view_kind v o.condition.sound u.at ∙ eqb-true _ _ o.is_then;
              part = o.part.1 n wf (second_part o.first.sound arm_view (join o.condition o.over_then) o.part.0);
              rest = subst (λ (i : ℕ). ElseAt tb (λ j. Stands tb depth e j) (λ j. Elsif tb depth e j) (e ≡ empty) i) (sym (arm_inner w)) rest;
            }

        -- the indices of an arm, before those of what follows it
        arm_adds : (loops : List Range) → length loops ≡ depth → {next : ℕ} {ws : List Relative} → Adds (table_of wf (tokens input) cell.dims) loops t.at next ws
            → Adds (table_of wf (tokens input) cell.dims) loops s.at next (relatives_in_expr loops c ++ (relatives_in_block loops d ++ ws))
        unfolding plain_kind
        arm_adds loops deep more =
            adds_both _ loops
            (adds_both _ loops (adds_plain _ loops s.at (rw (view_kind v o.sound s.at) o.plain)) ((o.condition_stands wf (first_part arm_view (join o.over_then o.part.0))).1 loops))
            (adds_both _ loops (adds_plain _ loops u.at (plain_of keyword.then (view_kind v o.condition.sound u.at ∙ eqb-true _ _ o.is_then) refl))
            (adds_both _ loops (o.part.3 wf (second_part o.first.sound arm_view (join o.condition o.over_then) o.part.0) loops deep) more))

    -- ---- arms

    -- arms from an `if` or `elsif` on, behind those in `got`. Word 3 of the first token may still be written
    record Arms (got : List Arm) (s : State) (statement : Block → Block) (t : State) : Type 0 where
      pub run : Run input text s t
      pub far : s.at < t.at
      pub arm : Arm
      pub more : List Arm
      pub last : Block
      pub proper_part : Proper arm.part
      pub proper_rest : Proper (choices more last empty)
      pub are : statement ≡ choices (got ++ arm ∷ more) last
      pub stands : (wf : List ℕ) → View input text cell.dims wf (advanced s) t → word_in wf (tokens input) 2 s.at ≡ word_at t.words s.at 2
          → Choice (table_of wf (tokens input) cell.dims) depth arm.condition arm.part (choices more last empty) s.at
      pub adds : (wf : List ℕ) → View input text cell.dims wf (advanced s) t → (loops : List Range) → length loops ≡ depth
          → Adds (table_of wf (tokens input) cell.dims) loops s.at t.at (relatives_in_expr loops arm.condition ++ (relatives_in_block loops arm.part ++ relatives_in_block loops (choices more last empty)))

    record Here (s : State) : Type 0 where
      pub sound : Sound input text s
      pub plain : plain_kind (token_of input s s.at).kind ≡ true
      pub inside : s.at < tokens input

    module _ (got : List Arm) {s : State} {c : Expr} {d : Block} {u t : State} (o : One s c d u t) where
      abbrev arm : Arm
      arm = record { condition = c; part = d }

      abbrev noted : State
      noted = written t s.at 2 t.at

      -- the token behind the arm's statements is of another kind
      not_of_kind : (a b : ℕ) → is_kind (token_of input noted noted.at) a ≡ true → (a ≡ b → ⊥) → (token_of input t t.at).kind ≡ b → ⊥
      not_of_kind a b q d e = other_kind a b q d (token_kind (one_run o).sound t.at ∙ sym (token_kind (behind o).sound t.at) ∙ e)

      -- an `elsif` follows
      arm_elsif : is_kind (token_of input noted noted.at) keyword.elsif ≡ true → (f : Block → Block) (z : State) → Arms (got ++ arm ∷ []) noted f z → Arms got s f z
      unfolding choices Elsif relatives_in_block
      arm_elsif q f z k =
          record {
            run = join (one_run o) k.run;
            far = omega (arith, one_far o, k.far);
            arm = arm;
            more = k.arm ∷ k.more;
            last = k.last;
            proper_part = o.part.2;
            proper_rest = (k.proper_part, k.proper_rest, tt);
            are = k.are ∙ ap (λ (l : List Arm). choices l k.last) (append_assoc got (arm ∷ []) (k.arm ∷ k.more));
            stands = λ wf v w.
                let e : word_in wf (tokens input) 0 t.at ≡ (token_of input noted t.at).kind = view_kind v (one_run o).sound t.at in
                arm_stands o k.run v (choices (k.arm ∷ k.more) k.last empty) w
                (not_of_kind keyword.elsif keyword.exit q (λ p. omega arith))
                (record {
                  at_else = λ p. absurd (other_kind keyword.elsif keyword.else q (λ p. omega arith) (sym e ∙ p));
                  at_elsif = λ _. (refl, k.stands wf (view_from v (advanced noted) (omega (arith, one_far o)) (arm_known o k.run v)) (view_word v k.run.sound.within t.at 2 (omega (arith, one_far o)) k.far (omega arith)));
                  at_end = λ p p'. absurd (p' (e ∙ eqb-true _ _ q));
                });
            adds = λ wf v loops deep.
                arm_adds o k.run v loops deep
                (adds_as _ loops (ap (λ (ws : List Relative). relatives_in_expr loops k.arm.condition ++ (relatives_in_block loops k.arm.part ++ ws)) (sym (append_none _)))
                (k.adds wf (view_from v (advanced noted) (omega (arith, one_far o)) (arm_known o k.run v)) loops deep));
          }

      -- the part behind `else` follows
      arm_else : is_kind (token_of input noted noted.at) keyword.else ≡ true → Run input text noted (advanced noted) → (e : Block) (z : State) → BlockRead depth (advanced noted) e z → is_kind (token_of input z z.at) keyword.end ≡ true → Arms got s (choices (got ++ arm ∷ []) e) (advanced z)
      unfolding choices plain_kind
      arm_else q r e z h n =
          let last : Run input text z (advanced z) = go_on h.0.sound (of_kind h.0.sound z.at keyword.end (omega arith) n) in
          record {
            run = join (one_run o) (join r (join h.0 last));
            far = omega (arith, one_far o, h.0.on);
            arm = arm;
            more = [];
            last = e;
            proper_part = o.part.2;
            proper_rest = h.2;
            are = refl;
            stands = λ wf v w.
                let k : word_in wf (tokens input) 0 t.at ≡ (token_of input noted t.at).kind = view_kind v (one_run o).sound t.at in
                arm_stands o (join r (join h.0 last)) v e w (not_of_kind keyword.else keyword.exit q (λ p. omega arith))
                (record {
                  at_else = λ _. h.1 (other_kind keyword.end keyword.exit n (λ p. omega arith)) wf (view_from (first_part v last) (advanced noted) (omega (arith, one_far o)) (arm_known o (join r (join h.0 last)) v));
                  at_elsif = λ p. absurd (other_kind keyword.else keyword.elsif q (λ p. omega arith) (sym k ∙ p));
                  at_end = λ p p'. absurd (p (k ∙ eqb-true _ _ q));
                });
            adds = λ wf v loops deep.
                arm_adds o (join r (join h.0 last)) v loops deep
                (then_none _ loops
                (adds_both _ loops (adds_plain _ loops t.at (plain_of keyword.else (view_kind v (one_run o).sound t.at ∙ eqb-true _ _ q) refl)) (h.3 wf (view_from (first_part v last) (advanced noted) (omega (arith, one_far o)) (arm_known o (join r (join h.0 last)) v)) loops deep))
                (adds_plain _ loops z.at (plain_of keyword.end (view_kind v h.0.sound z.at ∙ eqb-true _ _ n) refl)));
          }

      -- `end` follows
      arm_last : is_kind (token_of input noted noted.at) keyword.end ≡ true → Run input text noted (advanced noted) → Arms got s (choices (got ++ arm ∷ []) empty) (advanced noted)
      unfolding choices plain_kind relatives_in_block
      arm_last q r =
          record {
            run = join (one_run o) r;
            far = omega (arith, one_far o);
            arm = arm;
            more = [];
            last = empty;
            proper_part = o.part.2;
            proper_rest = tt;
            are = refl;
            stands = λ wf v w.
                let k : word_in wf (tokens input) 0 t.at ≡ (token_of input noted t.at).kind = view_kind v (one_run o).sound t.at in
                arm_stands o r v empty w (not_of_kind keyword.end keyword.exit q (λ p. omega arith))
                (record {
                  at_else = λ p. absurd (other_kind keyword.end keyword.else q (λ p. omega arith) (sym k ∙ p));
                  at_elsif = λ p. absurd (other_kind keyword.end keyword.elsif q (λ p. omega arith) (sym k ∙ p));
                  at_end = λ p p'. refl;
                });
            adds = λ wf v loops deep. arm_adds o r v loops deep (adds_plain _ loops t.at (plain_of keyword.end (view_kind v (one_run o).sound t.at ∙ eqb-true _ _ q) refl));
          }

      end_gives : Gives input (arm_end block (got ++ arm ∷ [])) noted (Turned (λ _ z. Here z) Arms got s)
      unfolding arm_end plain_kind
      end_gives =
          let x : Sound input text noted = (one_run o).sound in
          at_token _
          (choose (is_kind (token_of input noted noted.at) keyword.elsif) (λ q. gave (again (got ++ arm ∷ [])) (record { sound = x; plain = plain_of {k = (token_of input noted t.at).kind} keyword.elsif (eqb-true _ _ q) refl; inside = of_kind x t.at keyword.elsif (omega arith) q }, arm_elsif q))
          (λ _.
          choose (is_kind (token_of input noted noted.at) keyword.else)
          (λ q.
          let r = go_on x (of_kind x t.at keyword.else (omega arith) q) in
          regroup _ _ _ (regroup _ _ _ (over (bind (blocks (advanced noted) r.sound) (λ e z h. regroup _ _ _ (expected keyword.end 7 (λ n. handed e _ (gave (done (choices (got ++ arm ∷ []) e)) (arm_else q r e z h n)))))))))
          (λ _. expected keyword.end 7 (λ q. gave (done (choices (got ++ arm ∷ []) empty)) (arm_last q (go_on x (of_kind x t.at keyword.end (omega arith) q)))))))

    turn_gives : (got : List Arm) (s : State) → Here s → Gives input (arm_turn expr block got) s (Turned (λ _ z. Here z) Arms got s)
    unfolding arm_turn
    turn_gives got s h =
        let r = go_on h.sound h.inside in
        at_position _
        (over
        (bind (reads (advanced s) r.sound)
        (λ c u e.
        expected keyword.then 7
        (λ q.
        let r₂ = go_on e.0.sound (of_kind e.0.sound u.at keyword.then (omega arith) q) in
        bind (blocks (advanced u) r₂.sound)
        (λ d t b.
        at_position _
        (wrote _ _ _ (end_gives got (record { sound = h.sound; plain = h.plain; first = r; condition = e.0; condition_stands = e.1; is_then = q; over_then = r₂; part = b }))))))))

    -- ---- the whole

    pub if_gives : (free : Bool) {s : State} → Sound input text s → is_kind (token_of input s s.at) keyword.if ≡ true → Gives input (read_if free expr block) s (Statement T cell some_dims depth s)
    unfolding read_if Stands choices plain_kind relatives_in_block
    if_gives free {s} x q =
        choose free
        (λ _.
        at_position _
        (bind (repeated (arm_turn expr block) turn_gives turns [] s (record { sound = x; plain = plain_of {k = (token_of input s s.at).kind} keyword.if (eqb-true _ _ q) refl; inside = of_kind x s.at keyword.if (omega arith) q }))
        (λ f t a.
        at_position _
        (wrote _ _ _
        (gave f
        (record {
          run = write_first x a.run 3 t.at a.far (omega arith) (omega arith);
          far = a.far;
          proper = λ rest h. subst (λ (g : Block → Block). Proper (g rest)) (sym a.are) (a.proper_part, a.proper_rest, h);
          stands = λ rest wf v more.
              let tb : Table = table_of wf (tokens input) cell.dims in
              let w : word_in wf (tokens input) 3 s.at ≡ t.at = view_word v a.run.sound.within s.at 3 (le_refl _) a.far (omega arith) ∙ word_put t.words s.at 3 t.at (inside_words T a.run.sound s.at 3 a.far (omega arith)) in
              let w₂ : word_in wf (tokens input) 2 s.at ≡ word_at t.words s.at 2 = view_word v a.run.sound.within s.at 2 (le_refl _) a.far (omega arith) ∙ word_other t.words s.at 3 t.at (4 * s.at + 2) (λ p. absurd (omega arith)) in
              subst (λ (g : Block → Block). Stands tb depth (g rest) s.at) (sym a.are) (
                view_kind v x s.at ∙ eqb-true _ _ q,
                a.stands wf (unwritten s.at 3 t.at (inner_part v) (omega arith) (omega arith)) w₂,
                subst (λ (i : ℕ). Stands tb depth rest i) (sym (ap (linked (tokens input) s.at) w ∙ link_to (tokens input) s.at t.at a.far a.run.sound.within)) more,
              );
          adds = λ rest wf v loops deep next more.
              subst (λ (g : Block → Block). Adds (table_of wf (tokens input) cell.dims) loops s.at next (relatives_in_block loops (g rest))) (sym a.are)
              (adds_as _ loops (simp append_assoc) (adds_both _ loops (a.adds wf (unwritten s.at 3 t.at (inner_part v) (omega arith) (omega arith)) loops deep) more));
        }))))))
        (λ _. refused 14)
