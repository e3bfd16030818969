-- Loops and lists of statements: what is read of them stands in every later table.
use Prim.Native.Nat.{ℕ, zero, suc, ◌+◌, ◌*◌, ◌≤◌, ◌<◌}
use native.Mathlib.Nat.{le_refl}
use native.Mathlib.Omega.{arith}
use mathlib.Core.Path.{◌≡◌, refl, sym, ap, ap₂, ◌∙◌, subst}
use mathlib.Core.Bool.{Bool, true, false, ◌&&◌, ◌||◌}
use mathlib.Core.List.{List, [], ◌∷◌, ◌++◌}
use lib.Dec.{eqb, ltb}
use lib.ListN.{length, length-append}
use borrow.Author.Tests.{eqb-true, ne_eqb}
use Rattle.value.specs.Worked.{decode_of, encode_of}
use Rattle.value.proofs.Theorems.Laws.{and_both}
use Rattle.token.specs.Kind.{kind, keyword, delimiter}
use Rattle.names.specs.declared.Entry.{Entry}
use Rattle.names.specs.Names.{name_kind}
use Rattle.program.specs.Syntax.{Range, range, Block, empty, loop, exit, constant}
use Rattle.grammar.specs.Reader.{Input, State, Reader, done, turns, token_of, is_kind, is_name}
use Rattle.grammar.specs.Expressions.{Cell}
use Rattle.grammar.specs.Statements.{read_forall, read_exit, Parts, put_after, statement_turn, read_block}
use Rattle.grammar.proofs.Theorems.Ends.{Gives, bind}
use Rattle.cell_meaning.specs.Promises.Stands.{Stands}
use Rattle.cell_meaning.specs.Links.{Table, table_of, word_in, linked, begins}
use Rattle.cell_meaning.specs.Written.{relatives_in_block}
use Rattle.read_links.proofs.Theorems.Steps.{advanced, written, named, released, gave, refused, made, given_as, choose, at_position, at_token, over, wrote, wrote_both, named_it, released_it, expected, opened, Turned, repeated}
use Rattle.read_links.proofs.Theorems.Runs.{tokens, head_at, Text, Sound, RunBut, Run, but, stay, join, go_on, write_first, word_put, both_2, both_3, entry_new}
use Rattle.read_links.proofs.Theorems.Naming.{of_kind, name_it, release_it}
use Rattle.read_links.proofs.Theorems.Constants.{signable_decoded, Piece, one_token, join_pieces, past_token, write_piece, range_gives, fresh_it, Declares, declaration_gives}
use Rattle.read_links.proofs.Theorems.Tables.{View, Claim, first_part, second_part, view_word, view_kind, link_to}
use Rattle.read_links.proofs.Theorems.Adding.{plain_kind, plain_of, Adds, all_of, adds_none, adds_both, then_none, adds_plain, adds_constant, adds_loop}
use Rattle.read_links.proofs.Theorems.Fields.{inside_words, first_past, first_inner, first_behind, write_both_first}
use Rattle.read_links.proofs.Theorems.Expressions.{ReadsLevel, expression_gives}
use Rattle.read_links.proofs.Theorems.Proper.{Proper}
use Rattle.read_links.proofs.Theorems.Assignments.{Statement, assignment_gives}
use Rattle.read_links.proofs.Theorems.Choices.{other_kind, BlockRead, ReadsBlock, if_gives}

module _ {input : Input} {text : List ℕ} (T : Text input text) (cell : Cell) (some_dims : 0 < cell.dims) where
  -- ---- loops

  module _ (depth : ℕ) {s : State} (x : Sound input text s) (q : is_kind (token_of input s s.at) keyword.forall ≡ true) where
    inside : s.at < tokens input
    inside = of_kind x s.at keyword.forall (omega arith) q

    first : Run input text s (advanced s)
    first = go_on x inside

    -- the state in which the body is read: the range is noted at the index's name, and the index is open
    abbrev opened_loop : State → Range → State
    opened_loop p r = named input (written (written p (s.at + 1) 2 (encode_of r.low)) (s.at + 1) 3 (encode_of r.high)) (s.at + 1) name_kind.index depth

    module _ {p : State} (r : Range) (f : Piece input text (advanced s) p) (name_in : s.at + 1 < tokens input) (a_name : head_at text (s.at + 1) ≡ kind.name) (few : p.count < 256) where
      open_run : RunBut input text (advanced s) (opened_loop p r) p.count
      open_run =
          name_it
          (write_piece first.sound (write_piece first.sound f (s.at + 1) 2 (encode_of r.low) (le_refl _) f.far (omega arith) (omega arith)) (s.at + 1) 3 (encode_of r.high) (le_refl _) f.far (omega arith) (omega arith)).run
          (s.at + 1) name_kind.index depth name_in a_name few (omega arith) (omega arith) (λ e. absurd (omega arith)) (λ e. absurd (omega arith)) (λ e. absurd (omega arith)) (λ _. refl)

      -- behind the loop its index's record is free again
      close_run : {t : State} → Run input text (opened_loop p r) t → Run input text (advanced s) (released t p.count)
      close_run {t} b =
          release_it p.count (join open_run (but b p.count)) (omega (arith, f.same)) (omega (arith, b.more))
          (ap (λ (e : Entry). e.kind) (b.old p.count (omega arith) ∙ entry_new p.names p.count _ (omega (arith, f.run.sound.room))))

      -- the range, in a later table
      module _ (low_in : decode_of (encode_of r.low) ≡ r.low) (high_in : decode_of (encode_of r.high) ≡ r.high) {t : State} (b : Run input text (opened_loop p r) t) {wf : List ℕ} (v : View input text cell.dims wf (advanced s) t) where
        l : 4 * (s.at + 1) + 3 < length p.words
        l = inside_words T f.run.sound (s.at + 1) 3 f.far (omega arith)

        range_stands : r ≡ range (decode_of (word_in wf (tokens input) 2 (s.at + 1))) (decode_of (word_in wf (tokens input) 3 (s.at + 1)))
        range_stands = ap₂ range (sym (ap decode_of low_is ∙ low_in)) (sym (ap decode_of high_is ∙ high_in))
          where
            low_is : word_in wf (tokens input) 2 (s.at + 1) ≡ encode_of r.low
            low_is = view_word v b.sound.within (s.at + 1) 2 (le_refl _) (omega (arith, b.on, f.far)) (omega arith) ∙ b.below _ (omega (arith, f.far)) ∙ both_2 p.words (s.at + 1) (encode_of r.low) (encode_of r.high) l

            high_is : word_in wf (tokens input) 3 (s.at + 1) ≡ encode_of r.high
            high_is = view_word v b.sound.within (s.at + 1) 3 (le_refl _) (omega (arith, b.on, f.far)) (omega arith) ∙ b.below _ (omega (arith, f.far)) ∙ both_3 p.words (s.at + 1) (encode_of r.low) (encode_of r.high) l

    pub forall_gives : (free : Bool) → (free ≡ true → depth < 16) → (block : Reader Block) → ReadsBlock T cell some_dims (depth + 1) block → Gives input (read_forall free depth block) s (Statement T cell some_dims depth s)
    unfolding read_forall Stands relatives_in_block plain_kind
    forall_gives free deep-free block blocks =
        at_position _
        (opened free
        (λ some_free.
        fresh_it T false 0 _ first.sound
        (λ _ name_in a_name few.
        expected delimiter.colon 6
        (λ c.
        let f₁ = past_token T (one_token first.sound name_in) delimiter.colon (omega arith) c in
        bind (range_gives T 4096 f₁.run.sound)
        (λ r p g.
        let f : Piece input text (advanced s) p = join_pieces f₁ g.piece in
        let few₁ : p.count < 256 = omega (arith, f.same) in
        wrote_both _ _ _
        (named_it _ _ _ _
        (at_position _
        (bind (blocks (opened_loop p r) (open_run r f name_in a_name few₁).sound)
        (λ body t b.
        expected keyword.end 7
        (λ n.
        let last : Run input text t (advanced t) = go_on b.0.sound (of_kind b.0.sound t.at keyword.end (omega arith) n) in
        let inner : Run input text (opened_loop p r) (advanced t) = join b.0 last in
        let whole : Run input text s (released (advanced t) p.count) = join first (close_run r f name_in a_name few₁ inner) in
        let far : s.at < t.at + 1 = omega (arith, f.far, b.0.on) in
        released_it _
        (at_position _
        (wrote_both _ _ _
        (gave (loop r body)
        (record {
          run = write_both_first T cell.dims x whole p.at (t.at + 1) far;
          far = far;
          proper = λ rest h. (b.2, h);
          stands = λ rest wf v more.
              let tb : Table = table_of wf (tokens input) cell.dims in
              let v₀ = first_behind T cell.dims x whole far p.at (t.at + 1) v in
              let v₁ : View input text cell.dims wf (advanced s) (advanced t) = record { final = v₀.final; later = v₀.later; known = v₀.known; clear = v₀.clear } in (
                view_kind v x s.at ∙ eqb-true _ _ q,
                record {
                  shallow = deep-free some_free;
                  few = g.few;
                  values = range_stands r f name_in a_name few₁ (signable_decoded r.low g.low_in) (signable_decoded r.high g.high_in) inner v₁;
                  part = subst (λ (i : ℕ). Stands tb (depth + 1) body i) (sym (first_inner T cell.dims x whole far p.at (t.at + 1) v (omega (arith, f.far)) f.run.sound.within))
                      (b.1 (other_kind keyword.end keyword.exit n (λ e. omega arith)) wf (second_part first.sound (first_part v₁ last) (open_run r f name_in a_name few₁) b.0));
                },
                subst (λ (i : ℕ). Stands tb depth rest i) (sym (first_past T cell.dims x whole far p.at (t.at + 1) v far last.sound.within)) more,
              );
          adds = λ rest wf v loops deep next more.
              let tb : Table = table_of wf (tokens input) cell.dims in
              let v₀ = first_behind T cell.dims x whole far p.at (t.at + 1) v in
              let v₁ : View input text cell.dims wf (advanced s) (advanced t) = record { final = v₀.final; later = v₀.later; known = v₀.known; clear = v₀.clear } in
              let inner_is = first_inner T cell.dims x whole far p.at (t.at + 1) v (omega (arith, f.far)) f.run.sound.within in
              let past_is = first_past T cell.dims x whole far p.at (t.at + 1) v far last.sound.within in
              let more_loops : List Range = loops ++ (r ∷ []) in
              let part : Adds tb more_loops p.at (t.at + 1) (relatives_in_block more_loops body) =
              then_none tb more_loops
              (b.3 wf (second_part first.sound (first_part v₁ last) (open_run r f name_in a_name few₁) b.0) more_loops (omega (arith, length-append loops (r ∷ []))))
              (adds_plain tb more_loops t.at (plain_of keyword.end (view_kind v b.0.sound t.at ∙ eqb-true _ _ n) refl))
              in
              adds_both tb loops
              (adds_loop tb loops s.at (view_kind v x s.at ∙ eqb-true _ _ q) (omega (arith, deep, deep-free some_free)) (range_stands r f name_in a_name few₁ (signable_decoded r.low g.low_in) (signable_decoded r.high g.high_in) inner v₁) inner_is past_is far
              (all_of tb more_loops part))
              more;
        }))))))))))))))

  -- ---- other statements

  exit_gives : (depth : ℕ) {s : State} → Sound input text s → is_kind (token_of input s s.at) keyword.exit ≡ true → Gives input read_exit s (Statement T cell some_dims depth s)
  unfolding read_exit Stands relatives_in_block plain_kind
  exit_gives depth {s} x q =
      let r = go_on x (of_kind x s.at keyword.exit (omega arith) q) in
      at_position _
      (over
      (wrote _ _ _
      (gave exit
      (record {
        run = write_first x r 3 (s.at + 1) (omega arith) (omega arith) (omega arith);
        far = omega arith;
        proper = λ rest h. h;
        stands = λ rest wf v more.
            let w : word_in wf (tokens input) 3 s.at ≡ s.at + 1 = view_word v r.sound.within s.at 3 (le_refl _) (omega arith) (omega arith) ∙ word_put s.words s.at 3 (s.at + 1) (inside_words T r.sound s.at 3 (omega arith) (omega arith)) in (
              view_kind v x s.at ∙ eqb-true _ _ q,
              subst (λ (i : ℕ). Stands (table_of wf (tokens input) cell.dims) depth rest i) (sym (ap (linked (tokens input) s.at) w ∙ link_to (tokens input) s.at (s.at + 1) (omega arith) r.sound.within)) more,
            );
        adds = λ rest wf v loops _ next more. adds_both _ loops (adds_plain _ loops s.at (plain_of keyword.exit (view_kind v x s.at ∙ eqb-true _ _ q) refl)) more;
      }))))

  constant_stands : (depth : ℕ) {s : State} → Sound input text s → is_kind (token_of input s s.at) keyword.const ≡ true → {t : State} → Declares T s t → Statement T cell some_dims depth s constant t
  unfolding Stands relatives_in_block
  constant_stands depth {s} x q {t} d =
      record {
        run = d.run;
        far = d.far;
        proper = λ rest h. h;
        stands = λ rest wf v more.
            let w : word_in wf (tokens input) 3 s.at ≡ t.at = view_word v d.run.sound.within s.at 3 (le_refl _) d.far (omega arith) ∙ d.past in (
              view_kind v x s.at ∙ eqb-true _ _ q,
              subst (λ (i : ℕ). Stands (table_of wf (tokens input) cell.dims) depth rest i) (sym (ap (linked (tokens input) s.at) w ∙ link_to (tokens input) s.at t.at d.far d.run.sound.within)) more,
            );
        adds = λ rest wf v loops _ next more.
            let w : word_in wf (tokens input) 3 s.at ≡ t.at = view_word v d.run.sound.within s.at 3 (le_refl _) d.far (omega arith) ∙ d.past in
            adds_both _ loops (adds_constant _ loops s.at (view_kind v x s.at ∙ eqb-true _ _ q) (ap (linked (tokens input) s.at) w ∙ link_to (tokens input) s.at t.at d.far d.run.sound.within) d.far) more;
      }

  -- ---- lists of statements

  -- what reads the parts of a statement, where so many loops are open
  record PartsRead (loops : ℕ) (parts : Parts) : Type 0 where
    pub expr : ReadsLevel T cell some_dims 1 parts.expr
    pub inner_expr : ReadsLevel T cell some_dims 1 parts.inner_expr
    pub inner_if : ReadsBlock T cell some_dims loops (parts.inner loops)
    pub inner_loop : ReadsBlock T cell some_dims (loops + 1) (parts.inner (loops + 1))
    pub deep : parts.free ≡ true → loops < 16

  -- statements from a position on, behind those `before` them
  record Going (loops : ℕ) (before : Block → Block) (s : State) (b : Block) (t : State) : Type 0 where
    pub run : Run input text s t
    pub part : Block
    pub is : b ≡ before part
    pub proper : Proper part
    pub stands : ((token_of input t t.at).kind ≡ keyword.exit → ⊥) → Claim input text cell.dims s t (λ tb. Stands tb loops part s.at)
    pub adds : Claim input text cell.dims s t (λ tb. (ranges : List Range) → length ranges ≡ loops → Adds tb ranges s.at t.at (relatives_in_block ranges part))

  -- one more statement
  one_more : (loops : ℕ) (before f : Block → Block) {s t : State} → Sound input text s → Statement T cell some_dims loops s f t → Turned (λ _ u. Sound input text u) (Going loops) before s (put_after before f) t
  one_more loops before f x h = (
    h.run.sound,
    λ b u k.
        record {
          run = join h.run k.run;
          part = f k.part;
          is = k.is;
          proper = h.proper k.part k.proper;
          stands = λ n wf v. h.stands k.part wf (first_part v k.run) (k.stands n wf (second_part x v h.run k.run));
          adds = λ wf v ranges deep. h.adds k.part wf (first_part v k.run) ranges deep _ (k.adds wf (second_part x v h.run k.run) ranges deep);
        },
  )

  -- none of the tests was met
  no_more : (n c t k i f e : Bool) → (n || c || t) ≡ false → k ≡ false → i ≡ false → f ≡ false → e ≡ false → (n || c || i || f || e || k) ≡ false
  no_more true c t k i f e p q r s u = p
  no_more false true t k i f e p q r s u = p
  no_more false false t k i f e p q r s u = rw (r, s, u, q)

  turn_gives : (loops : ℕ) (parts : Parts) → PartsRead loops parts → (before : Block → Block) (s : State) → Sound input text s → Gives input (statement_turn cell parts loops before) s (Turned (λ _ t. Sound input text t) (Going loops) before s)
  unfolding statement_turn Stands begins is_name relatives_in_block
  turn_gives loops parts reads before s x =
      at_token _
      (choose (is_name (token_of input s s.at)) (λ q. made _ (assignment_gives T cell some_dims loops parts.expr reads.expr x q) (λ f t h. one_more loops before f x h))
      (λ n₁.
      choose (is_kind (token_of input s s.at) keyword.const)
      (λ q. made _ (declaration_gives T parts.free x (of_kind x s.at keyword.const (omega arith) q)) (λ _ t h. one_more loops before constant x (constant_stands loops x q h)))
      (λ n₂.
      choose (is_kind (token_of input s s.at) keyword.if)
      (λ q. made _ (if_gives T cell some_dims loops parts.inner_expr reads.inner_expr (parts.inner loops) reads.inner_if parts.free x q) (λ f t h. one_more loops before f x h))
      (λ n₃.
      choose (is_kind (token_of input s s.at) keyword.forall)
      (λ q. made _ (forall_gives loops x q parts.free reads.deep (parts.inner (loops + 1)) reads.inner_loop) (λ f t h. one_more loops before f x h))
      (λ n₄.
      choose (is_kind (token_of input s s.at) keyword.exit && ltb 0 loops)
      (λ q. made _ (exit_gives loops x (and_both (is_kind (token_of input s s.at) keyword.exit) (ltb 0 loops) q).0) (λ f t h. one_more loops before f x h))
      (λ _.
      gave (done (before empty))
      (record {
        run = stay x;
        part = empty;
        is = refl;
        proper = tt;
        stands = λ e wf v.
            rw (view_kind v x s.at)
            (no_more (eqb (token_of input s s.at).kind kind.name) (eqb (token_of input s s.at).kind kind.cell) (eqb (token_of input s s.at).kind kind.time) _ _ _ (eqb (token_of input s s.at).kind keyword.exit) n₁ n₂ n₃ n₄
            (ne_eqb _ _ e));
        adds = λ wf v ranges _. adds_none _ ranges s.at;
      })))))))

  going_block : (loops : ℕ) {s : State} {b : Block} {t : State} → Going loops (λ after. after) s b t → BlockRead T cell some_dims loops s b t
  going_block loops {s} {b} {t} g = (
    g.run,
    λ n wf v. subst (λ (y : Block). Stands (table_of wf (tokens input) cell.dims) loops y s.at) (sym g.is) (g.stands n wf v),
    subst Proper (sym g.is) g.proper,
    λ wf v ranges deep. subst (λ (y : Block). Adds (table_of wf (tokens input) cell.dims) ranges s.at t.at (relatives_in_block ranges y)) (sym g.is) (g.adds wf v ranges deep),
  )

  -- a list of statements stands where it is read
  pub block_gives : (free loops : ℕ) → loops + free ≤ 16 → ReadsBlock T cell some_dims loops (read_block cell free loops)
  unfolding read_block
  block_gives zero loops l s x =
      given_as (repeated _ (turn_gives loops _ (record { expr = expression_gives T cell some_dims 0; inner_expr = λ s x. refused 14; inner_if = λ s x. refused 14; inner_loop = λ s x. refused 14; deep = λ e. absurd (let z : ◌≡◌ {A = ℕ} 0 1 = cc in omega arith) })) turns (λ after. after) s x)
      (λ b t g. going_block loops g)
  block_gives (suc free) loops l s x =
      given_as
      (repeated _
      (turn_gives loops _
      (record {
        expr = expression_gives T cell some_dims (suc free);
        inner_expr = expression_gives T cell some_dims free;
        inner_if = block_gives free loops (omega arith);
        inner_loop = block_gives free (loops + 1) (omega arith);
        deep = λ _. omega arith;
      }))
      turns (λ after. after) s x)
      (λ b t g. going_block loops g)
