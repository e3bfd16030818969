-- The laws of loops: a `forall` is read as its head, its body and its end. Assumes nothing.
use Prim.Native.Nat.{ℕ, ◌+◌}
use mathlib.Core.Path.{◌≡◌, refl, sym, ◌∙◌}
use mathlib.Core.Bool.{true}
use mathlib.Core.List.{List}
use Rattle.value.specs.Worked.{encode_of}
use Rattle.token.specs.declared.Scan.{Scan}
use Rattle.token.specs.Kind.{delimiter}
use Rattle.names.specs.Names.{name_kind}
use Rattle.program.specs.Syntax.{Range, Block, loop}
use Rattle.grammar.specs.Reader.{Result, ok, fail, Input, State, Reader, and_then, ◌>>=◌, return, position, advance, put_both, opening, expect_or, declare, fresh_name}
use Rattle.grammar.specs.Constants.{read_range}
use Rattle.grammar.specs.Statements.{read_forall, read_block}
use Rattle.read_state.specs.Promises.Reading.{input, state, anything, Gives, refusing}
use Rattle.read_state.specs.declared.Reading.{Reading}
use Rattle.read_state.specs.Promises.Reading.{Read}
use Rattle.read_state.proofs.Steps.{by_another, off, here, refused}
use Rattle.read_statements.specs.Promises.Promises.{loop_range, loop_head, loop_end, block_in, parts_in, forall_with}
use Rattle.read_expressions.specs.declared.inside.Inside.{Inside}
use Rattle.read_expressions.specs.Promises.Opening.{Entered}
use Rattle.read_expressions.specs.Promises.Promises.{cell_as}
use Rattle.read_expressions.proofs.Opening.{none_free, same_cell, loops_now, one_less}
use Rattle.std.specs.Prelude.{Option, Some, None}

module _ {A B : Type 0} (m : Reader A) (i : Input) (s : State) where
  regroup : {C : Type 0} (f : A → Reader B) (g : B → Reader C) → ((m >>= f) >>= g) i s ≡ (m >>= λ a. f a >>= g) i s
  unfolding ◌>>=◌
  regroup {C} f g = by (m i s)
    where
      by : (x : Result (A × State)) → and_then (and_then x (λ a t. f a i t)) (λ b t. g b i t) ≡ and_then x (λ a t. and_then (f a i t) (λ b u. g b i u))
      by (ok a) = refl
      by (fail n p) = refl

  same_after : (f g : A → Reader B) → ((a : A) (t : State) → f a i t ≡ g a i t) → (m >>= f) i s ≡ (m >>= g) i s
  unfolding ◌>>=◌
  same_after f g h = by (m i s)
    where
      by : (x : Result (A × State)) → and_then x (λ a t. f a i t) ≡ and_then x (λ a t. g a i t)
      by (ok a) = h a.0 a.1
      by (fail n p) = refl

return_on : {A B : Type 0} (a : A) (k : A → Reader B) (i : Input) (s : State) → (return a >>= k) i s ≡ k a i s
unfolding return ◌>>=◌
return_on a k i s = refl

-- a loop's range, and what follows
range_apart : {A : Type 0} (name : ℕ) (k : Range → Reader A) (i : Input) (s : State) → (loop_range name >>= k) i s ≡ (expect_or delimiter.colon 6 >>= λ _. read_range 4096 >>= λ r. put_both name (encode_of r.low) (encode_of r.high) >>= λ _. k r) i s
unfolding loop_range
range_apart name k i s =
    regroup (expect_or delimiter.colon 6) i s _ k
    ∙ same_after (expect_or delimiter.colon 6) i s _ _ (λ _ t.
    regroup (read_range 4096) i t _ k
    ∙ same_after (read_range 4096) i t _ _ (λ r u.
    regroup (put_both name (encode_of r.low) (encode_of r.high)) i u _ k
    ∙ same_after (put_both name (encode_of r.low) (encode_of r.high)) i u _ _ (λ _ v. return_on r k i v)))

-- a loop's index and range, and what follows
head_apart : {A : Type 0} (depth : ℕ) (k : Range × ℕ → Reader A) (i : Input) (s : State) → (loop_head depth >>= k) i s ≡ (fresh_name >>= λ name. expect_or delimiter.colon 6 >>= λ _. read_range 4096 >>= λ r. put_both name (encode_of r.low) (encode_of r.high) >>= λ _. declare name name_kind.index depth >>= λ slot. k (r, slot)) i s
unfolding loop_head
head_apart depth k i s =
    regroup fresh_name i s _ k
    ∙ same_after fresh_name i s _ _ (λ name t.
    regroup (loop_range name) i t _ k
    ∙ range_apart name _ i t
    ∙ same_after (expect_or delimiter.colon 6) i t _ _ (λ _ u.
    same_after (read_range 4096) i u _ _ (λ r v.
    same_after (put_both name (encode_of r.low) (encode_of r.high)) i v _ _ (λ _ w.
    regroup (declare name name_kind.index depth) i w _ k
    ∙ same_after (declare name name_kind.index depth) i w _ _ (λ slot x. return_on (r, slot) k i x)))))

-- an open loop: its head, its body and its end
abbrev forall_body : ℕ → Reader Block → Reader (Block → Block)
forall_body depth block = position >>= λ i. advance >>= λ _. loop_head depth >>= λ h. position >>= λ inner. block >>= λ body. loop_end i inner h.1 (loop h.0 body)

forall_apart : (depth : ℕ) (block : Reader Block) (i : Input) (s : State) → read_forall true depth block i s ≡ forall_body depth block i s
unfolding read_forall loop_end opening
forall_apart depth block i s =
    same_after position i s _ _ (λ at t.
    same_after advance i t _ _ (λ _ u. sym (head_apart depth (λ h. position >>= λ inner. block >>= λ body. loop_end at inner h.1 (loop h.0 body)) i u)))

module _ (inside : Inside) {o : Option Inside} (x : Entered (inside.loops + 1) inside o) {source : List ℕ} {sc : Scan} {s : Reading} {ns ws : List ℕ} {r : Read} where
  pub forall_open : {inner : Inside} {ns₁ ws₁ : List ℕ} → o ≡ Some inner → Gives anything (forall_body inside.loops (block_in inner)) source sc s ns ws r ns₁ ws₁ → Gives anything (forall_with (parts_in inside) inside.loops) source sc s ns ws r ns₁ ws₁
  forall_open {inner} e y =
      rw (← one_less (inside.loops + 1) inside x e, ← same_cell (inside.loops + 1) inside x e)
      (by_another
      (forall_apart inside.loops (read_block (cell_as inner.cell) inner.free (inside.loops + 1)) (input source sc) (state s ns ws))
      (rw (loops_now (inside.loops + 1) inside x e) at y))

  pub forall_shut : o ≡ None → r ≡ refusing ws sc s s.at 14 → Gives anything (forall_with (parts_in inside) inside.loops) source sc s ns ws r ns ws
  unfolding read_forall opening
  forall_shut e y = rw (none_free (inside.loops + 1) inside x e) (here _ (off {R = anything} _ (refused 14 y) y))

-- a loop's end, with the slot that the code has
pub ended_at : {R : (Block → Block) → Reading → Type 0} (i inner : ℕ) {slot n : ℕ} (x : Block → Block) {source : List ℕ} {sc : Scan} {s : Reading} {ns ws ns₁ ws₁ : List ℕ} {r : Read} → slot ≡ n → Gives R (loop_end i inner n x) source sc s ns ws r ns₁ ws₁ → Gives R (loop_end i inner slot x) source sc s ns ws r ns₁ ws₁
ended_at i inner x e y = rw e y
