-- In every source that is accepted, `exit` stands in a loop.
use Prim.Native.Nat.{ℕ, zero, suc, ◌+◌, ◌<◌, ◌≤◌}
use native.Mathlib.Omega.{arith}
use mathlib.Core.Path.{◌≡◌, sym, subst}
use mathlib.Core.Bool.{Bool, ◌&&◌}
use mathlib.Core.List.{List, [], ◌∷◌, ◌++◌}
use lib.Dec.{ltb}
use lib.ListN.{length}
use borrow.Author.Tests.{ltb-true}
use Rattle.value.specs.Limits.{most_open}
use Rattle.value.proofs.Theorems.Laws.{and_both}
use Rattle.token.specs.Kind.{keyword}
use Rattle.program.specs.Syntax.{Expr, Block, empty, assign, loop, exit, constant}
use Rattle.grammar.specs.Reader.{Input, State, ok, Reader, again, done, turns, is_kind, is_name, token_of}
use Rattle.grammar.specs.Expressions.{Cell}
use Rattle.grammar.specs.Statements.{Arm, choices, arm_end, arm_turn, read_if, read_forall, read_exit, read_assignment, Parts, statement_turn, read_block}
use Rattle.grammar.specs.Source.{input_of, Accepted, parse}
use Rattle.grammar.proofs.Theorems.Ends.{Gives, bind}
use Rattle.read_links.proofs.Theorems.Steps.{made, gave, choose, refused, repeated, Turned, at_token}
use Rattle.read_links.proofs.Theorems.Accepted.{parsed}
use Rattle.move_meaning.proofs.Theorems.Moving.{Enclosed}

-- a statement keeps this of those after it
abbrev Adds : ℕ → (Block → Block) → Type 0
Adds d f = (rest : Block) → Enclosed d rest → Enclosed d (f rest)

-- nothing is asked of what a reader gives
anything : {A : Type 0} {input : Input} {s : State} (m : Reader A) → Gives input m s (λ _ _. Unit {0})
anything m = record { is = λ a t e. tt }

-- ---- choices

abbrev Arms : ℕ → List Arm → Type 0
Arms d [] = Unit {0}
Arms d (a ∷ more) = Enclosed d a.part × Arms d more

arms_more : (d : ℕ) (got : List Arm) (a : Arm) → Arms d got → Enclosed d a.part → Arms d (got ++ a ∷ [])
arms_more d [] a h e = (e, tt)
arms_more d (b ∷ got) a h e = (h.0, arms_more d got a h.1 e)

choices_add : (d : ℕ) (arms : List Arm) → Arms d arms → (last : Block) → Enclosed d last → Adds d (choices arms last)
unfolding choices
choices_add d [] h last e rest r = e
choices_add d (a ∷ more) h last e rest r = (h.0, choices_add d more h.1 last e empty tt, r)

module _ (input : Input) (cell : Cell) where
  assignment_adds : (d : ℕ) (expr : Reader Expr) (s : State) → Gives input (read_assignment cell expr) s (λ f _. Adds d f)
  unfolding read_assignment
  assignment_adds d expr s =
      bind (anything _) (λ i _ _. bind (anything _) (λ to _ _. bind (anything _) (λ _ _ _. bind (anything _) (λ cs _ _. bind (anything _) (λ past _ _. bind (anything _) (λ _ _ _.
      gave (assign to cs) (λ rest h. h)))))))

  exit_adds : (d : ℕ) → 0 < d → (s : State) → Gives input read_exit s (λ f _. Adds d f)
  unfolding read_exit
  exit_adds d l s = bind (anything _) (λ i _ _. bind (anything _) (λ _ _ _. bind (anything _) (λ _ _ _. gave exit (λ rest h. (l, h)))))

  -- what is asked of the reader of a part
  abbrev pub Reads : ℕ → Reader Block → Type 0
  Reads d block = (s : State) → Gives input block s (λ b _. Enclosed d b)

  arm_end_adds : (d : ℕ) (block : Reader Block) → Reads d block → (got arms : List Arm) → Arms d arms → (s₀ s : State)
      → Gives input (arm_end block arms) s (Turned (λ arms _. Arms d arms) (λ _ _ f _. Adds d f) got s₀)
  unfolding arm_end
  arm_end_adds d block reads got arms h s₀ s =
      at_token _
      (choose (is_kind (token_of input s s.at) keyword.elsif) (λ _. gave (again arms) (h, λ r u q. q))
      (λ _.
      choose (is_kind (token_of input s s.at) keyword.else)
      (λ _. made _ (bind (bind (anything _) (λ _ t _. reads t)) (λ b t e. bind (anything _) (λ _ u _. gave b e))) (λ b t e. choices_add d arms h b e))
      (λ _. bind (anything _) (λ _ t _. gave (done (choices arms empty)) (choices_add d arms h empty tt)))))

  arm_turn_adds : (d : ℕ) (expr : Reader Expr) (block : Reader Block) → Reads d block → (got : List Arm) (s : State) → Arms d got
      → Gives input (arm_turn expr block got) s (Turned (λ arms _. Arms d arms) (λ _ _ f _. Adds d f) got s)
  unfolding arm_turn
  arm_turn_adds d expr block reads got s h =
      bind (anything _) (λ i _ _. bind (anything _) (λ _ _ _. bind (anything _) (λ c _ _. bind (anything _) (λ _ t _.
      bind (reads t) (λ b _ e. bind (anything _) (λ past _ _. bind (anything _) (λ _ u _.
      arm_end_adds d block reads got _ (arms_more d got _ h e) s u)))))))

  if_adds : (d : ℕ) (free : Bool) (expr : Reader Expr) (block : Reader Block) → Reads d block → (s : State) → Gives input (read_if free expr block) s (λ f _. Adds d f)
  unfolding read_if
  if_adds d free expr block reads s =
      choose free
      (λ _.
      bind (anything _) (λ i t _.
      bind (repeated (arm_turn expr block) (λ got s h. arm_turn_adds d expr block reads got s h) turns [] t tt) (λ statement _ h.
      bind (anything _) (λ past _ _. bind (anything _) (λ _ _ _. gave statement h)))))
      (λ _. refused 14)

  -- ---- loops

  forall_adds : (d : ℕ) (free : Bool) (block : Reader Block) → Reads (d + 1) block → (s : State) → Gives input (read_forall free d block) s (λ f _. Adds d f)
  unfolding read_forall
  forall_adds d free block reads s =
      bind (anything _) (λ i _ _. bind (anything _) (λ _ _ _. bind (anything _) (λ name _ _. bind (anything _) (λ _ _ _. bind (anything _) (λ r _ _.
      bind (anything _) (λ _ _ _. bind (anything _) (λ slot _ _. bind (anything _) (λ inner t _.
      bind (reads t) (λ b _ e. bind (anything _) (λ _ _ _. bind (anything _) (λ _ _ _. bind (anything _) (λ past _ _. bind (anything _) (λ _ _ _.
      gave (loop r b) (λ rest h. (subst (λ (n : ℕ). Enclosed n b) (omega arith) e, h)))))))))))))))

  -- ---- lists of statements

  record PartsRead (loops : ℕ) (parts : Parts) : Type 0 where
    pub inner_if : Reads loops (parts.inner loops)
    pub inner_loop : Reads (loops + 1) (parts.inner (loops + 1))

  turn_adds : (loops : ℕ) (parts : Parts) → PartsRead loops parts → (before : Block → Block) (s : State) → Adds loops before
      → Gives input (statement_turn cell parts loops before) s (Turned (λ f _. Adds loops f) (λ _ _ b _. Enclosed loops b) before s)
  unfolding statement_turn
  turn_adds loops parts reads before s h =
      at_token _
      (choose (is_name (token_of input s s.at)) (λ _. made _ (assignment_adds loops parts.expr s) (λ f t q. more f q))
      (λ _.
      choose (is_kind (token_of input s s.at) keyword.const) (λ _. made _ (anything _) (λ _ t _. more constant (λ rest r. r)))
      (λ _.
      choose (is_kind (token_of input s s.at) keyword.if) (λ _. made _ (if_adds loops parts.free parts.inner_expr (parts.inner loops) reads.inner_if s) (λ f t q. more f q))
      (λ _.
      choose (is_kind (token_of input s s.at) keyword.forall) (λ _. made _ (forall_adds loops parts.free (parts.inner (loops + 1)) reads.inner_loop s) (λ f t q. more f q))
      (λ _.
      choose (is_kind (token_of input s s.at) keyword.exit && ltb 0 loops)
      (λ q. made _ (exit_adds loops (ltb-true 0 loops (and_both (is_kind (token_of input s s.at) keyword.exit) (ltb 0 loops) q).1) s) (λ f t q. more f q))
      (λ _. gave (done (before empty)) (h empty tt)))))))
    where
      more : (f : Block → Block) → Adds loops f → Adds loops (λ after. before (f after)) × ((b : Block) (u : State) → Enclosed loops b → Enclosed loops b)
      more f q = (λ rest r. h (f rest) (q rest r), λ b u e. e)

  pub block_enclosed : (free loops : ℕ) → Reads loops (read_block cell free loops)
  unfolding read_block
  block_enclosed zero loops s =
      repeated _ (turn_adds loops _ (record { inner_if = λ s. refused 14; inner_loop = λ s. refused 14 })) turns (λ after. after) s (λ rest h. h)
  block_enclosed (suc free) loops s =
      repeated _ (turn_adds loops _ (record { inner_if = block_enclosed free loops; inner_loop = block_enclosed free (loops + 1) })) turns (λ after. after) s (λ rest h. h)

pub enclosed : (source : List ℕ) → length source ≤ 65535 → (a : Accepted) → parse source ≡ ok a → Enclosed 0 a.program.body
enclosed source short a e =
    let p = parsed source short a e in
    subst (λ (z : Accepted). Enclosed 0 z.program.body) (sym p.is) ((block_enclosed (input_of source) p.trace.declaration.cell most_open 0 p.trace.s₂).is p.trace.body p.trace.s₃ p.trace.block)
